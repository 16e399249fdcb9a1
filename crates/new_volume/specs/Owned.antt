-- A new volume whose root belongs to a user and a group.
use Rattle.std.specs.Prelude.{ℕ, ◌==◌, None, Some, if◌then◌else◌}
use Rattle.layout.specs.declared.Geometry.{Geometry}
use Rattle.tree.specs.declared.User.{User}
use Rattle.lemmas.specs.Sums.{put}
use Rattle.tree.specs.Tree.{Node, Tree}
use Rattle.tree.specs.Changes.{new_node, empty_directory}
use Rattle.volume.specs.declared.Inode.{Inode}
use Rattle.volume.specs.Reading.{is_inode, inode_in}
use Rattle.volume.specs.Pieces.{Pieces, blank}
use Rattle.volume.specs.Fresh.{fresh_inode, fresh_pieces}

-- whose the root is where nothing else is said
abbrev pub user_0 : User
user_0 = record { uid = 0; gid = 0 }

-- the root's inode: that of a new volume, but for its owner
abbrev pub owned_inode : Geometry → ℕ → User → Inode
owned_inode g now owner = record (fresh_inode g now) { uid = owner.uid; gid = owner.gid }

-- the pieces of a new volume, with that inode
abbrev pub owned_pieces : Geometry → ℕ → User → Pieces
owned_pieces g now owner = record (fresh_pieces g now) {
  inodes = λ n. if n == 1 then owned_inode g now owner else (if is_inode g n then inode_in (λ p. 0) 0 else blank);
}

-- the root that the owner has, with mode 755
abbrev pub owned_root : ℕ → User → Node
owned_root now owner = new_node now owner 493 2 (empty_directory 1)

-- that root, and no open file
abbrev pub owned_tree : ℕ → User → Tree
owned_tree now owner = record { nodes = put (λ n. None) 1 (Some (owned_root now owner)); open_files = λ k. None; descriptors = λ s fd. None }
