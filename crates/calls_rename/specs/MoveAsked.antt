-- What a rename knows of the tree when it comes to move.
use Rattle.std.specs.Prelude.{◌≡◌, ℕ, false, Option, Some, true, ◌&&◌, IsTrue}
use Rattle.layout.specs.declared.Geometry.{Geometry}
use Rattle.tree.specs.Names.{inode_of, is_name}
use Rattle.tree.specs.Tree.{Node, Tree, is_dir, names_of}
use Rattle.tree.specs.IsTree.{IsTree}
use Rattle.tree.specs.NameCalls.{is_same, is_within}
use Rattle.inode_operations.specs.declared.moves.Move.{Move}

-- Both directories are there, the old name leads to what moves, the new one to what stands there, if anything, which is another; and what
-- moves isn't a directory that the new place lies in.
pub record IsAsked (g : Geometry) (t : Tree) (m : Move) (there : Option ℕ) (from to node : Node) : Type 0 where
  pub tree : IsTree g t
  pub from_there : t.nodes m.from ≡ Some from
  pub from_kind : is_dir from ≡ true
  pub leads : inode_of (names_of (Some from)) m.old.now ≡ Some m.number
  pub to_there : t.nodes m.to ≡ Some to
  pub to_kind : is_dir to ≡ true
  pub finds : inode_of (names_of (Some to)) m.new.now ≡ there
  pub node_there : t.nodes m.number ≡ Some node
  pub kind : is_dir node ≡ m.is_directory
  pub named : IsTrue (is_name m.new.now)
  pub other : is_same m.number there ≡ false
  pub apart : (is_dir node && is_within g t m.to m.number) ≡ false
