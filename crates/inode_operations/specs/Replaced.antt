-- What a rename makes of the node whose name another took.
use Rattle.std.specs.Prelude.{◌≡◌, ◌≢◌, ℕ, Bool, true, None, Some, if◌then◌else◌}
use Rattle.tree.specs.Tree.{Node, Tree, is_dir, on_node, with_node}
use Rattle.tree.specs.Changes.{fewer_links, with_link_lost, without_nameless}
use Rattle.tree.specs.Walk.{Place}
use Rattle.tree.specs.NameCalls.{without_replaced}
use Rattle.descriptors.specs.Files.{Files, HasFiles}
use Rattle.inode_operations.specs.Moves.{IsParent}

-- the tree without it, a directory or a file of this parent
abbrev pub without_it : ℕ → ℕ → ℕ → Bool → Tree → Tree
without_it now n parent directory t =
    if directory
    then with_node (on_node t parent (fewer_links 1)) n None
    else without_nameless (on_node t n (with_link_lost now)) n

-- a directory whose attributes changed at `now`
pub record IsFresh (now n : ℕ) (t : Tree) : Type 0 where
  pub node : Node
  pub parent : IsParent t n node
  pub time : node.ctime ≡ now

-- a node whose attributes changed at `now`, whatever its links
pub record HasChanged (now n : ℕ) (t : Tree) : Type 0 where
  pub node : Node
  pub there : t.nodes n ≡ Some node
  pub time : node.ctime ≡ now

-- The node is there where these files are open, and its parent, if it is a directory, is another node that changed at `now`.
pub record MayDropReplaced (f : Files) (now n parent : ℕ) (directory : Bool) (t : Tree) : Type 0 where
  pub node : Node
  pub there : t.nodes n ≡ Some node
  pub files : HasFiles f t
  pub changed : directory ≡ true → HasChanged now parent t
  pub apart : directory ≡ true → n ≢ parent

-- so the tree's own rename has it
abbrev pub ReplacedIsReplaced : Type 0
ReplacedIsReplaced = (t : Tree) (now n : ℕ) (new : Place) (other : Node) → without_replaced t now new n other ≡ without_it now n new.directory (is_dir other) t
