-- Nodes without a name, and other attributes, in the words of the tree.
use Rattle.std.specs.Prelude.{◌≡◌, ℕ, Some}
use Rattle.tree.specs.Tree.{Node, Tree, with_node}
use Rattle.tree.specs.Changes.{without_nameless}
use Rattle.descriptors.specs.Files.{Files, HasFiles}
use Rattle.inode_operations.specs.Steps.{left_of}

-- What is left of a node is what the tree leaves of it where it has no name and isn't open.
abbrev pub LeftIsLeft : Type 0
LeftIsLeft = (f : Files) (t : Tree) (n : ℕ) (x : Node) → HasFiles f t → t.nodes n ≡ Some x → without_nameless t n ≡ with_node t n (left_of f n x)

-- and the same of one that is put there first
abbrev pub PutIsLeft : Type 0
PutIsLeft = (f : Files) (t : Tree) (n : ℕ) (x : Node) → HasFiles f t → without_nameless (with_node t n (Some x)) n ≡ with_node t n (left_of f n x)
