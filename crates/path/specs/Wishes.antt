-- The bits of wishes, and whose a node is.
use Rattle.std.specs.Prelude.{◌≡◌, ℕ}
use Rattle.tree.specs.Tree.{Node}
use Rattle.tree.specs.Walk.{to_read, to_write, to_search}
use Rattle.path.specs.declared.access.Wish.{Wish}
use Rattle.path.specs.declared.access.Wish.TheVariants.{Read, Write, Search}

-- the bit of a wish
abbrev pub bit_of : Wish → ℕ
bit_of Read = to_read
bit_of Write = to_write
bit_of Search = to_search

-- the node has these permissions, this owner and this group
pub record IsWhose (node : Node) (permissions uid gid : ℕ) : Type 0 where
  pub permissions_are : node.permissions ≡ permissions
  pub owner : node.uid ≡ uid
  pub group : node.gid ≡ gid
