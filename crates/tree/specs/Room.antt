-- What the calls do to the room on a volume, and when they are refused for want of it.
use Rattle.std.specs.Prelude.{◌≡◌, ◌≤◌, ◌<◌, ◌+◌, ℕ, Bool, true, false, None, Ok, Err, IsTrue, is_some, ◌⊎◌}
use Rattle.layout.specs.declared.Geometry.{Geometry}
use Rattle.layout.specs.Places.{IsGeometry}
use Rattle.errno.specs.declared.Errno.TheVariants.{ENOSPC}
use Rattle.tree.specs.declared.Who.{Who}
use Rattle.tree.specs.declared.Call.{Call}
use Rattle.tree.specs.declared.Call.TheVariants.{Open, Write, Link, Mkdir, Rename, Symlink}
use Rattle.tree.specs.Tree.{Tree}
use Rattle.tree.specs.Space.{zones_used, data_zones}
use Rattle.tree.specs.Answers.{Answer}
use Rattle.tree.specs.Effects.{effect_of, tree_after_call}

-- After each call, refused or not, the tree fits the volume if it did before.
abbrev pub EveryCallFits : Type 0
EveryCallFits =
    (g : Geometry) (t : Tree) (who : Who) (now : ℕ) (call : Call) → IsGeometry g
    → zones_used g t ≤ data_zones g → zones_used g (tree_after_call g t who now call) ≤ data_zones g

-- the same volume with that many zones
abbrev pub with_zones : ℕ → Geometry → Geometry
with_zones z g = record g { zones = z }

-- each inode of the volume is taken
abbrev pub NoInodeFree : Geometry → Tree → Type 0
NoInodeFree g t = (n : ℕ) → 1 ≤ n → n ≤ g.inodes → IsTrue (is_some (t.nodes n))

-- on a volume of some number of zones the call leaves a tree that uses more zones than this one has
pub record IsTooBig (g : Geometry) (t : Tree) (who : Who) (now : ℕ) (call : Call) : Type 0 where
  pub zones : ℕ
  pub made : Answer × Tree
  pub is_made : effect_of (with_zones zones g) t who now call ≡ Ok made
  pub too_big : data_zones g < zones_used g made.1

-- A call that would leave a tree too big for the volume is refused with ENOSPC.
abbrev pub TooBigIsRefused : Type 0
TooBigIsRefused =
    (g : Geometry) (t : Tree) (who : Who) (now : ℕ) (call : Call) → IsGeometry g → zones_used g t ≤ data_zones g
    → IsTooBig g t who now call → effect_of g t who now call ≡ Err ENOSPC

-- the calls that may make a node
abbrev pub may_make : Call → Bool
may_make (Open path flags mode) = true
may_make (Mkdir path mode) = true
may_make (Symlink target path) = true
may_make _ = false

-- a volume with one inode more, and with that many zones
abbrev pub with_one_inode_more : ℕ → Geometry → Geometry
with_one_inode_more z g = record g { zones = z; inodes = g.inodes + 1 }

-- on a volume with one inode more, and some number of zones, the call makes a node
pub record MakesWithOneMore (g : Geometry) (t : Tree) (who : Who) (now : ℕ) (call : Call) : Type 0 where
  pub zones : ℕ
  pub made : Answer × Tree
  pub is_made : effect_of (with_one_inode_more zones g) t who now call ≡ Ok made
  pub node : ℕ
  pub is_there : IsTrue (is_some (made.1.nodes node))
  pub is_new : t.nodes node ≡ None

-- A call that would make a node with one inode more is refused with ENOSPC where none is free.
abbrev pub FullIsRefused : Type 0
FullIsRefused =
    (g : Geometry) (t : Tree) (who : Who) (now : ℕ) (call : Call) → IsGeometry g → NoInodeFree g t
    → MakesWithOneMore g t who now call → effect_of g t who now call ≡ Err ENOSPC

-- no inode is free, and with one more, which no node has, the call would make a node
pub record LacksInode (g : Geometry) (t : Tree) (who : Who) (now : ℕ) (call : Call) : Type 0 where
  pub kind : may_make call ≡ true
  pub full : NoInodeFree g t
  pub makes : t.nodes (g.inodes + 1) ≡ None → MakesWithOneMore g t who now call

-- A call is refused with ENOSPC for no other reason than that the tree would be too big or an inode is wanting.
abbrev pub EnospcMeans : Type 0
EnospcMeans =
    (g : Geometry) (t : Tree) (who : Who) (now : ℕ) (call : Call) → IsGeometry g → effect_of g t who now call ≡ Err ENOSPC
    → IsTooBig g t who now call ⊎ LacksInode g t who now call

-- A call that succeeds where no inode is free makes no node, whatever zones there are.
abbrev pub FullMakesNone : Type 0
FullMakesNone =
    (g : Geometry) (t : Tree) (who : Who) (now zones : ℕ) (call : Call) (made : Answer × Tree) → IsGeometry g → NoInodeFree g t
    → effect_of (with_zones zones g) t who now call ≡ Ok made → (n : ℕ) → IsTrue (is_some (made.1.nodes n)) → IsTrue (is_some (t.nodes n))

-- the calls that may take zones or an inode
abbrev pub may_take : Call → Bool
may_take (Open path flags mode) = true
may_take (Write fd bytes) = true
may_take (Link old new) = true
may_take (Mkdir path mode) = true
may_take (Rename old new) = true
may_take (Symlink target path) = true
may_take _ = false

-- The others are never refused with ENOSPC.
abbrev pub OthersHaveRoom : Type 0
OthersHaveRoom =
    (g : Geometry) (t : Tree) (who : Who) (now : ℕ) (call : Call) → IsGeometry g → may_take call ≡ false → effect_of g t who now call ≡ Err ENOSPC → ⊥
