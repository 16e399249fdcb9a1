-- What all that is known keeps, whatever becomes of it.
use Rattle.std.specs.Prelude.{⊤, ◌≡◌, ◌<◌, ℕ, true, false, Option, Some, None, IsSome, IfSome, IsSomeAnd}
use Rattle.fuse_nodes.specs.Known.{Facts, Known, at_first, is_stale}
use Rattle.fuse_nodes.specs.Changes.{told, number_in, forgotten, opened, closed, without_descriptor, with_descriptor, lost}
use Rattle.fuse_nodes.specs.declared.node.Descriptor.{Descriptor}
use Rattle.fuse_nodes.specs.declared.node.NodeKind.{NodeKind}

-- the root is there; numbers that are used lie below the next one; the number of an inode's node is that of a node with this inode, which
-- can't be another file's; and each such node is its inode's
pub record IsSound (k : Known) : Type 0 where
  pub root : IsSomeAnd (k.nodes 1) (λ facts. facts.inode ≡ 1)
  pub below : (id : ℕ) → IsSome (k.nodes id) → id < k.next
  pub numbered : (inode id : ℕ) → k.numbers inode ≡ Some id
      → IsSomeAnd (k.nodes id) (λ facts. (facts.inode ≡ inode) × (is_stale facts ≡ false))
  pub leads : (id : ℕ) (facts : Facts) → k.nodes id ≡ Some facts → is_stale facts ≡ false → k.numbers facts.inode ≡ Some id

-- what a call makes of what is known
pub data Step (k : Known) : Known → Type 0 where
  Told : (inode : ℕ) (kind : NodeKind) → Step k (told k inode kind)
  Forgotten : (id count : ℕ) → Step k (forgotten k id count)
  Opened : (id : ℕ) (descriptor : Option Descriptor) → Step k (opened k id descriptor)
  Closed : (id : ℕ) → Step k (closed k id)
  Given : (id : ℕ) → Step k (without_descriptor k id)
  Got : (id : ℕ) (descriptor : Descriptor) → Step k (with_descriptor k id descriptor)
  Lost : (inode : ℕ) → Step k (lost k inode)

-- what many make of it, one behind the other
pub data Steps (k : Known) : Known → Type 0 where
  Starts : Steps k k
  Then : (l m : Known) → Steps k l → Step l m → Steps k m

-- Of a number: it has no node later that it hadn't before, and a node that it has is the same file still.
abbrev pub IsSameFile : Option Facts → Option Facts → Type 0
IsSameFile before None = ⊤
IsSameFile None (Some later) = ⊥
IsSameFile (Some before) (Some later) = (later.inode ≡ before.inode) × (later.kind ≡ before.kind)

-- What is known at first is sound, and stays so.
abbrev pub StaysSound : Type 0
StaysSound = (k : Known) → Steps at_first k → IsSound k

-- A number that was used is never used for another file, nor again once its node is gone.
abbrev pub NumbersStay : Type 0
NumbersStay = (k l : Known) → IsSound k → Steps k l → (id : ℕ) → id < k.next → IsSameFile (k.nodes id) (l.nodes id)

-- The number by which a node is told is that of a node with this inode, which isn't gone.
abbrev pub IsToldByItsNumber : Type 0
IsToldByItsNumber = (k : Known) → IsSound k → (inode : ℕ) (kind : NodeKind)
    → IsSomeAnd ((told k inode kind).nodes (number_in k inode)) (λ facts. (facts.inode ≡ inode) × (facts.gone ≡ false))

-- An inode has no node, or one whose last name was taken from it.
abbrev pub IsLost : Known → ℕ → Type 0
IsLost k inode = IfSome (k.numbers inode) (λ id. IfSome (k.nodes id) (λ facts. facts.gone ≡ true))

-- Then so is each node with this inode, by whatever number it is known: none that isn't open leads to what stands there next.
abbrev pub LostLeadNowhere : Type 0
LostLeadNowhere = (k : Known) → IsSound k → (inode : ℕ) → IsLost k inode → (id : ℕ) (facts : Facts) → k.nodes id ≡ Some facts
    → facts.inode ≡ inode → facts.gone ≡ true
