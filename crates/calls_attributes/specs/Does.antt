-- What a body does on a volume, whatever tree the volume holds.
use Rattle.std.specs.Prelude.{◌≡◌, ◌⊎◌, true, Result, Ok, Err}
use Rattle.errno.specs.declared.Errno.TheVariants.{ENOMEM}
use Rattle.layout.specs.declared.Geometry.{Geometry}
use Rattle.tree.specs.declared.Reply.{Reply}
use Rattle.tree.specs.Tree.{Tree}
use Rattle.tree.specs.Answers.{Answer, Effect, refused, answer_of}
use Rattle.volume.specs.Reading.{Disk}
use Rattle.volume.specs.Holds.{HoldsVolume}
use Rattle.records.specs.Legal.{is_success}
use Rattle.block_store.specs.declared.Halt.{Halt}
use Rattle.block_store.specs.Halts.{Ends}

-- what an effect answers
abbrev pub answer_in : Effect → Answer
answer_in effect = elim effect [ Ok made ↦ made.0 | Err e ↦ refused e ]

-- and the tree that it leaves
abbrev pub tree_in : Tree → Effect → Tree
tree_in t effect = elim effect [ Ok made ↦ made.1 | Err e ↦ t ]

-- a volume of this geometry holds some tree of which this is said
pub record IsHeld (g : Geometry) (Before : Tree → Type 0) (d : Disk) : Type 0 where
  pub tree : Tree
  pub holds : HoldsVolume g d tree
  pub before : Before tree

-- the answer is the effect's, and the tree that it leaves would be read back
pub record IsMade (g : Geometry) (t : Tree) (effect : Effect) (answer : Answer) (After : Tree → Type 0) (e : Disk) : Type 0 where
  pub answers : answer ≡ answer_in effect
  pub holds : HoldsVolume g e (tree_in t effect)
  pub after : After (tree_in t effect)

-- there is no memory for the answer of a success, and the tree stays
pub record IsLacking (g : Geometry) (t : Tree) (effect : Effect) (answer : Answer) (After : Tree → Type 0) (e : Disk) : Type 0 where
  pub success : is_success (answer_in effect) ≡ true
  pub answers : answer ≡ refused ENOMEM
  pub holds : HoldsVolume g e t
  pub after : After t

-- each tree that is held before gives the answer, and is as the effect leaves it
pub record Does (g : Geometry) (effect : Tree → Effect) (answer : Answer) (Before After : Tree → Type 0) (d e : Disk) : Type 0 where
  pub each : (t : Tree) → HoldsVolume g d t → Before t → IsMade g t (effect t) answer After e

-- the same, but that memory may be wanting
pub record DoesOrLacks (g : Geometry) (effect : Tree → Effect) (answer : Answer) (Before After : Tree → Type 0) (d e : Disk) : Type 0 where
  pub each : (t : Tree) → HoldsVolume g d t → Before t → IsMade g t (effect t) answer After e ⊎ IsLacking g t (effect t) answer After e

-- a body does this, with this reply, or it is cut off; that the volume isn't sound it says of none that holds a tree
abbrev pub Meets : Geometry → (Tree → Effect) → Result (Unit {0}) Halt → Reply → (Tree → Type 0) → (Tree → Type 0) → Disk → Disk
    → Type 0
Meets g effect result reply Before After d e = Ends result (λ u. Does g effect (answer_of reply) Before After d e) (IsHeld g Before d)

-- the same, but that memory may be wanting
abbrev pub MeetsOrLacks : Geometry → (Tree → Effect) → Result (Unit {0}) Halt → Reply → (Tree → Type 0) → (Tree → Type 0) → Disk → Disk
    → Type 0
MeetsOrLacks g effect result reply Before After d e =
    Ends result (λ u. DoesOrLacks g effect (answer_of reply) Before After d e) (IsHeld g Before d)
