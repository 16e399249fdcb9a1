-- What a client call does on a volume, whatever tree the volume holds.
use Rattle.std.specs.Prelude.{ℕ, Result, IsTrue}
use Rattle.layout.specs.declared.Geometry.{Geometry}
use Rattle.tree.specs.declared.Who.{Who}
use Rattle.tree.specs.declared.Call.{Call}
use Rattle.tree.specs.declared.Reply.{Reply}
use Rattle.tree.specs.Tree.{Tree}
use Rattle.tree.specs.Answers.{Answer, answer_of}
use Rattle.volume.specs.Reading.{Disk}
use Rattle.volume.specs.Holds.{HoldsVolume}
use Rattle.records.specs.Legal.{IsReplyOf, tree_after_answer}
use Rattle.records.specs.Settled.{only_looks}
use Rattle.descriptors.specs.Files.{Files, HasFiles}
use Rattle.block_store.specs.World.{World, Turns}
use Rattle.block_store.specs.declared.Halt.{Halt}
use Rattle.block_store.specs.Halts.{Ends}
use Rattle.calls_attributes.specs.Does.{IsHeld}

-- the answer is the tree's or want of memory, and the tree after it would be read back, with these open files
pub record IsDone (g : Geometry) (t : Tree) (who : Who) (now : ℕ) (call : Call) (answer : Answer) (f : Files) (e : Disk) : Type 0 where
  pub replies : IsReplyOf g t who now call answer
  pub holds : HoldsVolume g e (tree_after_answer g t who now call answer)
  pub files : HasFiles f (tree_after_answer g t who now call answer)

-- so it is whatever tree would be read back before, with the open files that there were
pub record DoesCall (g : Geometry) (who : Who) (now : ℕ) (call : Call) (answer : Answer) (old new : Files) (d e : Disk) : Type 0 where
  pub each : (t : Tree) → HoldsVolume g d t → HasFiles old t → IsDone g t who now call answer new e

-- a call does this, with this reply, or it is cut off; that the volume isn't sound it says of none that holds a tree
abbrev pub MeetsCall : Geometry → Who → ℕ → Call → Result (Unit {0}) Halt → Reply → Files → Files → Disk → Disk → Type 0
MeetsCall g who now call result reply old new d e =
    Ends result (λ u. DoesCall g who now call (answer_of reply) old new d e) (IsHeld g (HasFiles old) d)

-- a call that only looks, of some tree that would be read back with these open files, looks at the blocks
abbrev pub OnlyLooks : {B : Type 0} → World B → Geometry → Who → Call → Files → B → B → Type 0
OnlyLooks w g who call f a b =
    Turns w a b (λ d e. (t : Tree) → HoldsVolume g d t → HasFiles f t → IsTrue (only_looks t who call) → w.looks a b)
