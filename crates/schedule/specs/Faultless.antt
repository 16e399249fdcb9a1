-- The record of the server, which knows of no fault: that of a run without its faults.
use Rattle.std.specs.Prelude.{◌≡◌, ℕ, List, [], ◌∷◌}
use Rattle.layout.specs.declared.Geometry.{Geometry}
use Rattle.tree.specs.Tree.{Tree}
use Rattle.records.specs.Marks.{Mark, Fault, Started, Answered, Flush, GaveUp, Took, Issued, last_started, gave_up}
use Rattle.message.specs.declared.Incoming.{Incoming}
use Rattle.records.specs.Open.{open_requests, greatest, IsWellFormed}
use Rattle.records.specs.Told.{received}
use Rattle.records.specs.Disk.{Contents, disk_after, unsure, HasTrueReplies}
use Rattle.records.specs.Legal.{IsLegal, tree_after}
use Rattle.records.specs.View.{Frames, ReadsBack}
use Rattle.records.specs.Area.{WritesInside}
use Rattle.records.specs.Settled.{LookingWritesNothing, is_settled, none_written}

-- the marks but for the faults
abbrev pub without_faults : List Mark → List Mark
without_faults [] = []
without_faults (Fault e cause ∷ marks) = without_faults marks
without_faults (Started e ∷ marks) = Started e ∷ without_faults marks
without_faults (Answered a ∷ marks) = Answered a ∷ without_faults marks
without_faults (Flush ∷ marks) = Flush ∷ without_faults marks
without_faults (GaveUp ∷ marks) = GaveUp ∷ without_faults marks
without_faults (Took who now call answer ∷ marks) = Took who now call answer ∷ without_faults marks
without_faults (Issued r e ∷ marks) = Issued r e ∷ without_faults marks

-- faults change nothing of what a record says of requests, the disk and the tree, and what holds of the record without them holds of it
pub record FaultsChangeNothing (marks : List Mark) : Type 0 where
  pub started : last_started (without_faults marks) ≡ last_started marks
  pub given_up : gave_up (without_faults marks) ≡ gave_up marks
  pub greatest_is : greatest (without_faults marks) ≡ greatest marks
  pub opened_same : open_requests (without_faults marks) ≡ open_requests marks
  pub disk : (image : Contents) (place : ℕ) → disk_after image (without_faults marks) place ≡ disk_after image marks place
  pub sure : (place : ℕ) → unsure (without_faults marks) place ≡ unsure marks place
  pub well_formed : IsWellFormed (without_faults marks) → IsWellFormed marks
  pub inside : (g : Geometry) → WritesInside g (without_faults marks) → WritesInside g marks
  pub true_replies : (image : Contents) → HasTrueReplies image (without_faults marks) → HasTrueReplies image marks
  pub tree_is : (g : Geometry) (tree : Tree) → tree_after g tree (without_faults marks) ≡ tree_after g tree marks
  pub legal : (g : Geometry) (image : Contents) (tree : Tree) → IsLegal g image tree (without_faults marks) → IsLegal g image tree marks
  pub reads_back : (g : Geometry) (frames : Frames) (image : Contents) (tree : Tree) → ReadsBack g frames image tree (without_faults marks)
      → ReadsBack g frames image tree marks
  pub looking : (g : Geometry) (tree : Tree) → LookingWritesNothing g tree (without_faults marks) → LookingWritesNothing g tree marks
  pub settled : (g : Geometry) (tree : Tree) → is_settled g tree (without_faults marks) ≡ is_settled g tree marks
  pub written : none_written (without_faults marks) ≡ none_written marks

-- a message leaves the same mark in the record without faults, or none in both
abbrev pub LeaveSameMark : Incoming → List Mark → Type 0
LeaveSameMark message marks = without_faults (received message marks) ≡ received message (without_faults marks)
