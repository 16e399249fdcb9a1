-- What each mark changes of the disk and of the unsure places.
use Rattle.std.specs.Prelude.{◌≡◌, ℕ, ◌+◌, ◌-◌, ◌≤◌, ◌<◌, List, [], ◌∷◌, Bool, true, false, not, ◌||◌, ◌&&◌, Option, Some, slice_index, if◌then◌else◌, refl}
use Rattle.std.proofs.Common.{arith}
use Rattle.std.proofs.lemmas.Bool.Decides.{nat_tests}
use Rattle.message.specs.declared.endpoint.Endpoint.{Endpoint}
use Rattle.message.specs.Good.{is_write}
use Rattle.message.specs.declared.BlockRequest.{BlockRequest}
use Rattle.message.specs.declared.BlockReply.{BlockReply}
use Rattle.records.specs.Marks.{Mark, Started, Answered, Flush, GaveUp, Took, Issued, Fault}
use Rattle.records.specs.Open.{asked_by, moved_by}
use Rattle.records.specs.Disk.{Contents, disk_after, unsure, settles, byte_for}
use Rattle.records.specs.Laws.{IssueChanges, AnswerChanges, MarksChangeDisk, is_written}

-- an issue makes the places of a write unsure, and no others
issue_changes : (r : BlockRequest) (e : Endpoint) (marks : List Mark) → IssueChanges r e marks
issue_changes r e marks = record {
  disk = λ image. refl;
  covered = λ place write covered. rw (write, covered) refl;
  others = λ place none. rw none refl;
}

-- a place within the bytes moved is settled
settled : (r : BlockRequest) (n place : ℕ) → is_write r.kind ≡ true → r.position ≤ place → place < r.position + n
    → settles (Some r) (Some n) place ≡ true
settled r n place write from until = rw write (grind (arith, nat_tests))

-- what a settling answer does at the place
at_moved : (o : Option BlockRequest) (m : Option ℕ) (r : BlockRequest) (n place old : ℕ) (b : Bool) → o ≡ Some r → m ≡ Some n
    → is_write r.kind ≡ true → r.position ≤ place → place < r.position + n
    → ((if settles o m place then byte_for o place else old) ≡ slice_index r.bytes (place - r.position))
    × ((not (settles o m place) && b) ≡ false)
at_moved o m r n place old b asked moved write from until =
    (rw (asked, moved, settled r n place write from until) refl, rw (asked, moved, settled r n place write from until) refl)

-- and elsewhere
answer_changes : (a : BlockReply) (marks : List Mark) → AnswerChanges a marks
answer_changes a marks = record {
  moved = λ image r n place asked moved write from until.
      at_moved (asked_by a marks) (moved_by a marks) r n place (disk_after image marks place) (unsure marks place) asked moved write from until;
  others = λ image place none. (rw none refl, rw none refl);
}

-- the other marks leave both
pub marks_change_disk : MarksChangeDisk
marks_change_disk = record {
  started = λ e. record { disk = λ image marks. refl; sure = λ marks. refl };
  flush = record { disk = λ image marks. refl; sure = λ marks. refl };
  given_up = record { disk = λ image marks. refl; sure = λ marks. refl };
  took = λ who now call answer. record { disk = λ image marks. refl; sure = λ marks. refl };
  fault = λ e cause. record { disk = λ image marks. refl; sure = λ marks. refl };
  issued = issue_changes;
  answered = answer_changes;
}

-- where an answer settles nothing the byte is the one before it
unsettled : (b rest : Bool) (new old first : ℕ) → (rest ≡ false → old ≡ first) → (b || rest) ≡ false → (if b then new else old) ≡ first
unsettled true rest new old first before none = cc
unsettled false rest new old first before none = before none

-- where no good write was the disk is the image
pub unwritten_is_image : (image : Contents) (marks : List Mark) (place : ℕ) → is_written marks place ≡ false → disk_after image marks place ≡ image place
unwritten_is_image image [] place none = refl
unwritten_is_image image (Started e ∷ marks) place none = unwritten_is_image image marks place none
unwritten_is_image image (Answered a ∷ marks) place none =
    unsettled (settles (asked_by a marks) (moved_by a marks) place) (is_written marks place) (byte_for (asked_by a marks) place)
    (disk_after image marks place) (image place) (unwritten_is_image image marks place) none
unwritten_is_image image (Flush ∷ marks) place none = unwritten_is_image image marks place none
unwritten_is_image image (GaveUp ∷ marks) place none = unwritten_is_image image marks place none
unwritten_is_image image (Took who now call said ∷ marks) place none = unwritten_is_image image marks place none
unwritten_is_image image (Issued r e ∷ marks) place none = unwritten_is_image image marks place none
unwritten_is_image image (Fault e cause ∷ marks) place none = unwritten_is_image image marks place none
