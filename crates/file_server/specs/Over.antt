-- What a server over a link keeps: what each server keeps at a call and at a message, and that what its link guarantees goes on.
use Rattle.std.specs.Prelude.{◌≡◌, ℕ, List, [], ◌∷◌, ◌++◌}
use Rattle.message.specs.declared.Incoming.{Incoming}
use Rattle.tree.specs.declared.Who.{Who}
use Rattle.tree.specs.declared.Call.{Call}
use Rattle.tree.specs.declared.Reply.{Reply}
use Rattle.tree.specs.declared.Outcome.{Outcome as TreeOutcome}
use Rattle.tree.specs.declared.Outcome.TheVariants as tree
use Rattle.tree.specs.Tree.{Tree}
use Rattle.tree.specs.Answers.{answer_of}
use Rattle.records.specs.Marks.{Mark}
use Rattle.records.specs.Disk.{Contents}
use Rattle.records.specs.Opening.{Opening, contents_at}
use Rattle.records.specs.Told.{received}
use Rattle.records.specs.Acts.{Absorbed, marks_after}
use Rattle.records.specs.ServerCall.{Serving, Serves, Outcome, Replied, Cut, CallKeeps, AbsorbKeeps}
use Rattle.reissue.specs.Calls.{Truth}
use Rattle.file_server.specs.declared.Ending.{Ending}
use Rattle.file_server.specs.declared.Ending.TheVariants as ending

-- what a call gave back
abbrev pub outcome_of : TreeOutcome → Outcome
outcome_of (tree.Reply r) = Replied (answer_of r)
outcome_of tree.Cut = Cut

-- the outcome of a call that ended so, whose reply stands where it was to be written
abbrev pub outcome_in : Ending → Reply → TreeOutcome
outcome_in ending.Answered r = tree.Reply r
outcome_in ending.Cut r = tree.Cut

-- One call over a link: what its link guarantees of a record that the server agrees with it guarantees after the call, up to the call's own
-- mark, which the server doesn't note.
pub record CallSpecification (old new : Serving) (was is : Truth) (who : Who) (now : ℕ) (call : Call) (outcome : Outcome) : Type 0 where
  pub keeps : CallKeeps old who now call outcome new
  pub truth : (v : Opening) (tree : Tree) (marks : List Mark) → v.minor ≡ old.minor → old.Agrees (contents_at v) tree marks
      → was v marks → is v (marks_after keeps.acts marks)

-- One message between two calls: the link has noted it already, so its guarantee is of the record with it.
pub record AbsorbsOver (old new : Serving) (was is : Truth) (message : Incoming) : Type 0 where
  pub keeps : AbsorbKeeps old message new
  pub truth : (v : Opening) (tree : Tree) (marks : List Mark) → v.minor ≡ old.minor → old.Agrees (contents_at v) tree marks
      → was v (received message marks) → is v (marks_after (keeps.later ++ Absorbed message ∷ []) marks)

-- two servers of which contracts see the same
pub record SameServing (old new : Serving) : Type 0 where
  pub geometry : new.geometry ≡ old.geometry
  pub minor : new.minor ≡ old.minor
  pub agrees : (image : Contents) (tree : Tree) (marks : List Mark) → old.Agrees image tree marks → new.Agrees image tree marks
  pub frames : new.frames ≡ old.frames
  pub frame_count : new.frame_count ≡ old.frame_count
  pub outbox : new.outbox ≡ old.outbox
  pub is_busy : new.is_busy ≡ old.is_busy
  pub told : new.told ≡ old.told
  pub ended : new.ended ≡ old.ended
  pub settled : old.settled → new.settled
  pub unwritten : new.unwritten ≡ old.unwritten
  pub overtaken : new.overtaken ≡ old.overtaken
  pub wanted : new.wanted ≡ old.wanted

-- the server serves with this record, and its link guarantees this one
pub record Hears (s : Serving) (guarantee : Truth) (v : Opening) (tree : Tree) (marks noted : List Mark) : Type 0 where
  pub minor : v.minor ≡ s.minor
  pub serves : Serves s (contents_at v) tree marks
  pub truth : guarantee v noted

-- the server serves with this record, of which its link gives its guarantee
abbrev pub Stands : Serving → Truth → Opening → Tree → List Mark → Type 0
Stands s guarantee v tree marks = Hears s guarantee v tree marks marks
