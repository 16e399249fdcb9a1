use Rattle.message.specs.declared.BlockRequest.{BlockRequest}
use Rattle.std.proofs.Common.{◌∷◌, subst}
use Rattle.records.specs.Marks.{Issued}
use Rattle.schedule.specs.Noted.{marks_in}
use Rattle.trace_digest.specs.Heard.{IsHeard}
use Rattle.transcript.proofs.Notes.{leaves_one, leaves_message}
use Rattle.transcript.proofs.marks.mark_of_note.Goals as goal

pub returns-in_ok-issued_any-in-Posted-clause-left : goal.returns-in_ok-issued_any-in-Posted-clause-left
returns-in_ok-issued_any-in-Posted-clause-left c = λ n is.
    let issued = c.in_ok-issued_any-in-Posted.ensures.issued (marks_in n) c.in-Posted.to is in
    let P = λ (r : BlockRequest). IsHeard c.issued_any.new.self (Issued r c.in-Posted.to ∷ marks_in n) in
    let heard = subst P c.request.ensures issued in
    rw c.in-Posted.is (rw c.if-not-accepted.false (leaves_one _ n _ heard))

pub returns-in-Received-clause-left : goal.returns-in-Received-clause-left
returns-in-Received-clause-left c = λ n is. rw c.in-Received.is (leaves_message _ n _ _ (c.mark_of_message.ensures _ is))

pub returns-in-Handed-clause-left : goal.returns-in-Handed-clause-left
returns-in-Handed-clause-left c = λ n is. rw c.in-Handed.is (leaves_message _ n _ _ (c.mark_of_message-in-Handed.ensures _ is))
