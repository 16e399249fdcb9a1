use Rattle.std.proofs.Common.{List, ◌∷◌, ◌∙◌, ap, subst, sym}
use Rattle.std.proofs.lemmas.Result.{on_ok_weaker}
use Rattle.records.specs.Marks.{Mark, Issued}
use Rattle.file_server.specs.Leaving.{IsEndLast}
use Rattle.board.specs.Keeper.{begins_before}
use Rattle.board.proofs.counting.recording_link.RecordingLinkLink.post.Goals as goal

pub returns-then-is_ok-clause-accepted : goal.returns-then-is_ok-clause-accepted
returns-then-is_ok-clause-accepted g c = λ v marks truth.
    on_ok_weaker c.post-posted.result
    (λ posts may fits. (
      posts may fits,
      c.issue.ensures.record_is ∙ ap (λ (ms : List Mark). Issued c.args.request.now c.args.to ∷ ms) truth.1,
      c.issued.ensures marks c.args.to may truth.2,
      subst IsEndLast (sym c.post-posted.ensures.told) truth.3,
    ))
    (c.post-posted.ensures.accepted v marks truth.0)

pub returns-then-is_ok-clause-goes : goal.returns-then-is_ok-clause-goes
returns-then-is_ok-clause-goes g c =
    (c.post-posted.ensures.goes, begins_before (Issued c.args.request.now c.args.to) _ _ c.issue.ensures.record_is, c.issue.ensures.numbers)
