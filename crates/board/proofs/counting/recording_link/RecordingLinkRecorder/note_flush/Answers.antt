use Rattle.std.proofs.Common.{List, ◌∷◌, ◌∙◌, ap, refl}
use Rattle.records.specs.Marks.{Mark, Flush}
use Rattle.board.proofs.counting.recording_link.RecordingLinkRecorder.note_flush.Goals as goal

pub returns-clause-same : goal.returns-clause-same
returns-clause-same g c = record {
  same_history = refl;
  same_budget = refl;
  same_room = refl;
  runs = λ policy supply runs. runs;
}

pub returns-clause-truth : goal.returns-clause-truth
returns-clause-truth g c = λ v older truth. (
  g.met.L.Steady.flushes c.args.self.now.link v older truth.0,
  c.note.ensures.record_is ∙ ap (λ (ms : List Mark). Flush ∷ ms) truth.1,
  c.takes.ensures older refl truth.2,
  truth.3,
)
