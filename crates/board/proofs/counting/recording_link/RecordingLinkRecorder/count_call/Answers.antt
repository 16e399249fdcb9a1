use Rattle.std.proofs.Common.{refl}
use Rattle.board.proofs.counting.recording_link.RecordingLinkRecorder.count_call.Goals as goal

pub returns-clause-same : goal.returns-clause-same
returns-clause-same g c = record {
  same_history = refl;
  same_budget = refl;
  same_room = refl;
  runs = λ policy supply runs. runs;
}
