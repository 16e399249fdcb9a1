use Rattle.board.specs.Words.{mark_of}
use Rattle.board.specs.Keeper.{begins_before}
use Rattle.board.proofs.counting.recording_link.RecordingLinkRecorder.aside.Goals as goal

pub returns-then-leaves_mark-clause-goes : goal.returns-then-leaves_mark-clause-goes
returns-then-leaves_mark-clause-goes g c =
    (c.aside.ensures.goes, begins_before (mark_of c.in_ok-message.message) _ _ c.note.ensures.record_is, c.note.ensures.numbers)
