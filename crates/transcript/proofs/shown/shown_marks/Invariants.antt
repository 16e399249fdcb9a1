use Rattle.std.proofs.Common.{◌≡◌, take}
use Rattle.std.specs.Prelude.{map, reverse}
use Rattle.schedule.specs.LogView.{entries_of}
use Rattle.schedule.specs.Noted.{marks_in, all_noted, nothing_noted}
use Rattle.reply_text.specs.TranscriptText.{mark_of}
use Rattle.trace_digest.specs.Heard.{IsHeard}
use Rattle.transcript.proofs.shown.shown_marks.Given as goal

-- the marks of the notes so far are shown, and what is kept is what they say
abbrev pub invariant-loop-at : goal.invariant-loop-at
invariant-loop-at l =
    let marks = marks_in (all_noted (take l.at (entries_of l.log)) nothing_noted) in
    IsHeard l.heard marks × (map mark_of l.shown.items ≡ reverse marks)
