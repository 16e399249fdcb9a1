use Rattle.std.proofs.Common.{◌<◌, arith, length, take, refl}
use Rattle.schedule.specs.Entries.{entry_in}
use Rattle.schedule.specs.LogView.{entries_of}
use Rattle.schedule.specs.Noted.{marks_in, all_noted, nothing_noted}
use Rattle.transcript.proofs.Notes.{next_noted, shows_one, shows_same}
use Rattle.transcript.proofs.shown.shown_marks.Goals as goal
use Rattle.transcript.proofs.shown.shown_marks.Goals.{in-Some+in_ok-push, in_default}

pub loop-at-preserved : goal.loop-at-preserved
loop-at-preserved c =
    let entries = entries_of c.args.log.now in
    let noted = all_noted (take c.loop-at.at entries) nothing_noted in
    let within : c.loop-at.at < length entries = omega (arith, c.loop-at-test.true, c.len-at-end.ensures) in
    let next = next_noted entries c.loop-at.at (entry_in c.entry.result) within c.entry.ensures in
    let left = c.in_ok-mark.ensures.left noted c.loop-at.invariant.0 in
    rw next (
      left.heard,
      elim c.match-branch-3.branch [
        | in-Some+in_ok-push w ↦
            shows_one c.loop-at.shown.items _ c.in_ok-mark.field-0 w.in-Some.mark (marks_in noted) _ w.in-Some.is
            (rw w.shown-is w.in_ok-push.ensures.items) c.loop-at.invariant.1 left.is
        | in_default w ↦ shows_same c.loop-at.shown.items _ c.in_ok-mark.field-0 (marks_in noted) _ w.in_default.is (rw w.shown-is refl)
            c.loop-at.invariant.1 left.is
      ],
    )
