-- What isn't done about a driver's answer, and within the stat of examples/death.txt.
use Rattle.std.specs.Prelude.{◌≡◌, ℕ, List, [], ◌∷◌, length, Bool, true, false, Option, Some, refl}
use Rattle.std.proofs.Common.{arith, ap, sym, ◌∙◌}
use Rattle.lemmas.proofs.Options.{some_same}
use Rattle.message.specs.declared.BlockRequest.{BlockRequest}
use Rattle.message.specs.declared.Incoming.{Incoming}
use Rattle.message.specs.declared.Incoming.TheVariants as incoming
use Rattle.reincarnate.specs.Watch.{driver}
use Rattle.records.specs.Marks.{Mark, Answered}
use Rattle.records.specs.Open.{open_requests}
use Rattle.records.specs.Told.{Posted}
use Rattle.schedule.specs.Noted.{marks_in}
use Rattle.schedule.specs.declared.Event.TheVariants as event
use Rattle.simulated_link.specs.Disks.{Disks, Dies, NoneDies, CurrentDies, OlderDies}
use Rattle.simulated_link.specs.Moments.{Moment, Resting, Hearing, Answering, record_of, Step, Begins, Tells, Takes, Settles, Brings}
use Rattle.simulated_link.specs.Moments.{BringsNone, Pays, HandsCall, Replies}
use Rattle.simulated_link.specs.RunState.{begun}
use Rattle.simulated_link.specs.Scene.{Scene, Occurs}
use Rattle.tests_exact.proofs.Small.{area, torn, write_both}
use Rattle.tests_exact.proofs.Drivers.{reply_of}
use Rattle.tests_exact.proofs.Reading.{media_of, read}
use Rattle.tests_exact.proofs.Only.{next_event}
use Rattle.tests_exact.proofs.Determined.{leads_to}
use Rattle.tests_exact.proofs.Telling.{history, told_is_allowed}
use Rattle.tests_exact.proofs.WrongEvents.{after_death}
use Rattle.tests_exact.proofs.WrongSteps.{NoStep}
use Rattle.tests_exact.proofs.LateRow as late
use Rattle.tests_exact.proofs.ReadRow as row

-- the marks of a moment
abbrev marks : Moment → List Mark
marks m = marks_in m.run.scene.noted

-- where an answer is delivered between two calls, that is the only step
only_late : (a : Moment) → Step area late.restart_heard a → a ≡ late.late_heard
only_late a step =
    leads_to late.restart_heard (event.Deliver 0) (Some (incoming.Reply (reply_of 1)))
    (begun (event.Deliver 0) late.restart_heard.run.scene) a
    (next_event late.restart_heard (event.Deliver 0) refl refl refl refl area a step) (λ r x o. o)

only_good : (a : Moment) → Step area late.written_again a → a ≡ late.answer_heard
only_good a step =
    leads_to late.written_again (event.Deliver 1) (Some (incoming.Reply (reply_of 2)))
    (begun (event.Deliver 1) late.written_again.run.scene) a
    (next_event late.written_again (event.Deliver 1) refl refl refl refl area a step) (λ r x o. o)

only_again : (a : Moment) → Step area late.answer_done a → a ≡ late.heard_again
only_again a step =
    leads_to late.answer_done (event.Deliver 1) (Some (incoming.Reply (reply_of 2)))
    (begun (event.Deliver 1) late.answer_done.run.scene) a
    (next_event late.answer_done (event.Deliver 1) refl refl refl refl area a step) (λ r x o. o)

-- A late answer of driver 1 is counted, though driver 2 runs.
late_answer_counted : NoStep late.restart_heard (λ a. marks a ≡ Answered (reply_of 1) ∷ marks late.restart_heard)
late_answer_counted a step counted =
    let h : 6 ≡ 7 = ap length (sym (ap marks (only_late a step)) ∙ counted) in omega (arith, h)

-- It ends the write, which driver 2 hasn't answered.
late_answer_ends : NoStep late.restart_heard (λ a. open_requests (record_of a.run) ≡ [])
late_answer_ends a step ended =
    let h : write_both ∷ [] ≡ [] = sym (ap (λ (m : Moment). open_requests (record_of m.run)) (only_late a step)) ∙ ended in cc

-- The good answer of driver 2 isn't counted.
good_answer_lost : NoStep late.written_again (λ a. marks a ≡ marks late.written_again)
good_answer_lost a step lost = let h : 7 ≡ 6 = ap length (sym (ap marks (only_good a step)) ∙ lost) in omega (arith, h)

-- It leaves the write open.
good_answer_ends_nothing : NoStep late.written_again (λ a. open_requests (record_of a.run) ≡ write_both ∷ [])
good_answer_ends_nothing a step stays =
    let h : [] ≡ write_both ∷ [] = sym (ap (λ (m : Moment). open_requests (record_of m.run)) (only_good a step)) ∙ stays in cc

-- It is delivered twice, and counted twice.
counted_twice : NoStep late.answer_done (λ a. marks a ≡ Answered (reply_of 2) ∷ marks late.answer_done)
counted_twice a step twice = let h : 7 ≡ 8 = ap length (sym (ap marks (only_again a step)) ∙ twice) in omega (arith, h)

-- the read under another id
abbrev renumbered : BlockRequest
renumbered = record read { id = 2 }

-- After the death the read is posted under a new id.
posted_under_a_new_id : (image : List ℕ) (accepted : Bool)
    → NoStep (row.restarted image) (λ a. history a.run ≡ Posted (driver 2) renumbered accepted ∷ history (row.restarted image).run)
posted_under_a_new_id image accepted a step told =
    let may = told_is_allowed area (row.restarted image) a (Posted (driver 2) renumbered accepted) step told in
    let h : 1 ≡ 2 = ap (λ (r : BlockRequest). r.id) (some_same read renumbered may.may.first) in omega (arith, h)

-- The stat is answered before the read is posted to driver 2.
answered_before_the_post : (image : List ℕ) → NoStep (row.restarted image) (λ a. a.doing ≡ Resting)
answered_before_the_post image _ (Begins r busy may) rests = cc
answered_before_the_post image _ (Tells told a busy nothing may turn) rests = cc
answered_before_the_post image _ (Takes message call a answers may turn) rests = cc
answered_before_the_post image _ (Settles message hears calm) rests = let h : Answering row.stat ≡ Hearing message = hears in cc
answered_before_the_post image _ (Brings message a between none runs) rests = cc
answered_before_the_post image _ (BringsNone a between none runs) rests = let h : Answering row.stat ≡ Resting = between.rests in cc
answered_before_the_post image _ (Pays between owed first) rests = cc
answered_before_the_post image _ (HandsCall call a between settled hands) rests = cc
answered_before_the_post image _ (Replies call reply answers live calm) rests = let h : true ≡ false = calm.post in cc

-- A driver that dies while it reads tears nothing.
reader_tears_nothing : (image : List ℕ) (a : Scene) (result : Option Incoming)
    → Occurs 2 (event.Die 1 (Some torn)) (begun (event.Die 1 (Some torn)) (row.half image).scene) result a
    → a.disks.media ≡ media_of image 1
reader_tears_nothing image a result d =
    let b : Scene = record (begun (event.Die 1 (Some torn)) (row.half image).scene) { disks = d.disks } in
    ap (λ (x : Disks). x.media) (after_death d.died 1 b a result d.after) ∙ dies d.died d.disks d.dies where
      dies : (died : Bool) (x : Disks) → Dies 1 (Some torn) (row.half image).scene.disks died x → x.media ≡ media_of image 1
      dies _ _ (NoneDies none) = refl
      dies _ _ (CurrentDies same live) = refl
      dies _ _ (OlderDies at was older live) = refl
