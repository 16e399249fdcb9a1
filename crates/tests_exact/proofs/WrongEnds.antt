-- Ends that are none, and transcripts that aren't read off the row's last moment.
use Rattle.std.specs.Prelude.{◌≡◌, ℕ, ◌≤◌, List, [], ◌∷◌, length, true, false, Option, Some, None, refl}
use Rattle.std.specs.List.{concat}
use Rattle.std.proofs.Common.{arith, ap, inl, inr}
use Rattle.message.specs.declared.Incoming.TheVariants as incoming
use Rattle.records.specs.Told.{Received}
use Rattle.bdev.specs.DriverState.{DriverState}
use Rattle.schedule.specs.Noted.{marks_in}
use Rattle.schedule.specs.declared.Sent.{Sent}
use Rattle.simulated_link.specs.StateView.{ended, starving, Stays, IsStarved, TakesEnd}
use Rattle.simulated_link.specs.Moments.{Moment, Resting, Answering, at_link, Step, Takes}
use Rattle.world.specs.Exact.{IsOver, IsReadOff}
use Rattle.tests_exact.proofs.Small.{area, sectors_with, torn, new_0, image, image_isnt_new, torn_isnt_new, sync}
use Rattle.tests_exact.proofs.Drivers.{at_second, done, reply_of}
use Rattle.tests_exact.proofs.Making.{at_rest}
use Rattle.tests_exact.proofs.DeathRow.{written, sync_begun, answer_taken, sync_done, transcript}

-- Two events are left.
events_left : ¬ (IsOver written)
events_left over = let h : 8 ≤ 6 = over.spent.events in omega (arith, h)

-- A call has no answer, and the link hasn't ended.
call_left : ¬ (IsOver answer_taken)
call_left over = elim over.ends [
  | inl rests ↦ let h : Answering sync ≡ Resting = rests.0 in cc
  | inr ended ↦ let h : false ≡ true = ended.0 in cc
]

-- the link may end early, for want of memory
abbrev starved : Moment
starved = at_link (Received incoming.End) (ended (starving sync_begun.run)) sync_begun

starved_step : Step area sync_begun starved
starved_step = Takes incoming.End sync _ refl (record { at_rest = at_rest refl refl; live = refl; needed = refl })
    (TakesEnd _ refl (IsStarved _ Stays))

-- That is no end: an event is left.
end_for_want_of_memory : ¬ (IsOver starved)
end_for_want_of_memory over = let h : 8 ≤ 7 = over.spent.events in omega (arith, h)

-- The media are as they were handed in.
image_at_first : ¬ (IsReadOff sync_done (record transcript { image = image }))
image_at_first off = image_isnt_new (off.image)

-- They are as the death left them.
image_torn : ¬ (IsReadOff sync_done (record transcript { image = concat (sectors_with new_0 torn) }))
image_torn off = torn_isnt_new off.image

-- A call has no answer.
unanswered_made_up : ¬ (IsReadOff sync_done (record transcript { unanswered = 1 }))
unanswered_made_up off = let h : 1 ≡ 0 = off.unanswered in omega (arith, h)

-- The answer was sent at another event.
sent_elsewhere : ¬ (IsReadOff sync_done (record transcript { sent = record { reply = reply_of 2; place = 4 } ∷ [] }))
sent_elsewhere off = let h : 4 ≡ 5 = ap first_place off.sent in omega (arith, h) where
  first_place : List Sent → ℕ
  first_place [] = 0
  first_place (s ∷ sent) = s.place

-- The first driver stands as the second does, and the second as the first.
drivers_exchanged : ¬ (IsReadOff sync_done (record transcript { drivers = done ∷ at_second ∷ [] }))
drivers_exchanged off = let h : 0 ≡ 5 = ap first_names off.drivers in omega (arith, h) where
  named : Option ℕ → ℕ
  named None = 0
  named (Some sector) = sector

  first_names : List DriverState → ℕ
  first_names [] = 0
  first_names (d ∷ drivers) = named d.in_work

-- The record lacks what came last.
mark_left_out : ¬ (IsReadOff sync_done (record transcript { marks = marks_in answer_taken.run.scene.noted }))
mark_left_out off = let h : 7 ≡ 8 = ap length off.marks in omega (arith, h)
