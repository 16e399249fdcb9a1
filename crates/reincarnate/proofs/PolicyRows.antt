-- Worked rows of the policy, by computation.
use Rattle.std.specs.Prelude.{◌≡◌, [], ◌∷◌, Some, None, refl}
use Rattle.std.proofs.Common.{arith}
use Rattle.reincarnate.specs.declared.policy.Event.TheVariants.{Exit, Tick, Complaint}
use Rattle.reincarnate.specs.Policy.{IsAllowed, default_policy}
use Rattle.reincarnate.specs.Faults.{last_fault, restart_tick}
use Rattle.reincarnate.specs.Watch.{Nothing, WaitUntil, Start, GiveUp, Waiting, actions, new_watch, with_spare, watch_after, driver}
use Rattle.reincarnate.specs.Laws.{fault_ticks, misses_in, pulses_after}

-- two drivers: a second exit of the first is ignored, the second's exit leaves no spare
row_two_drivers : actions default_policy (new_watch 2) (Tick 0 (0, 0) ∷ Exit (driver 1) 0 ∷ Exit (driver 1) 0 ∷ Tick 1 (0, 0) ∷ Exit (driver 2) 1 ∷ [])
    ≡ Start (driver 1) ∷ WaitUntil 1 ∷ Nothing ∷ Start (driver 2) ∷ GiveUp ∷ []
row_two_drivers = refl

-- six drivers, each with a fault as soon as it starts: starts at 1, 3, 7, 15, 31, and not a tick earlier, then giving up
row_back_off : actions default_policy (new_watch 6) (Tick 0 (0, 0) ∷ Exit (driver 1) 0 ∷ Tick 1 (0, 0) ∷ Exit (driver 2) 1
    ∷ Tick 2 (0, 0) ∷ Tick 3 (0, 0) ∷ Exit (driver 3) 3 ∷ Tick 6 (0, 0) ∷ Tick 7 (0, 0) ∷ Exit (driver 4) 7
    ∷ Tick 14 (0, 0) ∷ Tick 15 (0, 0) ∷ Exit (driver 5) 15 ∷ Tick 30 (0, 0) ∷ Tick 31 (0, 0) ∷ Exit (driver 6) 31 ∷ Tick 63 (0, 0) ∷ [])
    ≡ Start (driver 1) ∷ WaitUntil 1 ∷ Start (driver 2) ∷ WaitUntil 3
    ∷ Nothing ∷ Start (driver 3) ∷ WaitUntil 7 ∷ Nothing ∷ Start (driver 4) ∷ WaitUntil 15
    ∷ Nothing ∷ Start (driver 5) ∷ WaitUntil 31 ∷ Nothing ∷ Start (driver 6) ∷ GiveUp ∷ Nothing ∷ []
row_back_off = refl

-- with a spare more the sixth fault still gives up
row_back_off_spare : actions default_policy (watch_after default_policy (new_watch 7) (Tick 0 (0, 0) ∷ Exit (driver 1) 0 ∷ Tick 1 (0, 0) ∷ Exit (driver 2) 1
    ∷ Tick 3 (0, 0) ∷ Exit (driver 3) 3 ∷ Tick 7 (0, 0) ∷ Exit (driver 4) 7
    ∷ Tick 15 (0, 0) ∷ Exit (driver 5) 15 ∷ Tick 31 (0, 0) ∷ [])) (Exit (driver 6) 31 ∷ []) ≡ GiveUp ∷ []
row_back_off_spare = refl

-- a fault 62 ticks after the first is the second
row_calm_62 : actions default_policy (new_watch 3) (Tick 0 (0, 0) ∷ Exit (driver 1) 0 ∷ Tick 1 (0, 0) ∷ Complaint (driver 2) 62 ∷ [])
    ≡ Start (driver 1) ∷ WaitUntil 1 ∷ Start (driver 2) ∷ WaitUntil 64 ∷ []
row_calm_62 = refl

-- a fault 63 ticks after the first is still the second
row_calm_63 : actions default_policy (new_watch 3) (Tick 0 (0, 0) ∷ Exit (driver 1) 0 ∷ Tick 1 (0, 0) ∷ Complaint (driver 2) 63 ∷ [])
    ≡ Start (driver 1) ∷ WaitUntil 1 ∷ Start (driver 2) ∷ WaitUntil 65 ∷ []
row_calm_63 = refl

-- a fault 64 ticks after the first is a first again
row_calm_64 : actions default_policy (new_watch 3) (Tick 0 (0, 0) ∷ Exit (driver 1) 0 ∷ Tick 1 (0, 0) ∷ Complaint (driver 2) 64 ∷ [])
    ≡ Start (driver 1) ∷ WaitUntil 1 ∷ Start (driver 2) ∷ WaitUntil 65 ∷ []
row_calm_64 = refl

-- no fault is allowed: the first gives up
row_no_faults : actions (record default_policy { max_faults = 0 }) (new_watch 2) (Tick 0 (0, 0) ∷ Complaint (driver 1) 0 ∷ []) ≡ Start (driver 1) ∷ GiveUp ∷ []
row_no_faults = refl

-- the third miss in a row is a fault
row_misses : actions default_policy (new_watch 2) (Tick 0 (0, 0) ∷ Tick 1 (1, 1) ∷ Tick 2 (1, 1) ∷ Tick 3 (1, 1) ∷ Tick 4 (1, 1) ∷ [])
    ≡ Start (driver 1) ∷ Nothing ∷ Nothing ∷ Nothing ∷ WaitUntil 5 ∷ []
row_misses = refl

-- a driver that never beats: the first tick is compared with the pulse at the start
row_never_beats : actions default_policy (new_watch 2) (Tick 0 (0, 0) ∷ Tick 1 (0, 0) ∷ Tick 2 (0, 0) ∷ Tick 3 (0, 0) ∷ [])
    ≡ Start (driver 1) ∷ Nothing ∷ Nothing ∷ WaitUntil 4 ∷ []
row_never_beats = refl

-- a beat in between begins the count anew
row_beats_again : actions default_policy (new_watch 2) (Tick 0 (0, 0) ∷ Tick 1 (0, 0) ∷ Tick 2 (0, 0) ∷ Tick 3 (1, 1) ∷ Tick 4 (1, 1) ∷ Tick 5 (1, 1) ∷ Tick 6 (1, 1) ∷ [])
    ≡ Start (driver 1) ∷ Nothing ∷ Nothing ∷ Nothing ∷ Nothing ∷ Nothing ∷ WaitUntil 7 ∷ []
row_beats_again = refl

-- a driver handed in later is started like the others
row_spare : actions default_policy (with_spare (new_watch 1)) (Tick 0 (0, 0) ∷ Exit (driver 1) 0 ∷ Tick 1 (0, 0) ∷ [])
    ≡ Start (driver 1) ∷ WaitUntil 1 ∷ Start (driver 2) ∷ []
row_spare = refl

-- with one driver the first fault gives up
row_one_driver : actions default_policy (new_watch 1) (Tick 0 (0, 0) ∷ Exit (driver 1) 0 ∷ Tick 9 (0, 0) ∷ []) ≡ Start (driver 1) ∷ GiveUp ∷ Nothing ∷ []
row_one_driver = refl

-- a wait is never longer than the cap
row_cap : restart_tick (record default_policy { max_faults = 32 }) (record { number = 32; tick = 100 }) ≡ 132
row_cap = refl

-- the last generation gives up though a spare is left
row_last_generation : actions default_policy (record { spares = 3; generation = 4294967294; fault = None; phase = Waiting 0 }) (Tick 0 (0, 0) ∷ Exit (driver 4294967295) 0 ∷ [])
    ≡ Start (driver 4294967295) ∷ GiveUp ∷ []
row_last_generation = refl

-- events of an earlier driver and of another slot are ignored
row_others : actions default_policy (new_watch 3) (Tick 0 (0, 0) ∷ Exit (driver 1) 0 ∷ Tick 1 (0, 0) ∷ Exit (driver 1) 1 ∷ Complaint (driver 1) 1 ∷ Exit (record { slot = 2; generation = 2 }) 1 ∷ [])
    ≡ Start (driver 1) ∷ WaitUntil 1 ∷ Start (driver 2) ∷ Nothing ∷ Nothing ∷ Nothing ∷ []
row_others = refl

-- faults at 0, 1, 3, 7, 15, 31 are numbered to 6
row_numbers : last_fault 64 (31 ∷ 15 ∷ 7 ∷ 3 ∷ 1 ∷ 0 ∷ []) ≡ Some (record { number = 6; tick = 31 })
row_numbers = refl

-- 64 ticks after the last a fault is the first again
row_numbers_calm : last_fault 64 (79 ∷ 15 ∷ 7 ∷ 3 ∷ 1 ∷ 0 ∷ []) ≡ Some (record { number = 1; tick = 79 })
row_numbers_calm = refl

-- the faults of a run, by its events
row_fault_ticks : fault_ticks default_policy (new_watch 3) (Tick 0 (0, 0) ∷ Exit (driver 1) 0 ∷ Exit (driver 1) 0 ∷ Tick 1 (0, 0) ∷ Complaint (driver 2) 62 ∷ []) [] ≡ 62 ∷ 0 ∷ []
row_fault_ticks = refl

-- a cap of 0 isn't allowed
row_no_cap : IsAllowed (record default_policy { cap = 0 }) → ⊥
row_no_cap allowed = omega (arith, allowed.some_cap)

-- the default is allowed
row_default : IsAllowed default_policy
row_default = record {
  few_faults = omega arith;
  some_cap = omega arith;
  low_cap = omega arith;
  some_calm = omega arith;
  short_calm = omega arith;
  some_misses = omega arith;
  few_misses = omega arith;
}

-- two misses in a row, after a beat
row_misses_in : misses_in ((1, 2) ∷ (1, 2) ∷ (1, 2) ∷ (1, 1) ∷ (1, 1) ∷ []) ≡ 2
row_misses_in = refl

-- the pulses since the second start
row_pulses : pulses_after default_policy (new_watch 3) (Tick 0 (0, 0) ∷ Exit (driver 1) 0 ∷ Tick 1 (0, 0) ∷ Tick 2 (2, 1) ∷ Tick 3 (2, 2) ∷ []) [] ≡ (2, 2) ∷ (2, 1) ∷ (0, 0) ∷ []
row_pulses = refl

-- two faults less than 64 ticks apart: the second has the number 2, and waits two ticks
row_not_calm : last_fault 64 (62 ∷ 0 ∷ []) ≡ Some (record { number = 2; tick = 62 })
row_not_calm = refl

-- and 64 ticks apart: the number 1 again, and one tick
row_calm : last_fault 64 (64 ∷ 0 ∷ []) ≡ Some (record { number = 1; tick = 64 })
row_calm = refl
