-- Worked rows, by computation. The drivers are numbers, and turns stand newest first.
use Rattle.std.specs.Prelude.{◌≡◌, ℕ, List, [], ◌∷◌, ◌++◌, Err, refl}
use Rattle.std.proofs.Common.{arith}
use Rattle.reincarnate.specs.declared.policy.Policy.{Policy}
use Rattle.reincarnate.specs.declared.policy.Event.TheVariants.{Exit, Tick, Complaint}
use Rattle.reincarnate.specs.Policy.{IsAllowed, default_policy}
use Rattle.reincarnate.specs.Watch as restart
use Rattle.reincarnate.specs.Watch.{driver}
use Rattle.reincarnate.specs.declared.Action.TheVariants.{Nothing, WaitUntil, Start, GiveUp}
use Rattle.reincarnate.specs.declared.SupplyRefusal.TheVariants.{BadPolicy, NoDriver}
use Rattle.reincarnate.specs.Supply.{NewAnswers}
use Rattle.reincarnate.specs.Runs.{Turn, Met, Added, handed_in, started, due_by, all_due, all_done}

-- each answer is what was due, and the drivers were started in their order, but for these
abbrev IsRun : Policy → List ℕ → List (Turn ℕ) → List ℕ → Type 0
IsRun policy drivers turns left = (all_done turns ≡ all_due policy drivers turns) × (handed_in drivers turns ≡ started turns ++ left)

-- two drivers: a second exit of the first is ignored, the second's exit leaves no driver
row_two_drivers : IsRun default_policy (71 ∷ 72 ∷ [])
    (Met (Exit (driver 2) 1) GiveUp ∷ Met (Tick 1 (0, 0)) (Start (driver 2) 72) ∷ Met (Exit (driver 1) 0) Nothing
    ∷ Met (Exit (driver 1) 0) (WaitUntil 1) ∷ Met (Tick 0 (0, 0)) (Start (driver 1) 71) ∷ []) []
row_two_drivers = (refl, refl)

-- six drivers, each with a fault as soon as it starts: starts at 1, 3, 7, 15, 31 and not a tick earlier, then giving up
row_back_off : IsRun default_policy (71 ∷ 72 ∷ 73 ∷ 74 ∷ 75 ∷ 76 ∷ [])
    (Met (Exit (driver 6) 31) GiveUp ∷ Met (Tick 31 (0, 0)) (Start (driver 6) 76) ∷ Met (Tick 30 (0, 0)) Nothing
    ∷ Met (Exit (driver 5) 15) (WaitUntil 31) ∷ Met (Tick 15 (0, 0)) (Start (driver 5) 75) ∷ Met (Tick 14 (0, 0)) Nothing
    ∷ Met (Exit (driver 4) 7) (WaitUntil 15) ∷ Met (Tick 7 (0, 0)) (Start (driver 4) 74) ∷ Met (Tick 6 (0, 0)) Nothing
    ∷ Met (Exit (driver 3) 3) (WaitUntil 7) ∷ Met (Tick 3 (0, 0)) (Start (driver 3) 73) ∷ Met (Tick 2 (0, 0)) Nothing
    ∷ Met (Exit (driver 2) 1) (WaitUntil 3) ∷ Met (Tick 1 (0, 0)) (Start (driver 2) 72)
    ∷ Met (Exit (driver 1) 0) (WaitUntil 1) ∷ Met (Tick 0 (0, 0)) (Start (driver 1) 71) ∷ []) []
row_back_off = (refl, refl)

-- a fault 62 ticks after the first is the second
row_calm_62 : IsRun default_policy (71 ∷ 72 ∷ 73 ∷ [])
    (Met (Complaint (driver 2) 62) (WaitUntil 64) ∷ Met (Tick 1 (0, 0)) (Start (driver 2) 72)
    ∷ Met (Exit (driver 1) 0) (WaitUntil 1) ∷ Met (Tick 0 (0, 0)) (Start (driver 1) 71) ∷ []) (73 ∷ [])
row_calm_62 = (refl, refl)

-- a fault 64 ticks after the first is a first again
row_calm_64 : IsRun default_policy (71 ∷ 72 ∷ 73 ∷ [])
    (Met (Complaint (driver 2) 64) (WaitUntil 65) ∷ Met (Tick 1 (0, 0)) (Start (driver 2) 72)
    ∷ Met (Exit (driver 1) 0) (WaitUntil 1) ∷ Met (Tick 0 (0, 0)) (Start (driver 1) 71) ∷ []) (73 ∷ [])
row_calm_64 = (refl, refl)

-- no fault is allowed: the first gives up, though a driver is left
row_no_faults : IsRun (record default_policy { max_faults = 0 }) (71 ∷ 72 ∷ [])
    (Met (Complaint (driver 1) 0) GiveUp ∷ Met (Tick 0 (0, 0)) (Start (driver 1) 71) ∷ []) (72 ∷ [])
row_no_faults = (refl, refl)

-- the third miss in a row is a fault
row_misses : IsRun default_policy (71 ∷ 72 ∷ [])
    (Met (Tick 4 (1, 1)) (WaitUntil 5) ∷ Met (Tick 3 (1, 1)) Nothing ∷ Met (Tick 2 (1, 1)) Nothing
    ∷ Met (Tick 1 (1, 1)) Nothing ∷ Met (Tick 0 (0, 0)) (Start (driver 1) 71) ∷ []) (72 ∷ [])
row_misses = (refl, refl)

-- a driver added to the supply is started after the others
row_spare : IsRun default_policy (71 ∷ [])
    (Met (Tick 1 (0, 0)) (Start (driver 2) 72) ∷ Met (Exit (driver 1) 0) (WaitUntil 1)
    ∷ Met (Tick 0 (0, 0)) (Start (driver 1) 71) ∷ Added 72 ∷ []) []
row_spare = (refl, refl)

-- a driver added after giving up is never started
row_late_spare : IsRun default_policy (71 ∷ [])
    (Met (Tick 9 (0, 0)) Nothing ∷ Added 72 ∷ Met (Exit (driver 1) 0) GiveUp ∷ Met (Tick 0 (0, 0)) (Start (driver 1) 71) ∷ []) (72 ∷ [])
row_late_spare = (refl, refl)

-- a later driver that never beats: its misses are counted from its own start on
row_misses_anew : IsRun default_policy (71 ∷ 72 ∷ 73 ∷ [])
    (Met (Tick 4 (0, 0)) (WaitUntil 6) ∷ Met (Tick 3 (0, 0)) Nothing ∷ Met (Tick 2 (0, 0)) Nothing ∷ Met (Tick 1 (0, 0)) (Start (driver 2) 72)
    ∷ Met (Exit (driver 1) 0) (WaitUntil 1) ∷ Met (Tick 0 (0, 0)) (Start (driver 1) 71) ∷ []) (73 ∷ [])
row_misses_anew = (refl, refl)

-- the driver started last but one of all generations is followed by one more
row_last_but_one : due_by default_policy (restart.Start (driver 4294967294)) [] [] 4294967294 4294967296 (Exit (driver 4294967294) 9) ≡ restart.WaitUntil 10
row_last_but_one = refl

-- after the last generation the device is given up, though a driver is left
row_last_generation : due_by default_policy (restart.Start (driver 4294967295)) [] [] 4294967295 4294967296 (Exit (driver 4294967295) 9) ≡ restart.GiveUp
row_last_generation = refl

-- the default is allowed
allowed : IsAllowed default_policy
allowed = record {
  few_faults = omega arith;
  some_cap = omega arith;
  low_cap = omega arith;
  some_calm = omega arith;
  short_calm = omega arith;
  some_misses = omega arith;
  few_misses = omega arith;
}

-- no driver is refused as such
row_no_driver : NewAnswers {D = ℕ} default_policy [] (Err NoDriver)
row_no_driver = (allowed, refl)

-- and nothing else is answered
row_no_driver_other : NewAnswers {D = ℕ} default_policy [] (Err BadPolicy) → ⊥
row_no_driver_other refused = refused allowed

-- a cap of 0 is refused, whatever the supply
row_no_cap : NewAnswers {D = ℕ} (record default_policy { cap = 0 }) [] (Err BadPolicy)
row_no_cap = λ a. omega (arith, a.some_cap)

-- and nothing else is answered
row_no_cap_other : NewAnswers {D = ℕ} (record default_policy { cap = 0 }) [] (Err NoDriver) → ⊥
row_no_cap_other refused = omega (arith, refused.0.some_cap)
