-- Clocks that go wrong, and messages that no event brings.
use Rattle.std.specs.Prelude.{◌≡◌, ℕ}
use Rattle.std.proofs.Common.{arith, ap, sym, ◌∙◌}
use Rattle.message.specs.declared.Incoming.TheVariants as incoming
use Rattle.simulated_link.specs.Moments.{Moment, Resting, Hearing}
use Rattle.tests_exact.proofs.Determined.{only_death, only_restart, only_missed}
use Rattle.tests_exact.proofs.WrongSteps.{NoStep}
use Rattle.tests_exact.proofs.DeathRow as death
use Rattle.tests_exact.proofs.HungRow as hung

-- the tick
abbrev tick : Moment → ℕ
tick m = m.run.scene.tick

-- the tick of the last beat
abbrev beat : Moment → ℕ
beat m = m.run.scene.pulse.1

-- The clock goes on at a death.
clock_without_a_tick : NoStep death.half (λ a. tick a ≡ 1)
clock_without_a_tick a step on = let h : 0 ≡ 1 = sym (ap tick (only_death a step)) ∙ on in omega (arith, h)

-- It stands at a tick.
clock_stands : NoStep death.dead (λ a. tick a ≡ 0)
clock_stands a step stands = let h : 1 ≡ 0 = sym (ap tick (only_restart a step)) ∙ stands in omega (arith, h)

-- It goes on by two.
clock_skips : NoStep death.dead (λ a. tick a ≡ 2)
clock_skips a step skips = let h : 1 ≡ 2 = sym (ap tick (only_restart a step)) ∙ skips in omega (arith, h)

-- A driver that hangs beats at the tick.
hung_beats : NoStep hung.hung (λ a. beat a ≡ 1)
hung_beats a step beats = let h : 0 ≡ 1 = sym (ap beat (only_missed a step)) ∙ beats in omega (arith, h)

-- At a death the server hears a flush that nobody asked for.
flush_made_up : NoStep death.half (λ a. a.doing ≡ Hearing incoming.Flush)
flush_made_up a step heard = let h : Resting ≡ Hearing incoming.Flush = sym (ap (λ (m : Moment). m.doing) (only_death a step)) ∙ heard in cc

-- At a death it hears that the device was given up, though a driver is left.
given_up_too_soon : NoStep death.half (λ a. a.doing ≡ Hearing incoming.GaveUp)
given_up_too_soon a step heard =
    let h : Resting ≡ Hearing incoming.GaveUp = sym (ap (λ (m : Moment). m.doing) (only_death a step)) ∙ heard in cc
