-- A driver that has failed did so at a step of its own.
use Rattle.std.proofs.Common.{◌≡◌, ℕ, zero, suc, ◌+◌, List, [], ◌∷◌, ◌++◌, length, Bool, true, false, refl, sym, ◌∙◌, ap, subst, arith, ◌⊎◌, inl, inr}
use Rattle.std.specs.Prelude.{map, Option, Some, None, IfSome, slice_get}
use Rattle.bdev.specs.DriverState.{DriverState}
use Rattle.media.specs.Contents.{MediaState}
use Rattle.reincarnate.specs.declared.policy.Policy.{Policy}
use Rattle.reincarnate.specs.Watch.{new_watch}
use Rattle.schedule.specs.declared.Event.{Event}
use Rattle.schedule.specs.Groups.{Group, Each}
use Rattle.schedule.specs.Drivers.{state_of}
use Rattle.schedule.specs.Faults.{FailsAtItsStep}
use Rattle.simulated_link.specs.Disks.{Disks, Slot}
use Rattle.simulated_link.specs.StateView.{IsOpened}
use Rattle.simulated_link.specs.Moments.{Moment, Resting, Runs}
use Rattle.conformance.specs.Core.{Core}
use Rattle.conformance.specs.Steady.{state_in, drivers_of, SlotStands, AllSlots, SlotsSoFar}
use Rattle.conformance.proofs.SlotLaws.{push_get, same_slot, slots_kept}
use Rattle.conformance.specs.Said.{core_of, IsSaid, StandsBefore}
use Rattle.conformance.specs.RunLaws.{RunsKeepFailures}
use Rattle.conformance.proofs.SaidLaws.{runs_said}
use Rattle.conformance.proofs.OpeningLaws.{opened_said, opened_follows, calm_before}

states_stand : (slots : List Slot) (Good : ℕ → DriverState → Type 0) → ((k : ℕ) (s : Slot) → slice_get slots k ≡ Some s → Good k s.state) → (k : ℕ)
    → IfSome (slice_get (map state_in slots) k) (Good k)
states_stand [] Good f k = tt
states_stand (s ∷ slots) Good f zero = f zero s refl
states_stand (s ∷ slots) Good f (suc k) = states_stand slots (λ (j : ℕ). Good (suc j)) (λ j t there. f (suc j) t there) k

failures_now : (groups : List Group) (d : Disks) → length d.older + 1 ≡ d.media.generation → AllSlots (SlotStands groups) d → (g : ℕ)
    → IfSome (state_of (drivers_of d) g) (FailsAtItsStep groups g)
failures_now groups d number h zero = tt
failures_now groups d number h (suc g) =
    states_stand (d.older ++ d.current ∷ []) (λ (j : ℕ). FailsAtItsStep groups (suc j)) (λ k s there. by k s (push_get d.older k d.current s there)) g where
      as_number : (k : ℕ) → k + 1 ≡ suc k
      as_number k = omega arith

      fails : (n : ℕ) (s : Slot) → SlotStands groups n s → FailsAtItsStep groups n s.state
      fails n s k = record { seen = k.failed }

      by : (k : ℕ) (s : Slot) → (slice_get d.older k ≡ Some s) ⊎ ((k ≡ length d.older) × (Some d.current ≡ Some s)) → FailsAtItsStep groups (suc k) s.state
      by k s (inl there) = subst (λ (n : ℕ). FailsAtItsStep groups n s.state) (as_number k) (fails (k + 1) s (h.older k s there))
      by k s (inr last) =
          let same : d.media.generation ≡ suc k = omega (arith, number, last.0) in
          subst (λ (n : ℕ). FailsAtItsStep groups n s.state) same
          (subst (λ (t : Slot). FailsAtItsStep groups d.media.generation t.state) (same_slot d.current s last.1) (fails d.media.generation d.current h.current))

pub runs_keep_failures : RunsKeepFailures
runs_keep_failures media rules supply events area b a new ready o rests runs =
    let n : ℕ = length supply in
    let first_ones : Each (λ d. d.failed ≡ false) (o.scene.first ∷ o.scene.rest) = subst (λ (l : List DriverState). Each (λ d. d.failed ≡ false) l) o.scene.spare ready in
    let owned : IsSaid (SlotsSoFar n) a.run = runs_said (SlotsSoFar n) (slots_kept n) area b a runs (calm_before media rules supply events b o)
    (StandsBefore rests o.queue o.owed)
    (opened_said (SlotsSoFar n) media rules supply events b.run o (record {
      follows = opened_follows media rules supply o.scene.first o.scene.rest new o.scene.spare;
      numbered = omega (arith, new);
      fresh = first_ones.1;
      slots = record {
        older = λ at s there. cc;
        current = record { live = λ alive. refl; failed = λ fails. absurd (clash (sym first_ones.0 ∙ fails)) };
      };
      unstarted = λ h low. refl;
    })) in
    λ g. failures_now a.run.scene.noted.groups a.run.scene.disks owned.said.numbered owned.said.slots g where
      clash : ◌≡◌ {A = Bool} false true → ⊥
      clash is = cc
