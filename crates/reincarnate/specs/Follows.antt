-- A reincarnation server follows the restart policy over a whole run.
use Rattle.std.specs.Prelude.{◌≡◌, ℕ, ◌+◌, List, [], ◌∷◌, ◌++◌, length, map}
use Rattle.std.specs.List.{flat_map}
use Rattle.reincarnate.specs.declared.policy.Policy.{Policy}
use Rattle.reincarnate.specs.declared.policy.Event.{Event}
use Rattle.reincarnate.specs.Policy.{IsAllowed}
use Rattle.reincarnate.specs.Faults.{last_fault}
use Rattle.reincarnate.specs.Watch.{Action, WaitUntil, Start, GiveUp, Phase, Running, Waiting, GivenUp, Watch, driver, watch_after, actions}
use Rattle.reincarnate.specs.Laws.{misses_in}
use Rattle.reincarnate.specs.Known.{HasSpare}
use Rattle.reincarnate.specs.declared.Action.{Action as Answer}
use Rattle.reincarnate.specs.Supply.{ReincarnationState, Decides, action_of, handed_over}
use Rattle.reincarnate.specs.Runs.{Turn, handed_in, started, last_done, fault_ticks, pulses, all_due, all_done}

-- of these pulses, newest first: the last one, and the misses in a row
abbrev pub Counts : List (ℕ × ℕ) → ℕ × ℕ → ℕ → Type 0
Counts [] last missed = ⊥
Counts (pulse ∷ earlier) last missed = (last ≡ pulse) × (missed ≡ misses_in (pulse ∷ earlier))

-- what goes on is what was last done: the driver started last runs, a start is awaited, or the device was given up
abbrev pub PhaseIs : Action → List (ℕ × ℕ) → ℕ → Phase → Type 0
PhaseIs done earlier starts (Running last missed) = (done ≡ Start (driver starts)) × Counts earlier last missed
PhaseIs done earlier starts (Waiting until) = done ≡ WaitUntil until
PhaseIs done earlier starts GivenUp = done ≡ GiveUp

-- what is known is what happened: what was last done, the faults' ticks, the pulses since the last start, how many drivers were started and handed in;
-- where a start is awaited, a driver is left for it
pub record Knows (policy : Policy) (last : Action) (ticks : List ℕ) (earlier : List (ℕ × ℕ)) (starts drivers : ℕ) (watch : Watch) : Type 0 where
  pub generation : watch.generation ≡ starts
  pub spares : watch.spares + starts ≡ drivers
  pub fault : watch.fault ≡ last_fault policy.calm ticks
  pub phase : PhaseIs last earlier starts watch.phase
  pub spare : HasSpare watch.phase watch.spares

-- over these drivers and turns each answer was what was due, the drivers were started in the order in which they were handed in, and what is known is what happened
pub record Follows {D : Type 0} (drivers : List D) (turns : List (Turn D)) (state : ReincarnationState D) : Type 0 where
  pub allowed : IsAllowed state.policy
  pub answers : all_done turns ≡ all_due state.policy drivers turns
  pub order : handed_in drivers turns ≡ started turns ++ state.supply
  pub knows : Knows state.policy (last_done turns) (fault_ticks turns) (pulses turns) (length (started turns)) (length (handed_in drivers turns)) state.watch

-- these events (oldest first) with their answers lead from one state to the other, each as is decided
abbrev pub DecidesAll : {D : Type 0} → ReincarnationState D → List (Event × Answer D) → ReincarnationState D → Type 0
DecidesAll old [] new = new ≡ old
DecidesAll {D} old (step ∷ steps) new = (between : ReincarnationState D) × Decides old step.0 step.1 between × DecidesAll between steps new

-- the answers are what the policy does at these events, what is known at the end is what it knows then, and the drivers went in order
pub record IsPolicyRun {D : Type 0} (old : ReincarnationState D) (steps : List (Event × Answer D)) (new : ReincarnationState D) : Type 0 where
  pub policy : new.policy ≡ old.policy
  pub watch : new.watch ≡ watch_after old.policy old.watch (map (λ s. s.0) steps)
  pub answers : map (λ s. action_of s.1) steps ≡ actions old.policy old.watch (map (λ s. s.0) steps)
  pub supply : old.supply ≡ flat_map (λ s. handed_over s.1) steps ++ new.supply

-- so it is for every list of events
abbrev pub EveryListIsDecided : (D : Type 0) → Type 0
EveryListIsDecided D = (old new : ReincarnationState D) (steps : List (Event × Answer D)) → DecidesAll old steps new → IsPolicyRun old steps new
