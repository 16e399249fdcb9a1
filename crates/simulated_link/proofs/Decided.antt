-- What the reincarnation server leaves when it is told of an exit or a complaint, and when it starts a driver.
use Rattle.std.proofs.Common.{◌≡◌, ◌≢◌, ℕ, ◌+◌, List, ◌++◌, Bool, true, false, refl, sym, ◌∙◌, ap, ◌⊎◌, inl, inr}
use Rattle.std.specs.Prelude.{nat_le, if◌then◌else◌, Some, ◌==◌}
use Rattle.message.specs.declared.endpoint.Endpoint.{Endpoint}
use Rattle.reincarnate.specs.declared.policy.Policy.{Policy}
use Rattle.reincarnate.specs.declared.policy.Event.{Event}
use Rattle.reincarnate.specs.declared.policy.Event.TheVariants.{Exit, Tick, Complaint}
use Rattle.reincarnate.specs.Faults.{LastFault, next_fault, gives_up, restart_tick}
use Rattle.reincarnate.specs.Watch as restart
use Rattle.reincarnate.specs.Watch.{Watch, Phase, Running, Waiting, GivenUp, driver, is_last_started, is_same_pulse, on, on_fault, on_report, on_start, on_tick}
use Rattle.reincarnate.specs.declared.Action.{Action}
use Rattle.reincarnate.specs.declared.Action.TheVariants.{Nothing, WaitUntil, Start, GiveUp}
use Rattle.reincarnate.specs.Supply.{ReincarnationState, Decides, action_of, handed_over}

-- the generation stays, and nothing is started
pub record StartsNone (watch : Watch) (made : Watch × restart.Action) : Type 0 where
  pub generation : made.0.generation ≡ watch.generation
  pub none : (e : Endpoint) → made.1 ≢ restart.Start e

none_at_fault : (policy : Policy) (watch : Watch) (tick : ℕ) → StartsNone watch (on_fault policy watch tick)
none_at_fault policy watch tick = at (next_fault policy.calm watch.fault tick) (gives_up policy (next_fault policy.calm watch.fault tick).number watch.spares watch.generation) where
  at : (f : LastFault) (b : Bool) → StartsNone watch (if b
      then (record watch { fault = Some f; phase = GivenUp }, restart.GiveUp)
      else (record watch { fault = Some f; phase = Waiting (restart_tick policy f) }, restart.WaitUntil (restart_tick policy f)))
  at f true = record { generation = refl; none = λ e h. cc }
  at f false = record { generation = refl; none = λ e h. cc }

none_at_report : (policy : Policy) (watch : Watch) (phase : Phase) (about : Endpoint) (tick : ℕ) → StartsNone watch (on_report policy watch phase about tick)
none_at_report policy watch (Waiting until) about tick = record { generation = refl; none = λ e h. cc }
none_at_report policy watch GivenUp about tick = record { generation = refl; none = λ e h. cc }
none_at_report policy watch (Running pulse missed) about tick = at (is_last_started watch about) where
  at : (b : Bool) → StartsNone watch (if b then on_fault policy watch tick else (watch, restart.Nothing))
  at true = none_at_fault policy watch tick
  at false = record { generation = refl; none = λ e h. cc }

same_supply : {D : Type 0} (b a : List D) (made : Watch × restart.Action) (watch : Watch) (answer : Action D) → StartsNone watch made
    → action_of answer ≡ made.1 → b ≡ handed_over answer ++ a → a ≡ b
same_supply b a made watch Nothing starts does supply = sym supply
same_supply b a made watch (WaitUntil tick) starts does supply = sym supply
same_supply b a made watch (Start e d) starts does supply = absurd (starts.none e (sym does))
same_supply b a made watch GiveUp starts does supply = sym supply

by_parts : {D : Type 0} (b a : ReincarnationState D) (w : Watch) → a.policy ≡ b.policy → a.watch ≡ w → a.supply ≡ b.supply
    → a ≡ record b { watch = w }
by_parts b a w policy watch supply = λ i. record { policy = policy i; watch = watch i; supply = supply i }

-- where nothing is started, only what is known changes
after : {D : Type 0} (b a : ReincarnationState D) (event : Event) (answer : Action D) → StartsNone b.watch (on b.policy b.watch event)
    → Decides b event answer a → a ≡ record b { watch = (on b.policy b.watch event).0 }
after b a event answer starts decides = by_parts b a (on b.policy b.watch event).0 decides.policy decides.keeps.knows
    (same_supply b.supply a.supply (on b.policy b.watch event) b.watch answer starts decides.keeps.does decides.supply)

pub after_exit : {D : Type 0} (b a : ReincarnationState D) (e : Endpoint) (tick : ℕ) (answer : Action D) → Decides b (Exit e tick) answer a
    → a ≡ record b { watch = (on b.policy b.watch (Exit e tick)).0 }
after_exit b a e tick answer decides = after b a (Exit e tick) answer (none_at_report b.policy b.watch b.watch.phase e tick) decides

pub after_complaint : {D : Type 0} (b a : ReincarnationState D) (e : Endpoint) (tick : ℕ) (answer : Action D) → Decides b (Complaint e tick) answer a
    → a ≡ record b { watch = (on b.policy b.watch (Complaint e tick)).0 }
after_complaint b a e tick answer decides = after b a (Complaint e tick) answer (none_at_report b.policy b.watch b.watch.phase e tick) decides

-- the next generation is started
record StartsNext (watch : Watch) (made : Watch × restart.Action) : Type 0 where
  generation : made.0.generation ≡ watch.generation + 1
  starts : made.1 ≡ restart.Start (driver (watch.generation + 1))

made_at_tick : (policy : Policy) (watch : Watch) (phase : Phase) (tick : ℕ) (pulse : ℕ × ℕ)
    → StartsNone watch (on_tick policy watch phase tick pulse) ⊎ StartsNext watch (on_tick policy watch phase tick pulse)
made_at_tick policy watch (Running last missed) tick pulse = inl (at (is_same_pulse pulse last) (missed + 1 == policy.misses)) where
  at : (same enough : Bool) → StartsNone watch (if same
      then (if enough then on_fault policy watch tick else (record watch { phase = Running pulse (missed + 1) }, restart.Nothing))
      else (record watch { phase = Running pulse 0 }, restart.Nothing))
  at true true = none_at_fault policy watch tick
  at true false = record { generation = refl; none = λ e h. cc }
  at false true = record { generation = refl; none = λ e h. cc }
  at false false = record { generation = refl; none = λ e h. cc }
made_at_tick policy watch (Waiting until) tick pulse = at (nat_le until tick) where
  at : (come : Bool) → StartsNone watch (if come then on_start watch pulse else (watch, restart.Nothing))
      ⊎ StartsNext watch (if come then on_start watch pulse else (watch, restart.Nothing))
  at true = inr (record { generation = refl; starts = refl })
  at false = inl (record { generation = refl; none = λ e h. cc })
made_at_tick policy watch GivenUp tick pulse = inl (record { generation = refl; none = λ e h. cc })

same_start : (e f : Endpoint) → restart.Start e ≡ restart.Start f → e ≡ f
same_start e f h = cc

-- at a tick a start is that of the next driver
pub start_is_next : (policy : Policy) (watch : Watch) (tick : ℕ) (pulse : ℕ × ℕ) (e : Endpoint) → (on policy watch (Tick tick pulse)).1 ≡ restart.Start e
    → e ≡ driver (watch.generation + 1)
start_is_next policy watch tick pulse e is = by (made_at_tick policy watch watch.phase tick pulse) where
  by : StartsNone watch (on policy watch (Tick tick pulse)) ⊎ StartsNext watch (on policy watch (Tick tick pulse)) → e ≡ driver (watch.generation + 1)
  by (inl none) = absurd (none.none e is)
  by (inr next) = same_start e (driver (watch.generation + 1)) (sym is ∙ next.starts)

-- and what is known is of its generation then
pub generation_started : (policy : Policy) (watch : Watch) (tick : ℕ) (pulse : ℕ × ℕ) (e : Endpoint) → (on policy watch (Tick tick pulse)).1 ≡ restart.Start e
    → (on policy watch (Tick tick pulse)).0.generation ≡ e.generation
generation_started policy watch tick pulse e is = by (made_at_tick policy watch watch.phase tick pulse) where
  by : StartsNone watch (on policy watch (Tick tick pulse)) ⊎ StartsNext watch (on policy watch (Tick tick pulse))
      → (on policy watch (Tick tick pulse)).0.generation ≡ e.generation
  by (inl none) = absurd (none.none e is)
  by (inr next) = next.generation ∙ sym (ap (λ (x : Endpoint). x.generation) (same_start e (driver (watch.generation + 1)) (sym is ∙ next.starts)))

-- without a start it is of the same generation
pub generation_stays : (policy : Policy) (watch : Watch) (tick : ℕ) (pulse : ℕ × ℕ) → ((e : Endpoint) → (on policy watch (Tick tick pulse)).1 ≢ restart.Start e)
    → (on policy watch (Tick tick pulse)).0.generation ≡ watch.generation
generation_stays policy watch tick pulse none = by (made_at_tick policy watch watch.phase tick pulse) where
  by : StartsNone watch (on policy watch (Tick tick pulse)) ⊎ StartsNext watch (on policy watch (Tick tick pulse))
      → (on policy watch (Tick tick pulse)).0.generation ≡ watch.generation
  by (inl stays) = stays.generation
  by (inr next) = absurd (none (driver (watch.generation + 1)) next.starts)

pub never_starts : {D : Type 0} (b a : ReincarnationState D) (e : Endpoint) (tick : ℕ) (to : Endpoint) (d : D) → Decides b (Exit e tick) (Start to d) a → ⊥
never_starts b a e tick to d decides = (none_at_report b.policy b.watch b.watch.phase e tick).none to (sym decides.keeps.does)

pub complaint_never_starts : {D : Type 0} (b a : ReincarnationState D) (e : Endpoint) (tick : ℕ) (to : Endpoint) (d : D) → Decides b (Complaint e tick) (Start to d) a → ⊥
complaint_never_starts b a e tick to d decides = (none_at_report b.policy b.watch b.watch.phase e tick).none to (sym decides.keeps.does)

-- a reincarnation server that was told nothing yet starts its first driver at tick 0
starts_at_first : (policy : Policy) (watch : Watch) (n : ℕ) → watch ≡ restart.new_watch n → (on policy watch (Tick 0 (0, 0))).1 ≡ restart.Start (driver 1)
starts_at_first policy watch n is = ap (λ (w : Watch). (on policy w (Tick 0 (0, 0))).1) is

pub starts_first : {D : Type 0} (b a : ReincarnationState D) (answer : Action D) (n : ℕ) → b.watch ≡ restart.new_watch n → Decides b (Tick 0 (0, 0)) answer a
    → (e : Endpoint) × (d : D) × (answer ≡ Start e d)
starts_first b a answer n is decides = by answer (decides.keeps.does ∙ starts_at_first b.policy b.watch n is) where
  by : {D : Type 0} (x : Action D) → action_of x ≡ restart.Start (driver 1) → (e : Endpoint) × (d : D) × (x ≡ Start e d)
  by Nothing h = cc
  by (WaitUntil tick) h = cc
  by (Start e d) h = (e, d, refl)
  by GiveUp h = cc
