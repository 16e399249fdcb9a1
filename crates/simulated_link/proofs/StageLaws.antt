-- The scene after a tick, by what the code did.
use Rattle.std.proofs.Common.{◌≡◌, ℕ, List, ◌∷◌, Some, None, refl, sym, ◌∙◌, ap, subst}
use Rattle.std.specs.Prelude.{map}
use Rattle.message.specs.declared.endpoint.Endpoint.{Endpoint}
use Rattle.message.specs.declared.Incoming.TheVariants as incoming
use Rattle.bdev.specs.DriverState.{DriverState}
use Rattle.reincarnate.specs.declared.policy.Event.TheVariants.{Tick}
use Rattle.reincarnate.specs.Watch as restart
use Rattle.reincarnate.specs.Watch.{Watch, driver, on}
use Rattle.records.specs.declared.marks.Cause.TheVariants.{Hung}
use Rattle.reincarnate.specs.declared.Action.TheVariants.{Nothing, WaitUntil, Start, GiveUp}
use Rattle.reincarnate.specs.Supply.{ReincarnationState, Decides}
use Rattle.schedule.specs.Noted.{Noted, with_entry}
use Rattle.schedule.specs.declared.log.LogEntry.TheVariants as entry
use Rattle.simulated_link.specs.declared.events.ruling.Ruling.TheVariants as ruling
use Rattle.simulated_link.specs.Disks.{Disks, started}
use Rattle.simulated_link.specs.Scene.{Scene, beaten, faulted, ActsAt, Ticks, next_started}

-- a scene by its parts
abbrev pub made : {D : Type 0} → (D → DriverState) → Disks → ReincarnationState D → ℕ → ℕ × ℕ → Noted → Scene
made state disks r tick pulse noted = record {
  disks = disks;
  supply = map state r.supply;
  policy = r.policy;
  watch = r.watch;
  tick = tick;
  pulse = pulse;
  noted = noted;
}

-- the reincarnation server after an event at which nothing is started
ruled_is : {D : Type 0} (state : D → DriverState) (disks : Disks) (b a : ReincarnationState D) (tick : ℕ) (pulse : ℕ × ℕ) (noted : Noted) (w : Watch)
    → a.policy ≡ b.policy → a.watch ≡ w → b.supply ≡ a.supply
    → made state disks a tick pulse noted ≡ record (made state disks b tick pulse noted) { watch = w }
ruled_is state disks b a tick pulse noted w policy watch supply =
    λ i. record { disks = disks; supply = map state (sym supply i); policy = policy i; watch = watch i; tick = tick; pulse = pulse; noted = noted }

pub quiet_tick : {D : Type 0} (state : D → DriverState) (s : Scene) (disks : Disks) (b a : ReincarnationState D) (tick : ℕ) (pulse : ℕ × ℕ) (noted : Noted)
    → made state disks b tick pulse noted ≡ beaten s → Decides b (Tick tick pulse) Nothing a → Ticks s None (made state disks a tick pulse noted)
quiet_tick state s disks b a tick pulse noted is decides =
    subst (λ (c : Scene). ActsAt c None (made state disks a tick pulse noted)) is (record {
      action = restart.Nothing;
      is = decides.keeps.does;
      spare = λ e h. cc;
      tells = refl;
      after = ruled_is state disks b a tick pulse noted (on b.policy b.watch (Tick tick pulse)).0 decides.policy decides.keeps.knows decides.supply;
    })

-- the fault was noted
noted_is : (r : Scene) (e f : Endpoint) (noted : Noted) → e ≡ f → noted ≡ with_entry (entry.Faulted e Hung) r.noted
    → record r { noted = noted } ≡ record r { noted = with_entry (entry.Faulted f Hung) r.noted }
noted_is r e f noted same is = ap (λ (n : Noted). record r { noted = n }) (is ∙ ap (λ (x : Endpoint). with_entry (entry.Faulted x Hung) r.noted) same)

fault_noted : {D : Type 0} (state : D → DriverState) (disks : Disks) (b a : ReincarnationState D) (tick : ℕ) (pulse : ℕ × ℕ) (noted more : Noted)
    (e : Endpoint) (w : Watch) → a.policy ≡ b.policy → a.watch ≡ w → b.supply ≡ a.supply
    → e ≡ driver disks.media.generation → more ≡ with_entry (entry.Faulted e Hung) noted
    → made state disks a tick pulse more
    ≡ faulted ruling.Fault (driver disks.media.generation) Hung (record (made state disks b tick pulse noted) { watch = w })
fault_noted state disks b a tick pulse noted more e w policy watch supply at is =
    ap (λ (r : Scene). record r { noted = more }) (ruled_is state disks b a tick pulse noted w policy watch supply)
    ∙ noted_is (record (made state disks b tick pulse noted) { watch = w }) e (driver disks.media.generation) more at is

pub fault_tick : {D : Type 0} (state : D → DriverState) (s : Scene) (disks : Disks) (b a : ReincarnationState D) (tick : ℕ) (pulse : ℕ × ℕ)
    (noted more : Noted) (e : Endpoint) (until : ℕ) → e ≡ driver disks.media.generation → more ≡ with_entry (entry.Faulted e Hung) noted
    → made state disks b tick pulse noted ≡ beaten s → Decides b (Tick tick pulse) (WaitUntil until) a → Ticks s None (made state disks a tick pulse more)
fault_tick state s disks b a tick pulse noted more e until at said is decides =
    subst (λ (c : Scene). ActsAt c None (made state disks a tick pulse more)) is (record {
      action = restart.WaitUntil until;
      is = decides.keeps.does;
      spare = λ e h. cc;
      tells = refl;
      after = fault_noted state disks b a tick pulse noted more e (on b.policy b.watch (Tick tick pulse)).0 decides.policy decides.keeps.knows
          decides.supply at said;
    })

pub give_up_tick : {D : Type 0} (state : D → DriverState) (s : Scene) (disks : Disks) (b a : ReincarnationState D) (tick : ℕ) (pulse : ℕ × ℕ)
    (noted more : Noted) (e : Endpoint) → e ≡ driver disks.media.generation → more ≡ with_entry (entry.Faulted e Hung) noted
    → made state disks b tick pulse noted ≡ beaten s → Decides b (Tick tick pulse) GiveUp a
    → Ticks s (Some incoming.GaveUp) (made state disks a tick pulse more)
give_up_tick state s disks b a tick pulse noted more e at said is decides =
    subst (λ (c : Scene). ActsAt c (Some incoming.GaveUp) (made state disks a tick pulse more)) is (record {
      action = restart.GiveUp;
      is = decides.keeps.does;
      spare = λ e h. cc;
      tells = refl;
      after = fault_noted state disks b a tick pulse noted more e (on b.policy b.watch (Tick tick pulse)).0 decides.policy decides.keeps.knows
          decides.supply at said;
    })

-- the first of the supply is started
start_is : (g : ℕ) (supply : List DriverState) (d : DriverState) (rest : List DriverState) (b : Scene) → supply ≡ d ∷ rest
    → next_started g supply b ≡ record b { disks = started g d b.disks; supply = rest }
start_is g supply d rest b is = ap (λ (l : List DriverState). next_started g l b) is

pub start_tick : {D : Type 0} (state : D → DriverState) (s : Scene) (disks after : Disks) (b a : ReincarnationState D) (tick : ℕ) (pulse : ℕ × ℕ)
    (noted : Noted) (e : Endpoint) (d : D) → after ≡ started e.generation (state d) disks
    → made state disks b tick pulse noted ≡ beaten s → Decides b (Tick tick pulse) (Start e d) a
    → Ticks s (Some (incoming.Started e)) (made state after a tick pulse noted)
start_tick {D} state s disks after b a tick pulse noted e d starts is decides =
    let w = (on b.policy b.watch (Tick tick pulse)).0 in
    let spare : map state b.supply ≡ state d ∷ map state a.supply = ap (map state) decides.supply in
    let made_so : made state after a tick pulse noted
    ≡ record (made state disks b tick pulse noted) { disks = started e.generation (state d) disks; supply = map state a.supply; watch = w } =
    (λ i. record { disks = starts i; supply = map state a.supply; policy = decides.policy i; watch = decides.keeps.knows i; tick = tick; pulse = pulse; noted = noted }) in
    subst (λ (c : Scene). ActsAt c (Some (incoming.Started e)) (made state after a tick pulse noted)) is (record {
      action = restart.Start e;
      is = decides.keeps.does;
      spare = λ f h. (state d, map state a.supply, spare);
      tells = refl;
      after = made_so ∙ sym (start_is e.generation (map state b.supply) (state d) (map state a.supply)
          (record (made state disks b tick pulse noted) { watch = w }) spare);
    })
