-- What events don't do, whatever the drivers pick.
use Rattle.std.specs.Prelude.{◌≡◌, ◌≢◌, ℕ, ◌+◌, ◌<◌, List, [], ◌∷◌, Bool, true, false, Option, Some, None, ◌==◌, nat_lt, if◌then◌else◌}
use Rattle.std.specs.Prelude.{refl, length}
use Rattle.std.proofs.Common.{arith, ap, ◌∙◌, inl, inr, lit≤, eqb-true}
use Rattle.std.proofs.lemmas.Bool.{lt-leb}
use Rattle.lemmas.proofs.Bools.{and_left}
use Rattle.message.specs.declared.endpoint.Endpoint.{Endpoint}
use Rattle.message.specs.declared.Incoming.{Incoming}
use Rattle.message.specs.declared.Incoming.TheVariants as incoming
use Rattle.media.specs.Contents.{MediaState, accepts}
use Rattle.bdev.specs.declared.Step.{Step}
use Rattle.bdev.specs.declared.Step.TheVariants.{Working, Idle, Done, Failed}
use Rattle.bdev.specs.DriverState.{DriverState, Work}
use Rattle.bdev.specs.Promises as promises
use Rattle.bdev.specs.Promises.{StepKeeps, MovesAtMostOne}
use Rattle.reincarnate.specs.declared.policy.Policy.{Policy}
use Rattle.reincarnate.specs.Policy.{default_policy}
use Rattle.reincarnate.specs.Faults.{LastFault, restart_tick}
use Rattle.reincarnate.specs.Watch as restart
use Rattle.reincarnate.specs.Watch.{Watch, Phase, Running, Waiting, GivenUp, driver, on, on_tick, on_start}
use Rattle.records.specs.declared.marks.Cause.TheVariants.{Exit}
use Rattle.schedule.specs.declared.Event.{Event}
use Rattle.schedule.specs.declared.Event.TheVariants as event
use Rattle.simulated_link.specs.declared.events.ruling.Ruling.{Ruling}
use Rattle.simulated_link.specs.declared.events.ruling.Ruling.TheVariants.{Ignored, Fault, GivesUp}
use Rattle.simulated_link.specs.Disks.{Disks, Steps, NoStep, CurrentSteps, OlderSteps}
use Rattle.simulated_link.specs.Scene.{Scene, Occurs, Exits, AfterStep, AfterDeath, beaten, faulted, told_of_action, next_started, acted}
use Rattle.simulated_link.specs.Scene.{ruled, tick_event}
use Rattle.tests_exact.proofs.DeathRow as death
use Rattle.simulated_link.specs.RunState.{begun}
use Rattle.tests_exact.proofs.Determined.{tick_so, exit_so}

-- While a start is awaited for a later tick a tick changes nothing of the drivers, and tells the server nothing.
not_yet : (policy : Policy) (watch : Watch) (phase : Phase) (tick until : ℕ) (pulse : ℕ × ℕ) → phase ≡ Waiting until → tick < until
    → on_tick policy watch phase tick pulse ≡ (watch, restart.Nothing)
not_yet policy watch phase tick until pulse waits early =
    ap (λ (p : Phase). on_tick policy watch p tick pulse) waits
    ∙ ap (λ (c : Bool). if c then on_start watch pulse else (watch, restart.Nothing)) (lt-leb until tick early)

pub no_early_start : (place : ℕ) (b a : Scene) (result : Option Incoming) (until : ℕ) → b.watch.phase ≡ Waiting until → b.tick + 1 < until
    → Occurs place event.Tick b result a → (result ≡ None) × (a.disks ≡ b.disks)
no_early_start place b a result until waits early t =
    let nothing : (on b.policy b.watch (tick_event (beaten b))).1 ≡ restart.Nothing =
    ap (λ (p : Watch × restart.Action). p.1) (not_yet b.policy b.watch b.watch.phase (b.tick + 1) until (beaten b).pulse waits early) in
    let is = tick_so (beaten b) result a t in (
      is.0 ∙ ap told_of_action nothing,
      ap (λ (s : Scene). s.disks) is.1 ∙ ap (λ (x : restart.Action). (acted x (ruled (tick_event (beaten b)) (beaten b))).disks) nothing,
    )

-- the moment after the death, as if it were the second fault in a row
abbrev second_fault : LastFault
second_fault = record { number = 2; tick = 0 }

abbrev after_second : Scene
after_second = record (death.dead.run.scene) {
  watch = record { spares = 1; generation = 1; fault = Some second_fault; phase = Waiting (restart_tick default_policy second_fault) };
}

-- The pause is of two ticks then: none is started at the next.
started_early : (e : Endpoint) (a : Scene) → Occurs 3 event.Tick (begun event.Tick after_second) (Some (incoming.Started e)) a → ⊥
started_early e a early =
    let h : Some (incoming.Started e) ≡ None =
    (no_early_start 3 (begun event.Tick after_second) a (Some (incoming.Started e)) 2 refl (lit≤ tt) early).0 in
    cc

-- A driver that was replaced changes no sector, whatever its step is.
accepts_last : (m : MediaState) (g s : ℕ) → g < m.generation → accepts m g s ≡ true → ⊥
accepts_last m g s before accepted =
    let same : g ≡ m.generation = eqb-true g m.generation (and_left (g == m.generation) (nat_lt s (length m.sectors)) accepted) in
    omega (arith, before, same)

moved_none : (b : DriverState) (w w' : Work) (m m' : MediaState) (g : ℕ) → g < m.generation → MovesAtMostOne b w m g w' m' → m' ≡ m
moved_none b w w' m m' g before (inl nothing) = nothing.same_media
moved_none b w w' m m' g before (inr moved) = absurd (accepts_last m g _ before moved.accepted)

step_none : (b : DriverState) (work : Option Work) (m m' : MediaState) (g : ℕ) (step : Step) (a : DriverState) → g < m.generation
    → promises.StepsAt b work m g step a m' → m' ≡ m
step_none b None m m' g step a before h = h.0
step_none b (Some w) m m' g step a before h = moved_none b w h.0 m m' g before h.1

steps_none : (place g : ℕ) (b d : Disks) (step : Option Step) → g < b.media.generation → Steps place g b step d → d.media ≡ b.media
steps_none place g b _ _ before (NoStep none) = refl
steps_none place g b _ _ before (CurrentSteps step a m same live steps) =
    absurd (let h : g ≡ b.media.generation = same in omega (arith, before, h))
steps_none place g b _ _ before (OlderSteps at was a step m older live steps) =
    step_none steps.handed steps.handed.work b.media m g step a.state before steps.steps.steps

faulted_disks : (r : Ruling) (g : ℕ) (b : Scene) → (faulted r (driver g) Exit b).disks ≡ b.disks
faulted_disks Ignored g b = refl
faulted_disks Fault g b = refl
faulted_disks GivesUp g b = refl

pub after_step : (step : Option Step) (g : ℕ) (b a : Scene) (result : Option Incoming) → AfterStep step g b result a → a.disks ≡ b.disks
after_step (Some Failed) g b a result h =
    ap (λ (s : Scene). s.disks) (exit_so g b result a h).1 ∙ faulted_disks _ g _
after_step (Some Working) g b a result h = ap (λ (s : Scene). s.disks) h.1
after_step (Some Idle) g b a result h = ap (λ (s : Scene). s.disks) h.1
after_step (Some (Done answer)) g b a result h = ap (λ (s : Scene). s.disks) h.1
after_step None g b a result h = ap (λ (s : Scene). s.disks) h.1

pub older_writes_nothing : (place g : ℕ) (b a : Scene) (result : Option Incoming) → g < b.disks.media.generation
    → Occurs place (event.Step g) b result a → a.disks.media ≡ b.disks.media
older_writes_nothing place g b a result before h =
    ap (λ (d : Disks). d.media) (after_step h.step g (record b { disks = h.disks }) a result h.after)
    ∙ steps_none place g b.disks h.disks h.step before h.steps

-- Once the device was given up no tick starts a driver, or tells the server anything.
pub no_start_once_given_up : (place : ℕ) (b a : Scene) (result : Option Incoming) → b.watch.phase ≡ GivenUp
    → Occurs place event.Tick b result a → (result ≡ None) × (a.disks ≡ b.disks)
no_start_once_given_up place b a result gone t =
    let nothing : (on b.policy b.watch (tick_event (beaten b))).1 ≡ restart.Nothing =
    ap (λ (p : Phase). (on_tick b.policy b.watch p (b.tick + 1) (beaten b).pulse).1) gone in
    let is = tick_so (beaten b) result a t in (
      is.0 ∙ ap told_of_action nothing,
      ap (λ (s : Scene). s.disks) is.1 ∙ ap (λ (x : restart.Action). (acted x (ruled (tick_event (beaten b)) (beaten b))).disks) nothing,
    )

-- the clock, and the last beat
abbrev pub clock : Scene → ℕ × (ℕ × ℕ)
clock s = (s.tick, s.pulse)

faulted_clock : (r : Ruling) (g : ℕ) (b : Scene) → clock (faulted r (driver g) Exit b) ≡ clock b
faulted_clock Ignored g b = refl
faulted_clock Fault g b = refl
faulted_clock GivesUp g b = refl

exit_clock : (g : ℕ) (b a : Scene) (result : Option Incoming) → Exits g b result a → clock a ≡ clock b
exit_clock g b a result e = ap clock (exit_so g b result a e).1 ∙ faulted_clock _ g _

step_clock : (step : Option Step) (g : ℕ) (b a : Scene) (result : Option Incoming) → AfterStep step g b result a → clock a ≡ clock b
step_clock (Some Failed) g b a result h = exit_clock g b a result h
step_clock (Some Working) g b a result h = ap clock h.1
step_clock (Some Idle) g b a result h = ap clock h.1
step_clock (Some (Done answer)) g b a result h = ap clock h.1
step_clock None g b a result h = ap clock h.1

death_clock : (died : Bool) (g : ℕ) (b a : Scene) (result : Option Incoming) → AfterDeath died g b result a → clock a ≡ clock b
death_clock true g b a result h = exit_clock g b a result h
death_clock false g b a result h = ap clock h.1

-- At no other event than a tick the clock goes on, or a driver beats.
pub time_stands : (place : ℕ) (e : Event) (b a : Scene) (result : Option Incoming) → e ≢ event.Tick → Occurs place e b result a
    → clock a ≡ clock b
time_stands place (event.Arrive who now call) b a result other o = ap clock o.1
time_stands place event.Flush b a result other o = ap clock o.1
time_stands place event.Tick b a result other o = absurd (other refl)
time_stands place (event.Step g) b a result other o = step_clock o.step g (record b { disks = o.disks }) a result o.after
time_stands place (event.Die g bytes) b a result other o = death_clock o.died g (record b { disks = o.disks }) a result o.after
time_stands place (event.Hang g) b a result other o = ap clock o.after
time_stands place (event.Deliver n) b a result other o = ap clock o.1
time_stands place (event.Repeat n) b a result other o = ap clock o.after

next_tick : (g : ℕ) (supply : List DriverState) (b : Scene) → (next_started g supply b).tick ≡ b.tick
next_tick g [] b = refl
next_tick g (d ∷ rest) b = refl

acted_tick : (x : restart.Action) (b : Scene) → (acted x b).tick ≡ b.tick
acted_tick restart.Nothing b = refl
acted_tick (restart.WaitUntil tick) b = refl
acted_tick (restart.Start e) b = next_tick e.generation b.supply b
acted_tick restart.GiveUp b = refl

-- At a tick the clock goes on by one, whatever the policy says.
pub one_at_a_tick : (place : ℕ) (b a : Scene) (result : Option Incoming) → Occurs place event.Tick b result a → a.tick ≡ b.tick + 1
one_at_a_tick place b a result t = ap (λ (s : Scene). s.tick) (tick_so (beaten b) result a t).1 ∙ acted_tick _ _

-- after a death the media and the drivers are what it left
pub after_death : (died : Bool) (g : ℕ) (b a : Scene) (result : Option Incoming) → AfterDeath died g b result a → a.disks ≡ b.disks
after_death true g b a result h = ap (λ (s : Scene). s.disks) (exit_so g b result a h).1 ∙ faulted_disks _ g _
after_death false g b a result h = ap (λ (s : Scene). s.disks) h.1
