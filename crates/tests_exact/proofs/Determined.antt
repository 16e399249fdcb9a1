-- What a death and a tick do at moments of the rows: just this, whatever one picks.
use Rattle.std.specs.Prelude.{◌≡◌, ℕ, ◌+◌, ◌<◌, [], ◌∷◌, Bool, true, false, Option, Some, None, refl, slice_get}
use Rattle.std.proofs.Common.{arith, ap, ap₂, sym, ◌∙◌, subst, inl, inr}
use Rattle.lemmas.proofs.Options.{some_same}
use Rattle.message.specs.declared.Incoming.{Incoming}
use Rattle.message.specs.declared.Incoming.TheVariants as incoming
use Rattle.reincarnate.specs.declared.policy.Event.TheVariants as policy
use Rattle.reincarnate.specs.Policy.{default_policy}
use Rattle.reincarnate.specs.Watch as restart
use Rattle.reincarnate.specs.Watch.{driver, on}
use Rattle.records.specs.declared.marks.Cause.TheVariants.{Exit}
use Rattle.schedule.specs.declared.Event.{Event}
use Rattle.schedule.specs.declared.Event.TheVariants as event
use Rattle.simulated_link.specs.declared.events.ruling.Ruling.{Ruling}
use Rattle.simulated_link.specs.Disks.{Disks, Slot, NoneLives, NotStarted, CurrentIsDead, OlderIsDead, IsOlder, Dies, NoneDies, CurrentDies}
use Rattle.simulated_link.specs.Disks.{OlderDies, with_older, dead_slot, Hangs, NoneHangs, CurrentHangs, OlderHangs}
use Rattle.simulated_link.specs.Moments.{Moment, Step}
use Rattle.simulated_link.specs.RunState.{begun}
use Rattle.simulated_link.specs.Ruling.{ruling_of}
use Rattle.simulated_link.specs.Scene.{Scene, Occurs, Exits, AfterDeath, ActsAt, faulted, ruled, told_of_ruling, acted, told_of_action}
use Rattle.simulated_link.specs.Scene.{tick_event}
use Rattle.tests_exact.proofs.Small.{area, torn, client, sync}
use Rattle.tests_exact.proofs.Making.{after_event}
use Rattle.tests_exact.proofs.Only.{RunsNext, next_event, moment_after}
use Rattle.tests_exact.proofs.Beginning as beginning
use Rattle.tests_exact.proofs.DeathRow as first
use Rattle.tests_exact.proofs.HungRow as older

-- an exit is as the policy rules it
pub exit_so : (g : ℕ) (b : Scene) (result : Option Incoming) (a : Scene) → Exits g b result a
    → let ruling : Ruling = ruling_of (on b.policy b.watch (policy.Exit (driver g) b.tick)).1 in
    (result ≡ told_of_ruling ruling) × (a ≡ faulted ruling (driver g) Exit (ruled (policy.Exit (driver g) b.tick) b))
exit_so g b result a e = (
  e.tells ∙ ap told_of_ruling e.is,
  e.after ∙ ap (λ (r : Ruling). faulted r (driver g) Exit (ruled (policy.Exit (driver g) b.tick) b)) e.is,
)

-- a tick does as the policy says
pub tick_so : (b : Scene) (result : Option Incoming) (a : Scene) → ActsAt b result a
    → let action : restart.Action = (on b.policy b.watch (tick_event b)).1 in
    (result ≡ told_of_action action) × (a ≡ acted action (ruled (tick_event b) b))
tick_so b result a e = (e.tells ∙ ap told_of_action e.is, e.after ∙ ap (λ (x : restart.Action). acted x (ruled (tick_event b) b)) e.is)

-- a step that runs an event which does just this leads to just this moment
pub leads_to : (m : Moment) (e : Event) (result : Option Incoming) (s : Scene) (a : Moment) → RunsNext m e a
    → ((r : Option Incoming) (x : Scene) → Occurs m.run.next e (begun e m.run.scene) r x → (r ≡ result) × (x ≡ s))
    → a ≡ moment_after result (after_event e s m.run) m
leads_to m e result s a runs just =
    let this = just runs.result runs.scene runs.occurs in
    runs.is ∙ ap₂ (λ (r : Option Incoming) (x : Scene). moment_after r (after_event e x m.run) m) this.0 this.1

none_below : (n : ℕ) → n < n → ⊥
none_below n h = omega (arith, h)

-- driver 1 lives, and is the last that was started
first_lives : NoneLives 1 first.half.run.scene.disks → ⊥
first_lives (NotStarted (inl none)) = omega (arith, none)
first_lives (NotStarted (inr later)) = none_below 1 later
first_lives (CurrentIsDead same dead) = cc
first_lives (OlderIsDead at was older dead) = none_below 1 older.older

first_dies : (died : Bool) (d : Disks) → Dies 1 (Some torn) first.half.run.scene.disks died d → (died ≡ true) × (d ≡ first.death.disks)
first_dies _ _ (NoneDies none) = absurd (first_lives none)
first_dies _ _ (CurrentDies same live) = (refl, refl)
first_dies _ _ (OlderDies at was older live) = absurd (none_below 1 older.older)

-- its death tears the sector that it named, and is a fault
death_is : (result : Option Incoming) (a : Scene)
    → Occurs 2 (event.Die 1 (Some torn)) (begun (event.Die 1 (Some torn)) first.half.run.scene) result a
    → (result ≡ None) × (a ≡ first.death)
death_is result a d =
    let this = first_dies d.died d.disks d.dies in
    let b : Scene = begun (event.Die 1 (Some torn)) first.half.run.scene in
    let after : AfterDeath true 1 (record b { disks = first.death.disks }) result a =
    subst (λ (x : Bool). AfterDeath x 1 (record b { disks = first.death.disks }) result a) this.0
    (subst (λ (x : Disks). AfterDeath d.died 1 (record b { disks = x }) result a) this.1 d.after) in
    exit_so 1 (record b { disks = first.death.disks }) result a after

-- the only step from there leads to that
pub only_death : (a : Moment) → Step area first.half a → a ≡ first.dead
only_death a step =
    leads_to first.half (event.Die 1 (Some torn)) None first.death a
    (next_event first.half (event.Die 1 (Some torn)) refl refl refl refl area a step) death_is

-- the next tick starts driver 2
restart_is : (result : Option Incoming) (a : Scene) → Occurs 3 event.Tick (begun event.Tick first.dead.run.scene) result a
    → (result ≡ Some (incoming.Started (driver 2))) × (a ≡ first.restart_at_1)
restart_is result a t = tick_so _ result a t

pub only_restart : (a : Moment) → Step area first.dead a → a ≡ first.restarted
only_restart a step =
    leads_to first.dead event.Tick (Some (incoming.Started (driver 2))) first.restart_at_1 a
    (next_event first.dead event.Tick refl refl refl refl area a step) restart_is

-- a call that arrives waits
pub only_arrival : (a : Moment) → Step area first.written a → a ≡ first.sync_waits
only_arrival a step =
    leads_to first.written (event.Arrive client 100 sync.call) None (begun (event.Arrive client 100 sync.call) first.written.run.scene) a
    (next_event first.written (event.Arrive client 100 sync.call) refl refl refl refl area a step) (λ r x o. o)

-- where driver 2 runs and driver 1 lives, driver 1 is the first of the older ones
older_is : (at : ℕ) (was : Slot) → IsOlder 1 older.stepped.run.scene.disks at was → (at ≡ 0) × (older.hanging ≡ was)
older_is at was o =
    let zero : at ≡ 0 = (let h : 1 ≡ at + 1 = o.number in omega (arith, h)) in
    (zero, some_same older.hanging was (sym (ap (λ (n : ℕ). slice_get (older.hanging ∷ []) n) zero) ∙ o.there))

older_lives : NoneLives 1 older.stepped.run.scene.disks → ⊥
older_lives (NotStarted (inl none)) = omega (arith, none)
older_lives (NotStarted (inr later)) = omega (arith, later)
older_lives (CurrentIsDead same dead) = omega (arith, same)
older_lives (OlderIsDead at was o dead) =
    let h : true ≡ false = ap (λ (s : Slot). s.live) (older_is at was o).1 ∙ dead in cc

older_dies : (died : Bool) (d : Disks) → Dies 1 (Some torn) older.stepped.run.scene.disks died d
    → (died ≡ true) × (d ≡ older.dead.run.scene.disks)
older_dies _ _ (NoneDies none) = absurd (older_lives none)
older_dies _ _ (CurrentDies same live) = absurd (let h : 1 ≡ 2 = same in omega (arith, h))
older_dies _ _ (OlderDies at was o live) =
    let this = older_is at was o in
    (refl, ap₂ (λ (n : ℕ) (s : Slot). with_older n (dead_slot s) older.stepped.run.scene.disks) this.0 (sym this.1))

-- its death tears nothing, and is no fault
older_death_is : (result : Option Incoming) (a : Scene)
    → Occurs 6 (event.Die 1 (Some torn)) (begun (event.Die 1 (Some torn)) older.stepped.run.scene) result a
    → (result ≡ None) × (a ≡ older.dead.run.scene)
older_death_is result a d =
    let this = older_dies d.died d.disks d.dies in
    let b : Scene = begun (event.Die 1 (Some torn)) older.stepped.run.scene in
    let after : AfterDeath true 1 (record b { disks = older.dead.run.scene.disks }) result a =
    subst (λ (x : Bool). AfterDeath x 1 (record b { disks = older.dead.run.scene.disks }) result a) this.0
    (subst (λ (x : Disks). AfterDeath d.died 1 (record b { disks = x }) result a) this.1 d.after) in
    exit_so 1 (record b { disks = older.dead.run.scene.disks }) result a after

pub only_older_death : (a : Moment) → Step area older.stepped a → a ≡ older.dead
only_older_death a step =
    leads_to older.stepped (event.Die 1 (Some torn)) None older.dead.run.scene a
    (next_event older.stepped (event.Die 1 (Some torn)) refl refl refl refl area a step) older_death_is

-- so it is where other events are next: a flush, a hang, a heartbeat that is missed, the start after it
pub only_flush : (a : Moment) → Step area (beginning.start default_policy first.events) a
    → a ≡ beginning.flush_heard default_policy (event.Step 1 ∷ first.later)
only_flush a step =
    let m = beginning.start default_policy first.events in
    leads_to m event.Flush (Some incoming.Flush) (begun event.Flush m.run.scene) a
    (next_event m event.Flush refl refl refl refl area a step) (λ r x o. o)

pub only_hang : (a : Moment) → Step area older.half a → a ≡ older.hung
only_hang a step =
    leads_to older.half (event.Hang 1) None older.hung.run.scene a (next_event older.half (event.Hang 1) refl refl refl refl area a step)
    (λ r x o.
    let hangs : o.disks ≡ older.hung.run.scene.disks = by o.disks o.does in
    (o.tells, o.after ∙ ap (λ (d : Disks). record (begun (event.Hang 1) older.half.run.scene) { disks = d }) hangs)) where
      by : (d : Disks) → Hangs 1 older.half.run.scene.disks d → d ≡ older.hung.run.scene.disks
      by _ (NoneHangs (inl none)) = absurd (let h : 1 ≡ 0 = none in omega (arith, h))
      by _ (NoneHangs (inr later)) = absurd (none_below 1 later)
      by _ (CurrentHangs same) = refl
      by _ (OlderHangs at was o) = absurd (none_below 1 o.older)

pub only_missed : (a : Moment) → Step area older.hung a → a ≡ older.missed
only_missed a step =
    leads_to older.hung event.Tick None older.missed_at_1 a
    (next_event older.hung event.Tick refl refl refl refl area a step) (λ r x o. tick_so _ r x o)

pub only_late_start : (a : Moment) → Step area older.missed a → a ≡ older.restarted
only_late_start a step =
    leads_to older.missed event.Tick (Some (incoming.Started (driver 2))) older.restart_at_2 a
    (next_event older.missed event.Tick refl refl refl refl area a step) (λ r x o. tick_so _ r x o)
