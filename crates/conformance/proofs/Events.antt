-- What an event of a schedule does, by what it says of the reincarnation server and of marks.
use Rattle.std.proofs.Common.{◌≡◌, ℕ, zero, suc, ◌+◌, List, [], ◌∷◌, ◌++◌, Bool, true, false, cond, refl, sym, ◌∙◌, ap, subst, arith}
use Rattle.std.proofs.lemmas.Bool.Decides.{nat_tests}
use Rattle.std.specs.Prelude.{◌&&◌, ◌==◌, nat_le, Option, Some, None, if◌then◌else◌, slice_get}
use Rattle.lemmas.proofs.Bools.{and_left, and_right}
use Rattle.message.specs.declared.endpoint.Endpoint.{Endpoint}
use Rattle.message.specs.declared.Incoming.{Incoming}
use Rattle.message.specs.declared.Incoming.TheVariants as incoming
use Rattle.bdev.specs.declared.Step.{Step}
use Rattle.bdev.specs.declared.Step.TheVariants.{Working, Idle, Done, Failed}
use Rattle.bdev.specs.DriverState.{DriverState}
use Rattle.reincarnate.specs.declared.policy.Policy.{Policy}
use Rattle.reincarnate.specs.declared.policy.Event.TheVariants as policy
use Rattle.reincarnate.specs.Faults.{gives_up, restart_tick}
use Rattle.reincarnate.specs.Watch as restart
use Rattle.reincarnate.specs.Watch.{Watch, Phase, Running, Waiting, GivenUp, driver, is_last_started, is_same_pulse, on, on_fault, on_report, on_start, on_tick}
use Rattle.records.specs.Marks.{Mark, Started, Answered, Flush, GaveUp, Fault}
use Rattle.records.specs.Open.{counts}
use Rattle.records.specs.declared.marks.Cause.TheVariants.{Exit, Hung}
use Rattle.schedule.specs.declared.Sent.{Sent}
use Rattle.schedule.specs.declared.Event.{Event}
use Rattle.schedule.specs.declared.Event.TheVariants as event
use Rattle.schedule.specs.Groups.{Group, marks_of}
use Rattle.schedule.specs.declared.log.LogEntry.TheVariants as entry
use Rattle.schedule.specs.Noted.{Noted, marks_from, marks_in, with_mark, with_message, with_entry}
use Rattle.simulated_link.specs.declared.events.ruling.Ruling.{Ruling}
use Rattle.simulated_link.specs.declared.events.ruling.Ruling.TheVariants as ruling
use Rattle.simulated_link.specs.Ruling.{ruling_of}
use Rattle.simulated_link.specs.Disks.{Disks, Steps, Dies, started}
use Rattle.simulated_link.specs.Scene.{Scene, faulted, told_of_ruling, ruled, Exits, beaten, acted, told_of_action, tick_event, next_started, ActsAt, AfterStep, AfterDeath, StepsAt, DiesAt, delivered, Quietly, Occurs}
use Rattle.conformance.specs.Core.{Core}
use Rattle.conformance.specs.Seen.{core_at, with_brought, Brought, NoMessage, Counted, Uncounted, NoReply, EventDone, begun_scene}
use Rattle.conformance.specs.Happens.{fault_at, AtFault, Replaces, GivesUp, IsNotRunning, AtReport, OfNone, OfRunning, exit_marks, fault_marks, beaten_core, TicksTo, Beats, MissesOne, FoundHung, WaitsOn, StartsNext, IsOver, Begins, Arrives, Flushes, Answers, Drops, Delivers, LinesAgain, HangsOne, StepsOne, FailsOne, DiesNone, DiesOne, Ticks}

-- the marks are those of the groups, where the first start alone stood before them
pub record_of_groups : (groups : List Group) (first : List Mark) → first ≡ Started (driver 1) ∷ [] → marks_from groups first ≡ marks_of groups
record_of_groups [] first is = is
record_of_groups (g ∷ groups) first is = ap (λ (l : List Mark). g.1 ++ l) (record_of_groups groups first is)

equal_of : (n m : ℕ) → (n == m) ≡ true → n ≡ m
equal_of n m h = grind (arith, nat_tests, h)

last_is : (w : Watch) (e : Endpoint) → is_last_started w e ≡ true → e ≡ driver w.generation
last_is w e h =
    let slot : e.slot ≡ 1 = equal_of e.slot 1 (and_left (e.slot == 1) (e.generation == w.generation) h) in
    let generation : e.generation ≡ w.generation = equal_of e.generation w.generation (and_right (e.slot == 1) (e.generation == w.generation) h) in
    λ i. record { slot = slot i; generation = generation i }

-- what is ruled
abbrev pub ruling_for : Option Bool → Ruling
ruling_for None = ruling.Ignored
ruling_for (Some false) = ruling.Fault
ruling_for (Some true) = ruling.GivesUp

-- a report, by what was known
pub record Reported (policy : Policy) (w : Watch) (e : Endpoint) (tick : ℕ) (made : Watch × restart.Action) : Type 0 where
  pub ends : Option Bool
  pub report : AtReport policy w e tick ends made.0
  pub ruled : ruling_of made.1 ≡ ruling_for ends

not_running : (w : Watch) (p : Phase) (e : Endpoint) → w.phase ≡ p → ((last : ℕ × ℕ) (count : ℕ) → p ≡ Running last count → is_last_started w e ≡ false) → IsNotRunning w e
not_running w p e is other = record { other = λ last count at. other last count (sym is ∙ at) }

pub reported : (policy : Policy) (w : Watch) (e : Endpoint) (tick : ℕ) → Reported policy w e tick (on_report policy w w.phase e tick)
reported policy w e tick = by w.phase refl where
  at_fault : (last : ℕ × ℕ) (count : ℕ) → w.phase ≡ Running last count → e ≡ driver w.generation
      → (b : Bool) → gives_up policy (fault_at policy w tick).number w.spares w.generation ≡ b
      → Reported policy w e tick (if b
      then (record w { fault = Some (fault_at policy w tick); phase = GivenUp }, restart.GiveUp)
      else (record w { fault = Some (fault_at policy w tick); phase = Waiting (restart_tick policy (fault_at policy w tick)) }, restart.WaitUntil (restart_tick policy (fault_at policy w tick))))
  at_fault last count is own true goes = record { ends = Some true; report = OfRunning last count true _ is own (GivesUp goes); ruled = refl }
  at_fault last count is own false goes = record { ends = Some false; report = OfRunning last count false _ is own (Replaces goes); ruled = refl }

  when : (last : ℕ × ℕ) (count : ℕ) → w.phase ≡ Running last count → (b : Bool) → is_last_started w e ≡ b
      → Reported policy w e tick (if b then on_fault policy w tick else (w, restart.Nothing))
  when last count is true own = at_fault last count is (last_is w e own) (gives_up policy (fault_at policy w tick).number w.spares w.generation) refl
  when last count is false own = record { ends = None; report = OfNone (record { other = λ l c at. own }); ruled = refl }

  by : (p : Phase) → w.phase ≡ p → Reported policy w e tick (on_report policy w p e tick)
  by (Running last count) is = when last count is (is_last_started w e) refl
  by (Waiting until) is = record { ends = None; report = OfNone (not_running w (Waiting until) e is (λ last count at. cc)); ruled = refl }
  by GivenUp is = record { ends = None; report = OfNone (not_running w GivenUp e is (λ last count at. cc)); ruled = refl }

done_by : (place : ℕ) (owed told : Bool) (event : Event) (b : Scene) (result told_is : Option Incoming) (a after : Scene) → result ≡ told_is → a ≡ after
    → EventDone place owed told event b told_is after → EventDone place owed told event b result a
done_by place owed told event b result told_is a after tells is done =
    subst (λ (r : Option Incoming). EventDone place owed told event b r a) (sym tells)
    (subst (λ (s : Scene). EventDone place owed told event b told_is s) (sym is) done)

-- an exit, after what was done to the drivers
exits_done : (place : ℕ) (owed told : Bool) (event : Event) (b : Scene) (d : Disks) (g : ℕ) (result : Option Incoming) (a : Scene)
    → ((ends : Option Bool) (after : Watch) → AtReport b.policy b.watch (driver g) b.tick ends after
    → Begins place b.noted.groups (core_at b owed told) event (exit_marks ends (driver g)) (record (core_at b owed told) { disks = d; watch = after }))
    → Exits g (record (begun_scene event b) { disks = d }) result a → EventDone place owed told event b result a
exits_done place owed told event b d g result a begins x =
    let c : Scene = record (begun_scene event b) { disks = d } in
    let r : Reported b.policy b.watch (driver g) b.tick (on b.policy b.watch (policy.Exit (driver g) b.tick)) = reported b.policy b.watch (driver g) b.tick in
    let same : x.ruling ≡ ruling_for r.ends = x.is ∙ r.ruled in
    done_by place owed told event b result (told_of_ruling (ruling_for r.ends)) a
    (faulted (ruling_for r.ends) (driver g) Exit (ruled (policy.Exit (driver g) b.tick) c))
    (x.tells ∙ ap told_of_ruling same)
    (x.after ∙ ap (λ (u : Ruling). faulted u (driver g) Exit (ruled (policy.Exit (driver g) b.tick) c)) same)
    (by r.ends r.report) where
      by : (ends : Option Bool) → AtReport b.policy b.watch (driver g) b.tick ends (on b.policy b.watch (policy.Exit (driver g) b.tick)).0
          → EventDone place owed told event b (told_of_ruling (ruling_for ends))
          (faulted (ruling_for ends) (driver g) Exit (ruled (policy.Exit (driver g) b.tick) (record (begun_scene event b) { disks = d })))
      by None report = record { marks = []; begins = begins None _ report; brought = NoMessage [] refl; groups = refl; first = refl }
      by (Some false) report = record { marks = Fault (driver g) Exit ∷ []; begins = begins (Some false) _ report; brought = NoMessage (Fault (driver g) Exit ∷ []) refl; groups = refl; first = refl }
      by (Some true) report = record { marks = GaveUp ∷ Fault (driver g) Exit ∷ []; begins = begins (Some true) _ report; brought = NoReply incoming.GaveUp (GaveUp ∷ Fault (driver g) Exit ∷ []) refl refl; groups = refl; first = refl }

-- a delivery
delivers_done : (place : ℕ) (owed told : Bool) (b : Scene) (n : ℕ) (o : Option Sent) → b.noted.first ≡ Started (driver 1) ∷ [] → slice_get b.disks.sent n ≡ o
    → EventDone place owed told (event.Deliver n) b (delivered o) (begun_scene (event.Deliver n) b)
delivers_done place owed told b n None first there = record { marks = []; begins = Delivers n there; brought = NoMessage [] refl; groups = refl; first = refl }
delivers_done place owed told b n (Some s) first there = by (counts (marks_from b.noted.groups b.noted.first) s.reply) refl where
  same : counts (marks_from b.noted.groups b.noted.first) s.reply ≡ counts (marks_of b.noted.groups) s.reply
  same = ap (λ (l : List Mark). counts l s.reply) (record_of_groups b.noted.groups b.noted.first first)

  by : (t : Bool) → counts (marks_from b.noted.groups b.noted.first) s.reply ≡ t
      → EventDone place owed told (event.Deliver n) b (Some (incoming.Reply s.reply)) (begun_scene (event.Deliver n) b)
  by true is = record {
    marks = Answered s.reply ∷ [];
    begins = Answers n s there (sym same ∙ is);
    brought = Counted s.reply (sym same ∙ is);
    groups = ap (λ (t : Bool). (cond t (with_mark (Answered s.reply) (with_entry (entry.Begun (event.Deliver n)) b.noted)) (with_entry (entry.Begun (event.Deliver n)) b.noted)).groups) is;
    first = ap (λ (t : Bool). (cond t (with_mark (Answered s.reply) (with_entry (entry.Begun (event.Deliver n)) b.noted)) (with_entry (entry.Begun (event.Deliver n)) b.noted)).first) is;
  }
  by false is = record {
    marks = [];
    begins = Drops n s there (sym same ∙ is);
    brought = Uncounted s.reply (sym same ∙ is);
    groups = ap (λ (t : Bool). (cond t (with_mark (Answered s.reply) (with_entry (entry.Begun (event.Deliver n)) b.noted)) (with_entry (entry.Begun (event.Deliver n)) b.noted)).groups) is;
    first = ap (λ (t : Bool). (cond t (with_mark (Answered s.reply) (with_entry (entry.Begun (event.Deliver n)) b.noted)) (with_entry (entry.Begun (event.Deliver n)) b.noted)).first) is;
  }

-- a step
step_done : (place : ℕ) (owed told : Bool) (g : ℕ) (b : Scene) (step : Option Step) (d : Disks) (result : Option Incoming) (a : Scene) → Steps place g b.disks step d
    → AfterStep step g (record (begun_scene (event.Step g) b) { disks = d }) result a → EventDone place owed told (event.Step g) b result a
step_done place owed told g b (Some Failed) d result a steps after =
    exits_done place owed told (event.Step g) b d g result a (λ ends w report. FailsOne g d ends w steps report) after
step_done place owed told g b (Some Working) d result a steps after =
    done_by place owed told (event.Step g) b result None a (record (begun_scene (event.Step g) b) { disks = d }) after.0 after.1
    (record { marks = []; begins = StepsOne g (Some Working) d steps tt; brought = NoMessage [] refl; groups = refl; first = refl })
step_done place owed told g b (Some Idle) d result a steps after =
    done_by place owed told (event.Step g) b result None a (record (begun_scene (event.Step g) b) { disks = d }) after.0 after.1
    (record { marks = []; begins = StepsOne g (Some Idle) d steps tt; brought = NoMessage [] refl; groups = refl; first = refl })
step_done place owed told g b (Some (Done answer)) d result a steps after =
    done_by place owed told (event.Step g) b result None a (record (begun_scene (event.Step g) b) { disks = d }) after.0 after.1
    (record { marks = []; begins = StepsOne g (Some (Done answer)) d steps tt; brought = NoMessage [] refl; groups = refl; first = refl })
step_done place owed told g b None d result a steps after =
    done_by place owed told (event.Step g) b result None a (record (begun_scene (event.Step g) b) { disks = d }) after.0 after.1
    (record { marks = []; begins = StepsOne g None d steps tt; brought = NoMessage [] refl; groups = refl; first = refl })

-- a death
death_done : (place : ℕ) (owed told : Bool) (g : ℕ) (bytes : Option (List ℕ)) (b : Scene) (died : Bool) (d : Disks) (result : Option Incoming) (a : Scene)
    → Dies g bytes b.disks died d → AfterDeath died g (record (begun_scene (event.Die g bytes) b) { disks = d }) result a
    → EventDone place owed told (event.Die g bytes) b result a
death_done place owed told g bytes b true d result a dies after =
    exits_done place owed told (event.Die g bytes) b d g result a (λ ends w report. DiesOne g bytes d ends w dies report) after
death_done place owed told g bytes b false d result a dies after =
    done_by place owed told (event.Die g bytes) b result None a (record (begun_scene (event.Die g bytes) b) { disks = d }) after.0 after.1
    (record { marks = []; begins = DiesNone g bytes d dies; brought = NoMessage [] refl; groups = refl; first = refl })

-- a tick, by what the policy does
abbrev TickDone : ℕ → Bool → Bool → Scene → Watch × restart.Action → Type 0
TickDone place owed told b made =
    ((e : Endpoint) → made.1 ≡ restart.Start e → (d : DriverState) × (rest : List DriverState) × (b.supply ≡ d ∷ rest))
    → EventDone place owed told event.Tick b (told_of_action made.1) (acted made.1 (record (beaten (begun_scene event.Tick b)) { watch = made.0 }))

fault_done : (place : ℕ) (owed told : Bool) (b : Scene) (last : ℕ × ℕ) (count : ℕ) → b.watch.phase ≡ Running last count
    → is_same_pulse (beaten_core (core_at b owed told)).pulse last ≡ true → (count + 1 == b.policy.misses) ≡ true
    → (ends : Bool) → gives_up b.policy (fault_at b.policy b.watch (b.tick + 1)).number b.watch.spares b.watch.generation ≡ ends
    → TickDone place owed told b (if ends
    then (record (b.watch) { fault = Some (fault_at b.policy b.watch (b.tick + 1)); phase = GivenUp }, restart.GiveUp)
    else (record (b.watch) { fault = Some (fault_at b.policy b.watch (b.tick + 1)); phase = Waiting (restart_tick b.policy (fault_at b.policy b.watch (b.tick + 1))) }, restart.WaitUntil (restart_tick b.policy (fault_at b.policy b.watch (b.tick + 1)))))
fault_done place owed told b last count is same enough true goes spare = record {
  marks = GaveUp ∷ Fault (driver b.disks.media.generation) Hung ∷ [];
  begins = Ticks _ _ (FoundHung last count true _ is same enough (GivesUp goes));
  brought = NoReply incoming.GaveUp (GaveUp ∷ Fault (driver b.disks.media.generation) Hung ∷ []) refl refl;
  groups = refl;
  first = refl;
}
fault_done place owed told b last count is same enough false goes spare = record {
  marks = Fault (driver b.disks.media.generation) Hung ∷ [];
  begins = Ticks _ _ (FoundHung last count false _ is same enough (Replaces goes));
  brought = NoMessage (Fault (driver b.disks.media.generation) Hung ∷ []) refl;
  groups = refl;
  first = refl;
}

started_done : (place : ℕ) (owed told : Bool) (b : Scene) (until : ℕ) (d : DriverState) (rest : List DriverState) → b.watch.phase ≡ Waiting until
    → nat_le until (b.tick + 1) ≡ true → (supply : List DriverState) → b.supply ≡ supply → supply ≡ d ∷ rest
    → EventDone place owed told event.Tick b (Some (incoming.Started (driver (b.watch.generation + 1))))
    (next_started (b.watch.generation + 1) supply (record (beaten (begun_scene event.Tick b)) { watch = (on_start b.watch (beaten_core (core_at b owed told)).pulse).0 }))
started_done place owed told b until d rest is come [] at spare = absurd (clash spare) where
  clash : ◌≡◌ {A = List DriverState} [] (d ∷ rest) → ⊥
  clash e = cc
started_done place owed told b until d rest is come (d' ∷ rest') at spare = record {
  marks = Started (driver (b.watch.generation + 1)) ∷ [];
  begins = Ticks _ _ (StartsNext until d' rest' is come at);
  brought = NoReply (incoming.Started (driver (b.watch.generation + 1))) (Started (driver (b.watch.generation + 1)) ∷ []) refl refl;
  groups = refl;
  first = refl;
}

tick_made : (place : ℕ) (owed told : Bool) (b : Scene) (p : Phase) → b.watch.phase ≡ p
    → TickDone place owed told b (on_tick b.policy b.watch p (b.tick + 1) (beaten_core (core_at b owed told)).pulse)
tick_made place owed told b (Running last count) is = when (is_same_pulse (beaten_core (core_at b owed told)).pulse last) refl (count + 1 == b.policy.misses) refl where
  when : (same : Bool) → is_same_pulse (beaten_core (core_at b owed told)).pulse last ≡ same → (enough : Bool) → (count + 1 == b.policy.misses) ≡ enough
      → TickDone place owed told b (if same
      then (if enough then on_fault b.policy b.watch (b.tick + 1) else (record (b.watch) { phase = Running (beaten_core (core_at b owed told)).pulse (count + 1) }, restart.Nothing))
      else (record (b.watch) { phase = Running (beaten_core (core_at b owed told)).pulse 0 }, restart.Nothing))
  when true same true enough = fault_done place owed told b last count is same enough
      (gives_up b.policy (fault_at b.policy b.watch (b.tick + 1)).number b.watch.spares b.watch.generation) refl
  when true same false few = λ spare. record { marks = []; begins = Ticks _ _ (MissesOne last count is same few); brought = NoMessage [] refl; groups = refl; first = refl }
  when false same enough few = λ spare. record { marks = []; begins = Ticks _ _ (Beats last count is same); brought = NoMessage [] refl; groups = refl; first = refl }
tick_made place owed told b (Waiting until) is = when (nat_le until (b.tick + 1)) refl where
  when : (come : Bool) → nat_le until (b.tick + 1) ≡ come
      → TickDone place owed told b (if come then on_start b.watch (beaten_core (core_at b owed told)).pulse else (b.watch, restart.Nothing))
  when true come = λ spare. let s : (d : DriverState) × (rest : List DriverState) × (b.supply ≡ d ∷ rest) = spare (driver (b.watch.generation + 1)) refl in
      started_done place owed told b until s.0 s.1 is come b.supply refl s.2
  when false early = λ spare. record { marks = []; begins = Ticks _ _ (WaitsOn until is early); brought = NoMessage [] refl; groups = refl; first = refl }
tick_made place owed told b GivenUp is = λ spare. record { marks = []; begins = Ticks _ _ (IsOver is); brought = NoMessage [] refl; groups = refl; first = refl }

tick_done : (place : ℕ) (owed told : Bool) (b : Scene) (result : Option Incoming) (a : Scene) → ActsAt (beaten (begun_scene event.Tick b)) result a
    → EventDone place owed told event.Tick b result a
tick_done place owed told b result a x =
    let made : Watch × restart.Action = on b.policy b.watch (tick_event (beaten (begun_scene event.Tick b))) in
    done_by place owed told event.Tick b result (told_of_action made.1) a (acted made.1 (record (beaten (begun_scene event.Tick b)) { watch = made.0 }))
    (x.tells ∙ ap told_of_action x.is)
    (x.after ∙ ap (λ (u : restart.Action). acted u (record (beaten (begun_scene event.Tick b)) { watch = made.0 })) x.is)
    (tick_made place owed told b b.watch.phase refl (λ e is. x.spare e (x.is ∙ is)))

-- any event
pub event_done : (place : ℕ) (owed told : Bool) (event : Event) (b : Scene) (result : Option Incoming) (a : Scene) → b.noted.first ≡ Started (driver 1) ∷ []
    → Occurs place event (begun_scene event b) result a → EventDone place owed told event b result a
event_done place owed told (event.Arrive who now call) b result a first p =
    done_by place owed told (event.Arrive who now call) b result None a (begun_scene (event.Arrive who now call) b) p.0 p.1
    (record { marks = []; begins = Arrives who now call; brought = NoMessage [] refl; groups = refl; first = refl })
event_done place owed told event.Flush b result a first p =
    done_by place owed told event.Flush b result (Some incoming.Flush) a (begun_scene event.Flush b) p.0 p.1
    (record { marks = Flush ∷ []; begins = Flushes; brought = NoReply incoming.Flush (Flush ∷ []) refl refl; groups = refl; first = refl })
event_done place owed told event.Tick b result a first p = tick_done place owed told b result a p
event_done place owed told (event.Step g) b result a first p = step_done place owed told g b p.step p.disks result a p.steps p.after
event_done place owed told (event.Die g bytes) b result a first p = death_done place owed told g bytes b p.died p.disks result a p.dies p.after
event_done place owed told (event.Hang g) b result a first p =
    done_by place owed told (event.Hang g) b result None a (record (begun_scene (event.Hang g) b) { disks = p.disks }) p.tells p.after
    (record { marks = []; begins = HangsOne g p.disks p.does; brought = NoMessage [] refl; groups = refl; first = refl })
event_done place owed told (event.Deliver n) b result a first p =
    done_by place owed told (event.Deliver n) b result (delivered (slice_get b.disks.sent n)) a (begun_scene (event.Deliver n) b) p.0 p.1
    (delivers_done place owed told b n (slice_get b.disks.sent n) first refl)
event_done place owed told (event.Repeat n) b result a first p =
    done_by place owed told (event.Repeat n) b result None a (record (begun_scene (event.Repeat n) b) { disks = p.disks }) p.tells p.after
    (record { marks = []; begins = LinesAgain n (slice_get b.noted.posts n) p.disks refl p.does; brought = NoMessage [] refl; groups = refl; first = refl })
