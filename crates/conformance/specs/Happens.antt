-- What an event does, and what a server does after it, to the reincarnation server and the drivers; and the marks of it.
use Rattle.std.specs.Prelude.{◌≡◌, ℕ, ◌+◌, ◌-◌, List, [], ◌∷◌, ◌++◌, Bool, true, false, not, ◌&&◌, ◌||◌, ◌==◌, nat_le, Option, Some, None, Ok, slice_get, if◌then◌else◌}
use Rattle.message.specs.declared.endpoint.Endpoint.{Endpoint}
use Rattle.message.specs.declared.BlockRequest.{BlockRequest}
use Rattle.tree.specs.declared.Who.{Who}
use Rattle.tree.specs.declared.Call.{Call}
use Rattle.tree.specs.Answers.{Answer}
use Rattle.bdev.specs.declared.Step.{Step}
use Rattle.bdev.specs.declared.Step.TheVariants.{Working, Idle, Done, Failed}
use Rattle.bdev.specs.DriverState.{DriverState}
use Rattle.reincarnate.specs.declared.policy.Policy.{Policy}
use Rattle.reincarnate.specs.Faults.{LastFault, next_fault, gives_up, restart_tick}
use Rattle.reincarnate.specs.Watch.{Watch, Running, Waiting, GivenUp, driver, is_last_started, is_same_pulse}
use Rattle.records.specs.Marks.{Mark, Started, Answered, Flush, GaveUp, Took, Issued, Fault}
use Rattle.records.specs.Open.{counts}
use Rattle.records.specs.declared.marks.Cause.{Cause}
use Rattle.records.specs.declared.marks.Cause.TheVariants.{Exit, Hung, Complaint}
use Rattle.schedule.specs.declared.Sent.{Sent}
use Rattle.schedule.specs.declared.Event.{Event}
use Rattle.schedule.specs.declared.Event.TheVariants as event
use Rattle.schedule.specs.Groups.{Group, marks_of}
use Rattle.schedule.specs.declared.log.Post.{Post}
use Rattle.simulated_link.specs.Disks.{Disks, Steps, Dies, Hangs, LinesUp, Repeats, started}
use Rattle.conformance.specs.Core.{Core}

-- a fault at this tick, numbered
abbrev pub fault_at : Policy → Watch → ℕ → LastFault
fault_at policy w tick = next_fault policy.calm w.fault tick

-- the running driver is at fault: the next start is awaited, or the device is given up
pub data AtFault (policy : Policy) (w : Watch) (tick : ℕ) : Bool → Watch → Type 0 where
  Replaces : gives_up policy (fault_at policy w tick).number w.spares w.generation ≡ false
      → AtFault policy w tick false (record w { fault = Some (fault_at policy w tick); phase = Waiting (restart_tick policy (fault_at policy w tick)) })
  GivesUp : gives_up policy (fault_at policy w tick).number w.spares w.generation ≡ true
      → AtFault policy w tick true (record w { fault = Some (fault_at policy w tick); phase = GivenUp })

-- the driver at this endpoint isn't the one that runs
pub record IsNotRunning (w : Watch) (e : Endpoint) : Type 0 where
  pub other : (pulse : ℕ × ℕ) (missed : ℕ) → w.phase ≡ Running pulse missed → is_last_started w e ≡ false

-- an exit or a complaint: a fault where it is of the running driver; whether it gives the device up
pub data AtReport (policy : Policy) (w : Watch) (e : Endpoint) (tick : ℕ) : Option Bool → Watch → Type 0 where
  OfNone : IsNotRunning w e → AtReport policy w e tick None w
  OfRunning : (pulse : ℕ × ℕ) (missed : ℕ) (ends : Bool) (after : Watch) → w.phase ≡ Running pulse missed → e ≡ driver w.generation
      → AtFault policy w tick ends after → AtReport policy w e tick (Some ends) after

-- the marks of a fault: it, and that the device is given up, if it is
abbrev pub fault_marks : Bool → Endpoint → Cause → List Mark
fault_marks true e cause = GaveUp ∷ Fault e cause ∷ []
fault_marks false e cause = Fault e cause ∷ []

abbrev pub exit_marks : Option Bool → Endpoint → List Mark
exit_marks None e = []
exit_marks (Some ends) e = fault_marks ends e Exit

-- the mark of a complaint that is a fault
abbrev pub blame_marks : Option Bool → Endpoint → List Mark
blame_marks None e = []
blame_marks (Some ends) e = Fault e Complaint ∷ []

abbrev pub is_end : Option Bool → Bool
is_end None = false
is_end (Some ends) = ends

-- the tick rises by one, and a live current driver that doesn't hang beats
abbrev pub beaten_core : Core → Core
beaten_core c = record c {
  tick = c.tick + 1;
  pulse = if c.disks.current.live && not c.disks.current.hung then (c.disks.media.generation, c.tick + 1) else c.pulse;
}

-- the reincarnation server at a tick, by what it knows
pub data TicksTo (c : Core) : List Mark → Core → Type 0 where
  Beats : (last : ℕ × ℕ) (missed : ℕ) → c.watch.phase ≡ Running last missed → is_same_pulse c.pulse last ≡ false
      → TicksTo c [] (record c { watch = record (c.watch) { phase = Running c.pulse 0 } })
  MissesOne : (last : ℕ × ℕ) (missed : ℕ) → c.watch.phase ≡ Running last missed → is_same_pulse c.pulse last ≡ true
      → (missed + 1 == c.policy.misses) ≡ false
      → TicksTo c [] (record c { watch = record (c.watch) { phase = Running c.pulse (missed + 1) } })
  FoundHung : (last : ℕ × ℕ) (missed : ℕ) (ends : Bool) (after : Watch) → c.watch.phase ≡ Running last missed → is_same_pulse c.pulse last ≡ true
      → (missed + 1 == c.policy.misses) ≡ true → AtFault c.policy c.watch c.tick ends after
      → TicksTo c (fault_marks ends (driver c.disks.media.generation) Hung) (record c { watch = after })
  WaitsOn : (until : ℕ) → c.watch.phase ≡ Waiting until → nat_le until c.tick ≡ false → TicksTo c [] c
  StartsNext : (until : ℕ) (d : DriverState) (rest : List DriverState) → c.watch.phase ≡ Waiting until → nat_le until c.tick ≡ true
      → c.supply ≡ d ∷ rest
      → TicksTo c (Started (driver (c.watch.generation + 1)) ∷ []) (record c {
        disks = started (c.watch.generation + 1) d c.disks;
        supply = rest;
        watch = record (c.watch) { spares = c.watch.spares - 1; generation = c.watch.generation + 1; phase = Running c.pulse 0 };
      })
  IsOver : c.watch.phase ≡ GivenUp → TicksTo c [] c

-- a step that isn't a failure
abbrev pub GoesWell : Option Step → Type 0
GoesWell None = Unit {0}
GoesWell (Some Working) = Unit {0}
GoesWell (Some Idle) = Unit {0}
GoesWell (Some (Done answer)) = Unit {0}
GoesWell (Some Failed) = ⊥

-- an event, the one with this number, after these groups: its marks, with those of the message that it brings
pub data Begins (place : ℕ) (groups : List Group) (c : Core) : Event → List Mark → Core → Type 0 where
  Arrives : (who : Who) (now : ℕ) (call : Call) → Begins place groups c (event.Arrive who now call) [] c
  Flushes : Begins place groups c event.Flush (Flush ∷ []) c
  Answers : (n : ℕ) (s : Sent) → slice_get c.disks.sent n ≡ Some s → counts (marks_of groups) s.reply ≡ true
      → Begins place groups c (event.Deliver n) (Answered s.reply ∷ []) c
  Drops : (n : ℕ) (s : Sent) → slice_get c.disks.sent n ≡ Some s → counts (marks_of groups) s.reply ≡ false
      → Begins place groups c (event.Deliver n) [] c
  Delivers : (n : ℕ) → slice_get c.disks.sent n ≡ None → Begins place groups c (event.Deliver n) [] c
  LinesAgain : (n : ℕ) (p : Option Post) (d : Disks) → p ≡ slice_get c.posts n → Repeats p c.disks d → Begins place groups c (event.Repeat n) [] (record c { disks = d })
  HangsOne : (g : ℕ) (d : Disks) → Hangs g c.disks d → Begins place groups c (event.Hang g) [] (record c { disks = d })
  StepsOne : (g : ℕ) (step : Option Step) (d : Disks) → Steps place g c.disks step d → GoesWell step
      → Begins place groups c (event.Step g) [] (record c { disks = d })
  FailsOne : (g : ℕ) (d : Disks) (ends : Option Bool) (after : Watch) → Steps place g c.disks (Some Failed) d
      → AtReport c.policy c.watch (driver g) c.tick ends after
      → Begins place groups c (event.Step g) (exit_marks ends (driver g)) (record c { disks = d; watch = after })
  DiesNone : (g : ℕ) (bytes : Option (List ℕ)) (d : Disks) → Dies g bytes c.disks false d
      → Begins place groups c (event.Die g bytes) [] (record c { disks = d })
  DiesOne : (g : ℕ) (bytes : Option (List ℕ)) (d : Disks) (ends : Option Bool) (after : Watch) → Dies g bytes c.disks true d
      → AtReport c.policy c.watch (driver g) c.tick ends after
      → Begins place groups c (event.Die g bytes) (exit_marks ends (driver g)) (record c { disks = d; watch = after })
  Ticks : (marks : List Mark) (a : Core) → TicksTo (beaten_core c) marks a → Begins place groups c event.Tick marks a

-- what is done at the link within an event: nothing that is seen, a post that is accepted, an answer to a call, a complaint, and that the
-- device was given up, which a complaint owes
pub data Adds (c : Core) : List Mark → Core → Type 0 where
  AddsNothing : Adds c [] c
  Posts : (r : BlockRequest) (to : Endpoint) (d : Disks) → LinesUp to r c.disks (Ok tt) d
      → Adds c (Issued r to ∷ []) (record c { disks = d; posts = c.posts ++ record { to = to; request = r } ∷ [] })
  Replies : (who : Who) (now : ℕ) (call : Call) (answer : Answer) → Adds c (Took who now call answer ∷ []) c
  Complains : (about : Endpoint) (ends : Option Bool) (after : Watch) → AtReport c.policy c.watch about c.tick ends after
      → Adds c (blame_marks ends about) (record c { watch = after; owed = c.owed || (is_end ends && not c.told) })
  Pays : c.owed ≡ true → Adds c (GaveUp ∷ []) (record c { owed = false; told = true })
