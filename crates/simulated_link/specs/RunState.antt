-- A run between two events, with the calls that wait, what is done at its link, and what the link guarantees.
use Rattle.std.specs.Prelude.{◌≡◌, ℕ, ◌+◌, ◌-◌, ◌*◌, ◌≤◌, List, [], ◌++◌, length, drop, Bool, true, false, ◌||◌, ◌&&◌, not, Option, Some, None, Result, Ok, Err, is_ok, slice_get}
use Rattle.std.specs.declared.alloc.AllocError.{AllocError}
use Rattle.message.specs.declared.endpoint.Endpoint.{Endpoint}
use Rattle.message.specs.declared.BlockRequest.{BlockRequest}
use Rattle.message.specs.declared.Incoming.{Incoming}
use Rattle.message.specs.declared.Incoming.TheVariants as incoming
use Rattle.tree.specs.declared.Reply.{Reply}
use Rattle.bdev.specs.DriverState.{DriverState}
use Rattle.media.specs.Contents.{MediaState}
use Rattle.reincarnate.specs.declared.policy.Policy.{Policy}
use Rattle.reincarnate.specs.declared.policy.Event.TheVariants as policy
use Rattle.reincarnate.specs.Watch.{Watch, driver, on}
use Rattle.records.specs.Marks.{Mark}
use Rattle.records.specs.Opening.{Opening}
use Rattle.records.specs.Told.{Told, Posted, Complained, Received}
use Rattle.schedule.specs.declared.Event.{Event}
use Rattle.schedule.specs.Faultless.{without_faults}
use Rattle.reissue.specs.declared.link.LinkRefusal.{LinkRefusal}
use Rattle.schedule.specs.Noted.{Noted, marks_in, nothing_noted, with_entry, with_end}
use Rattle.schedule.specs.declared.log.LogEntry.{LogEntry}
use Rattle.schedule.specs.declared.log.LogEntry.TheVariants as entry
use Rattle.simulated_link.specs.declared.events.ruling.Ruling.{Ruling}
use Rattle.simulated_link.specs.Ruling.{ruling_of, is_fault, gives_up}
use Rattle.simulated_link.specs.Disks.{Disks, LinesUp}
use Rattle.simulated_link.specs.Scene.{Scene, Opens, Occurs, ruled}
use Rattle.simulated_link.specs.Kept.{SceneKept, IsLatest}
use Rattle.schedule.specs.declared.arrived.Arrived.{Arrived}
use Rattle.schedule.specs.ArrivingCalls.{calls_of}

-- the drivers and what was noted; the schedule and the number of its next event; the calls that wait; whether that the device was given up
-- is owed or was told; whether the link has ended; whether memory was wanted, so that not all may have been done
pub record RunState : Type 0 where
  pub scene : Scene
  pub events : List Event
  pub next : ℕ
  pub queue : List Arrived
  pub owed : Bool
  pub told : Bool
  pub over : Bool
  pub starved : Bool

-- an event begins
abbrev pub begun : Event → Scene → Scene
begun event b = record b { noted = with_entry (entry.Begun event) b.noted }

-- the next event is run, while the link hasn't ended and nothing is owed; a call that it brings waits
pub record RunsEvent (b : RunState) (result : Option Incoming) (a : RunState) : Type 0 where
  pub event : Event
  pub live : b.over ≡ false
  pub paid : b.owed ≡ false
  pub is : slice_get b.events b.next ≡ Some event
  pub latest : IsLatest b.scene
  pub plays : Occurs b.next event (begun event b.scene) result a.scene
  pub queue : a.queue ≡ b.queue ++ calls_of event
  pub events : a.events ≡ b.events
  pub next : a.next ≡ b.next + 1
  pub owed : a.owed ≡ b.owed
  pub told : a.told ≡ b.told
  pub over : a.over ≡ b.over
  pub starved : a.starved ≡ b.starved

-- events are run, of which the last alone may bring a message
pub data Advances (b : RunState) : Option Incoming → RunState → Type 0 where
  Stays : Advances b None b
  Goes : (m a : RunState) (result : Option Incoming) → Advances b None m → RunsEvent m result a → Advances b result a

-- the server's record is the run's without its faults, and the drivers fit this one
pub record Heard (v : Opening) (s : Scene) (marks next : List Mark) : Type 0 where
  pub is : without_faults (marks_in s.noted) ≡ marks
  pub kept : SceneKept v s next

-- both are the same
abbrev pub RunTruth : Opening → Scene → List Mark → Type 0
RunTruth v s marks = Heard v s marks marks

-- one thing more is noted
abbrev pub noting : LogEntry → RunState → RunState
noting e p = record p { scene = record (p.scene) { noted = with_entry e p.scene.noted } }

-- that the device was given up is told, and no longer owed
abbrev pub paid : RunState → RunState
paid p = record p { owed = false; told = true }

-- the link has ended
abbrev pub ended : RunState → RunState
ended p = record p { scene = record (p.scene) { noted = with_end p.scene.noted }; over = true }

-- memory was wanted
abbrev pub starving : RunState → RunState
starving p = record p { starved = true }

-- each event was run, and nothing is owed
pub record IsSpent (p : RunState) : Type 0 where
  pub events : length p.events ≤ p.next
  pub paid : p.owed ≡ false

-- nothing comes any more, after some events: each was run, and nothing is owed; or memory was wanted
pub data ComesToEnd (b : RunState) : RunState → Type 0 where
  IsRunOut : (a : RunState) → Advances b None a → IsSpent a → ComesToEnd b a
  IsStarved : (a : RunState) → Advances b None a → ComesToEnd b (starving a)

-- a post to an endpoint, accepted or not
abbrev pub posted : Endpoint → BlockRequest → Bool → Disks → RunState → RunState
posted to r accepted d p = noting (entry.Posted to r accepted) (record p { scene = record (p.scene) { disks = d } })

-- what the reincarnation server rules at a complaint of a driver
abbrev pub ruling_at : Endpoint → Scene → Ruling
ruling_at about s = ruling_of (on s.policy s.watch (policy.Complaint about s.tick)).1

-- a complaint: where it gives the device up, that is owed from now on, unless the link has ended
abbrev pub complained : Endpoint → RunState → RunState
complained about p = noting (entry.Complained about (is_fault (ruling_at about p.scene))) (record p {
  scene = ruled (policy.Complaint about p.scene.tick) p.scene;
  owed = p.owed || (gives_up (ruling_at about p.scene) && not p.told && not p.over);
})

-- One thing that a server does at the link, and what the link was told by it or gave: it takes a message, which events bring or which is owed;
-- it takes End, where nothing comes any more; it posts, while the link hasn't ended; it complains. A link that has ended gives End again
-- without a turn.
pub data Turn (b : RunState) : Told → RunState → Type 0 where
  Takes : (message : Incoming) (a : RunState) → Advances b (Some message) a → Turn b (Received message) (noting (entry.Received message) a)
  TakesOwed : b.over ≡ false → b.owed ≡ true → b.told ≡ false → Turn b (Received incoming.GaveUp) (noting (entry.Received incoming.GaveUp) (paid b))
  TakesEnd : (a : RunState) → b.over ≡ false → ComesToEnd b a → Turn b (Received incoming.End) (ended a)
  Posts : (to : Endpoint) (r : BlockRequest) (result : Result (Unit {0}) LinkRefusal) (d : Disks) → b.over ≡ false → LinesUp to r b.scene.disks result d
      → Turn b (Posted to r (is_ok result)) (posted to r (is_ok result) d b)
  Complains : (about : Endpoint) → Turn b (Complained about) (complained about b)

-- one after the other
pub data GoesOn (b : RunState) : RunState → Type 0 where
  Still : GoesOn b b
  Further : (m a : RunState) (told : Told) → GoesOn b m → Turn m told a → GoesOn b a

-- What is done between two calls: the next event is run, and the message that it brings is handed over; or that the device was given
-- up is, if it is owed; or nothing, for want of memory.
pub data Asides (b : RunState) : Result (Option Incoming) AllocError → RunState → Type 0 where
  HandsEvent : (message : Incoming) (a : RunState) → RunsEvent b (Some message) a → Asides b (Ok (Some message)) (noting (entry.Handed message) a)
  HandsNone : (a : RunState) → RunsEvent b None a → Asides b (Ok None) a
  HandsOwed : b.over ≡ false → b.owed ≡ true → b.told ≡ false → Asides b (Ok (Some incoming.GaveUp)) (noting (entry.Handed incoming.GaveUp) (paid b))
  HandsNothing : (error : AllocError) → Asides b (Err error) (starving b)

-- the first of the calls that wait is handed out, if one waits
pub record HandsOut (b : RunState) (result : Option Arrived) (a : RunState) : Type 0 where
  pub first : result ≡ slice_get b.queue 0
  pub after : a ≡ record b { queue = drop 1 b.queue }

-- the answer of a call is noted, or nothing is, for want of memory
abbrev pub Answers : RunState → Arrived → Reply → Result (Unit {0}) AllocError → RunState → Type 0
Answers b arrived reply (Ok done) a = a ≡ noting (entry.Took arrived.who arrived.now arrived.call reply) b
Answers b arrived reply (Err error) a = a ≡ starving b

-- one, unless that the device was given up was told
abbrev pub unless_told : Bool → ℕ
unless_told true = 0
unless_told false = 1

-- how much is left to do, at most: each event may bring a call, and that the device was given up may be told once
abbrev pub work_left : RunState → ℕ
work_left p = 2 * (length p.events - p.next) + length p.queue + unless_told p.told

-- before the first event the server is handed the start of driver 1
abbrev pub first_noted : Noted
first_noted = with_entry (entry.Handed (incoming.Started (driver 1))) nothing_noted

-- Before the first event, over these media, by this policy: the first driver of the supply runs, and no call waits.
pub record IsOpened (media : MediaState) (rules : Policy) (watch : Watch) (supply : List DriverState) (events : List Event) (p : RunState) : Type 0 where
  pub scene : Opens media rules watch supply first_noted p.scene
  pub events_are : p.events ≡ events
  pub next : p.next ≡ 0
  pub queue : p.queue ≡ []
  pub owed : p.owed ≡ false
  pub told : p.told ≡ false
  pub over : p.over ≡ false
  pub starved : p.starved ≡ false

-- the messages that it still gives: one for each event, and that the device is given up
abbrev pub left_of : Bool → ℕ → Bool → ℕ
left_of true events told = 0
left_of false events true = events
left_of false events false = events + 1
