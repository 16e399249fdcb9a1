-- A run between two events, but for the calls that wait, and what each event does to it.
use Rattle.std.specs.Prelude.{◌≡◌, ℕ, ◌+◌, List, [], ◌∷◌, Bool, true, false, not, ◌&&◌, Option, Some, None, if◌then◌else◌, slice_get}
use Rattle.message.specs.declared.endpoint.Endpoint.{Endpoint}
use Rattle.message.specs.declared.Incoming.{Incoming}
use Rattle.message.specs.declared.Incoming.TheVariants as incoming
use Rattle.media.specs.Contents.{MediaState}
use Rattle.bdev.specs.declared.Step.{Step}
use Rattle.bdev.specs.declared.Step.TheVariants.{Working, Idle, Done, Failed}
use Rattle.bdev.specs.DriverState.{DriverState}
use Rattle.reincarnate.specs.declared.policy.Policy.{Policy}
use Rattle.reincarnate.specs.declared.policy.Event.{Event as PolicyEvent}
use Rattle.reincarnate.specs.declared.policy.Event.TheVariants as policy
use Rattle.reincarnate.specs.Watch as restart
use Rattle.reincarnate.specs.Watch.{Watch, driver, on}
use Rattle.records.specs.declared.marks.Cause.{Cause}
use Rattle.records.specs.declared.marks.Cause.TheVariants.{Exit, Hung}
use Rattle.schedule.specs.declared.Sent.{Sent}
use Rattle.schedule.specs.declared.Event.{Event}
use Rattle.schedule.specs.declared.Event.TheVariants as event
use Rattle.schedule.specs.Noted.{Noted, with_entry}
use Rattle.schedule.specs.declared.log.LogEntry.TheVariants as entry
use Rattle.simulated_link.specs.declared.events.ruling.Ruling.{Ruling}
use Rattle.simulated_link.specs.declared.events.ruling.Ruling.TheVariants.{Ignored, Fault, GivesUp}
use Rattle.simulated_link.specs.Ruling.{ruling_of}
use Rattle.simulated_link.specs.Disks.{Disks, Steps, Dies, Hangs, Repeats, started, opened_disks}

-- the media and the drivers; those that weren't started, the next one first; the policy and what the reincarnation server knows; the tick,
-- the last beat (its driver's generation and its tick), and what was noted
pub record Scene : Type 0 where
  pub disks : Disks
  pub supply : List DriverState
  pub policy : Policy
  pub watch : Watch
  pub tick : ℕ
  pub pulse : ℕ × ℕ
  pub noted : Noted

-- a driver is at fault, if it was ruled so
abbrev pub faulted : Ruling → Endpoint → Cause → Scene → Scene
faulted Ignored e cause b = b
faulted Fault e cause b = record b { noted = with_entry (entry.Faulted e cause) b.noted }
faulted GivesUp e cause b = record b { noted = with_entry (entry.Faulted e cause) b.noted }

-- what the server is told of a ruling
abbrev pub told_of_ruling : Ruling → Option Incoming
told_of_ruling Ignored = None
told_of_ruling Fault = None
told_of_ruling GivesUp = Some incoming.GaveUp

-- the reincarnation server is told of an event
abbrev pub ruled : PolicyEvent → Scene → Scene
ruled event b = record b { watch = (on b.policy b.watch event).0 }

-- driver g exits: what the server is told, and the run after it
pub record Exits (g : ℕ) (b : Scene) (result : Option Incoming) (a : Scene) : Type 0 where
  pub ruling : Ruling
  pub is : ruling ≡ ruling_of (on b.policy b.watch (policy.Exit (driver g) b.tick)).1
  pub tells : result ≡ told_of_ruling ruling
  pub after : a ≡ faulted ruling (driver g) Exit (ruled (policy.Exit (driver g) b.tick) b)

-- the tick rises by one, and a live current driver that doesn't hang beats
abbrev pub beaten : Scene → Scene
beaten b = record b {
  tick = b.tick + 1;
  pulse = if b.disks.current.live && not b.disks.current.hung then (b.disks.media.generation, b.tick + 1) else b.pulse;
}

-- the driver at the front of the supply is started
abbrev pub next_started : ℕ → List DriverState → Scene → Scene
next_started g [] b = b
next_started g (d ∷ rest) b = record b { disks = started g d b.disks; supply = rest }

-- what the policy says is done
abbrev pub acted : restart.Action → Scene → Scene
acted restart.Nothing b = b
acted (restart.WaitUntil tick) b = faulted Fault (driver b.disks.media.generation) Hung b
acted (restart.Start e) b = next_started e.generation b.supply b
acted restart.GiveUp b = faulted GivesUp (driver b.disks.media.generation) Hung b

-- what the server is told of it
abbrev pub told_of_action : restart.Action → Option Incoming
told_of_action restart.Nothing = None
told_of_action (restart.WaitUntil tick) = None
told_of_action (restart.Start e) = Some (incoming.Started e)
told_of_action restart.GiveUp = Some incoming.GaveUp

-- the reincarnation server's event at a tick
abbrev pub tick_event : Scene → PolicyEvent
tick_event b = policy.Tick b.tick b.pulse

-- the reincarnation server is told of a tick, and what the policy says is done: what the server is told of it, and the run after it
pub record ActsAt (b : Scene) (result : Option Incoming) (a : Scene) : Type 0 where
  pub action : restart.Action
  pub is : action ≡ (on b.policy b.watch (tick_event b)).1
  pub spare : (e : Endpoint) → action ≡ restart.Start e → (d : DriverState) × (rest : List DriverState) × (b.supply ≡ d ∷ rest)
  pub tells : result ≡ told_of_action action
  pub after : a ≡ acted action (ruled (tick_event b) b)

-- a tick
abbrev pub Ticks : Scene → Option Incoming → Scene → Type 0
Ticks b result a = ActsAt (beaten b) result a

-- after a step of driver g: one that failed is an exit
abbrev pub AfterStep : Option Step → ℕ → Scene → Option Incoming → Scene → Type 0
AfterStep (Some Failed) g b result a = Exits g b result a
AfterStep (Some Working) g b result a = (result ≡ None) × (a ≡ b)
AfterStep (Some Idle) g b result a = (result ≡ None) × (a ≡ b)
AfterStep (Some (Done answer)) g b result a = (result ≡ None) × (a ≡ b)
AfterStep None g b result a = (result ≡ None) × (a ≡ b)

-- a step of driver g, at the event with this number
pub record StepsAt (place g : ℕ) (b : Scene) (result : Option Incoming) (a : Scene) : Type 0 where
  pub step : Option Step
  pub disks : Disks
  pub steps : Steps place g b.disks step disks
  pub after : AfterStep step g (record b { disks = disks }) result a

-- after a death of driver g, if it lived: it is an exit
abbrev pub AfterDeath : Bool → ℕ → Scene → Option Incoming → Scene → Type 0
AfterDeath true g b result a = Exits g b result a
AfterDeath false g b result a = (result ≡ None) × (a ≡ b)

-- driver g dies
pub record DiesAt (g : ℕ) (bytes : Option (List ℕ)) (b : Scene) (result : Option Incoming) (a : Scene) : Type 0 where
  pub died : Bool
  pub disks : Disks
  pub dies : Dies g bytes b.disks died disks
  pub after : AfterDeath died g (record b { disks = disks }) result a

-- the message that brings a reply
abbrev pub delivered : Option Sent → Option Incoming
delivered None = None
delivered (Some s) = Some (incoming.Reply s.reply)

-- nothing but the disks changes, and the server is told nothing
pub record Quietly (b : Scene) (result : Option Incoming) (a : Scene) (Does : Disks → Disks → Type 0) : Type 0 where
  pub tells : result ≡ None
  pub disks : Disks
  pub does : Does b.disks disks
  pub after : a ≡ record b { disks = disks }

-- what an event does, the one with this number, and what message it brings; the calls that arrive wait elsewhere
abbrev pub Occurs : ℕ → Event → Scene → Option Incoming → Scene → Type 0
Occurs place (event.Arrive who now call) b result a = (result ≡ None) × (a ≡ b)
Occurs place event.Flush b result a = (result ≡ Some incoming.Flush) × (a ≡ b)
Occurs place event.Tick b result a = Ticks b result a
Occurs place (event.Step g) b result a = StepsAt place g b result a
Occurs place (event.Die g bytes) b result a = DiesAt g bytes b result a
Occurs place (event.Hang g) b result a = Quietly b result a (Hangs g)
Occurs place (event.Deliver n) b result a = (result ≡ delivered (slice_get b.disks.sent n)) × (a ≡ b)
Occurs place (event.Repeat n) b result a = Quietly b result a (Repeats (slice_get b.noted.posts n))

-- Before the first event, over these media, by this policy: the first driver of the supply runs, and the tick is 0; the reincarnation server,
-- which knew this much, was told of that tick.
pub record Opens (media : MediaState) (rules : Policy) (watch : Watch) (supply : List DriverState) (noted : Noted) (a : Scene) : Type 0 where
  pub first : DriverState
  pub rest : List DriverState
  pub spare : supply ≡ first ∷ rest
  pub is : a ≡ record {
    disks = opened_disks media first;
    supply = rest;
    policy = rules;
    watch = (on rules watch (policy.Tick 0 (0, 0))).0;
    tick = 0;
    pulse = (0, 0);
    noted = noted;
  }
