-- A whole run of a file server over drivers that a schedule moves, step by step: what is done, and what holds when it is.
use Rattle.std.specs.Prelude.{◌≡◌, List, [], ◌∷◌, Bool, true, false, Option, Some, None}
use Rattle.message.specs.declared.BlockRequest.{BlockRequest}
use Rattle.message.specs.declared.Incoming.{Incoming}
use Rattle.message.specs.declared.Incoming.TheVariants as incoming
use Rattle.tree.specs.declared.Reply.{Reply}
use Rattle.records.specs.Area.{Area}
use Rattle.records.specs.Marks.{Mark, gave_up}
use Rattle.records.specs.Told.{Told, Received, took_nothing}
use Rattle.records.specs.Acts.{Began, AtLink, Outbox, owed_after_act, owed_after_message, IsAtRest, MayBegin, MayTake, MayAct, needs_message}
use Rattle.schedule.specs.Faultless.{without_faults}
use Rattle.schedule.specs.Noted.{marks_in}
use Rattle.schedule.specs.declared.log.LogEntry.TheVariants as entry
use Rattle.schedule.specs.declared.arrived.Arrived.{Arrived}
use Rattle.simulated_link.specs.StateView.{RunState, RunsEvent, Turn, HandsOut, noting, paid}

-- the server's record: the run's without its faults
abbrev pub record_of : RunState → List Mark
record_of p = without_faults (marks_in p.scene.noted)

-- The server does nothing; it hears a message between two calls; it answers a call.
pub data Doing : Type 0 where
  Resting : Doing
  Hearing : (message : Incoming) → Doing
  Answering : (call : Arrived) → Doing

abbrev pub is_busy : Doing → Bool
is_busy Resting = false
is_busy (Hearing message) = true
is_busy (Answering call) = true

-- what stands at the link, what the server owes it, and what the server is doing
pub record Moment : Type 0 where
  pub run : RunState
  pub outbox : Outbox
  pub doing : Doing

-- between two calls: the server does nothing and owes nothing, and the link hasn't ended
pub record IsBetween (m : Moment) : Type 0 where
  pub rests : m.doing ≡ Resting
  pub live : m.run.over ≡ false
  pub at_rest : IsAtRest (record_of m.run) m.outbox

-- a message is handed over, which is noted here
abbrev pub hearing : Incoming → RunState → Moment → Moment
hearing message a m = record {
  run = noting (entry.Handed message) a;
  outbox = owed_after_message message (record_of m.run) m.outbox;
  doing = Hearing message;
}

-- the link is told something, or gives it
abbrev pub at_link : Told → RunState → Moment → Moment
at_link told a m = record m { run = a; outbox = owed_after_act (AtLink told) (record_of m.run) m.outbox }

-- One step of a run, by the rules of what a server may do. While it hears a message or answers a call, a request becomes pending, or the link
-- is told something; a message is taken within a call alone. A message was heard. Between two calls, where none waits, the next event is
-- run, and the message that it brings, if there is one, is handed over. That the device was given up is handed over, if it is owed; where
-- it isn't, the first call that waits is handed out. A call is answered, while the link hasn't ended.
pub data Step (area : Area) (m : Moment) : Moment → Type 0 where
  Begins : (r : BlockRequest) → is_busy m.doing ≡ true → MayBegin (record_of m.run) m.outbox r
      → Step area m (record m { outbox = owed_after_act (Began r) (record_of m.run) m.outbox })
  Tells : (told : Told) (a : RunState) → is_busy m.doing ≡ true → took_nothing (told ∷ []) ≡ true
      → MayAct area (record_of m.run) m.outbox (AtLink told) → Turn m.run told a → Step area m (at_link told a m)
  Takes : (message : Incoming) (call : Arrived) (a : RunState) → m.doing ≡ Answering call → MayTake (record_of m.run) m.outbox
      → Turn m.run (Received message) a → Step area m (at_link (Received message) a m)
  Settles : (message : Incoming) → m.doing ≡ Hearing message → IsAtRest (record_of m.run) m.outbox → Step area m (record m { doing = Resting })
  Brings : (message : Incoming) (a : RunState) → IsBetween m → m.run.queue ≡ [] → RunsEvent m.run (Some message) a
      → Step area m (hearing message a m)
  BringsNone : (a : RunState) → IsBetween m → m.run.queue ≡ [] → RunsEvent m.run None a → Step area m (record m { run = a })
  Pays : IsBetween m → m.run.owed ≡ true → m.run.told ≡ false → Step area m (hearing incoming.GaveUp (paid m.run) m)
  HandsCall : (call : Arrived) (a : RunState) → IsBetween m → m.run.owed ≡ false → HandsOut m.run (Some call) a
      → Step area m (record m { run = a; doing = Answering call })
  Replies : (call : Arrived) (reply : Reply) → m.doing ≡ Answering call → m.run.over ≡ false → IsAtRest (record_of m.run) m.outbox
      → Step area m (record m { run = noting (entry.Took call.who call.now call.call reply) m.run; doing = Resting })

-- a run: one step after the other
pub data Runs (area : Area) (b : Moment) : Moment → Type 0 where
  Starts : Runs area b b
  Then : (m a : Moment) → Runs area b m → Step area m a → Runs area b a

-- the server answers a call and needs a message, and the device isn't given up
pub record Needs (m : Moment) : Type 0 where
  pub call : Arrived
  pub answers : m.doing ≡ Answering call
  pub needed : needs_message (record_of m.run) m.outbox ≡ true
  pub not_given_up : gave_up (record_of m.run) ≡ false

-- so it is where the link has ended in a run
abbrev pub RunsEndNeeding : Type 0
RunsEndNeeding = (area : Area) (b a : Moment) → Runs area b a → b.run.over ≡ false → a.run.over ≡ true → Needs a
