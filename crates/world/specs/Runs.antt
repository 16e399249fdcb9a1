-- What a run leads through: turns between two calls, in which events are run, messages handed over, and calls answered.
use Rattle.std.specs.Prelude.{◌≡◌, ◌⊎◌, ◌≤◌, ◌<◌, ◌+◌, List, [], ◌∷◌, length, Bool, true, false, Option, Some, None, Ok, if◌then◌else◌}
use Rattle.layout.specs.declared.Geometry.{Geometry}
use Rattle.message.specs.declared.Incoming.{Incoming}
use Rattle.tree.specs.Tree.{Tree}
use Rattle.tree.specs.declared.Reply.{Reply}
use Rattle.tree.specs.Answers.{answer_of}
use Rattle.records.specs.Marks.{Mark, Took}
use Rattle.records.specs.Opening.{Opening, contents_at}
use Rattle.records.specs.Flushes.{FrameState}
use Rattle.records.specs.ServerCall.{Serving, state_of}
use Rattle.records.specs.Area.{Area, area_of}
use Rattle.reissue.specs.Calls.{Truth}
use Rattle.simulated_link.specs.Kept.{with_next}
use Rattle.schedule.specs.Calls.{Arrival}
use Rattle.schedule.specs.declared.arrived.Arrived.{Arrived}
use Rattle.simulated_link.specs.StateView.{RunState, IsSpent, Asides, Answers, work_left}
use Rattle.simulated_link.specs.Laws.{LeadsOn, IsToldOfEnd}
use Rattle.simulated_link.specs.Waiting.{HasCalls, arrival_of}
use Rattle.simulated_link.specs.Moments.{Doing, Resting, Hearing, Answering, Moment, Runs}
use Rattle.file_server.specs.Over.{Stands, SameServing}
use Rattle.world.specs.Served.{Turns}
use Rattle.world.specs.declared.run_loop.course.Course.{Course}
use Rattle.world.specs.declared.run_loop.course.Course.TheVariants.{More, Done, Cut}

-- a moment of the run of a server that is doing this
abbrev pub moment : Serving → RunState → Doing → Moment
moment s p doing = record { run = p; outbox = s.outbox; doing = doing }

-- what a server may write: its volume, behind the first two blocks
abbrev pub area_at : Serving → Area
area_at s = area_of s.geometry s.minor

-- the call that a server is answering, if it is answering one
abbrev pub out_in : Doing → List Arrival
out_in Resting = []
out_in (Hearing message) = []
out_in (Answering call) = arrival_of call ∷ []

-- the server does so, and its link hasn't ended
pub record IsLive (doing : Doing) (s : Serving) (p : RunState) : Type 0 where
  pub ended : s.ended ≡ false
  pub live : p.over ≡ false
  pub told_of_end : IsToldOfEnd p
  pub calls : HasCalls (out_in doing) p

-- it does nothing
abbrev pub IsIdle : Serving → RunState → Type 0
IsIdle s p = IsLive Resting s p

-- the call was cut, since the link has ended, after the last event or for want of memory: it has no answer
pub record WasCut (call : Arrived) (s : Serving) (p : RunState) : Type 0 where
  pub ended : s.ended ≡ true
  pub over : p.over ≡ true
  pub why : (p.starved ≡ true) ⊎ IsSpent p
  pub calls : HasCalls (arrival_of call ∷ []) p

-- a server stands with a record, to which a run by the rules led, turn by turn
pub record StandsAfter (area : Area) (g : Geometry) (f : FrameState) (t : Serving) (is : Truth) (v : Opening) (tree : Tree) (from to : Moment) : Type 0 where
  pub marks : List Mark
  pub stands : Stands t is v tree marks
  pub runs : Runs area from to
  pub turns : Turns area g (contents_at v) tree from f to (state_of t)

-- A server over a link, from one moment to another: what it serves stays, the schedule stays and no event is run twice; and where it
-- stood with a record, it stands with one, to which the steps of a run led.
pub record RunsOn (s t : Serving) (was is : Truth) (b a : RunState) (x y : Doing) : Type 0 where
  pub geometry : t.geometry ≡ s.geometry
  pub minor : t.minor ≡ s.minor
  pub frame_count : t.frame_count ≡ s.frame_count
  pub leads : LeadsOn b a
  pub stands : (v : Opening) (tree : Tree) (marks : List Mark) → Stands s was v tree marks
      → StandsAfter (area_at s) s.geometry (state_of s) t is v tree (moment s b x) (moment t a y)

-- an event was run, or what was owed was told, and the message, if there is one, wasn't handed over yet
pub record Awaits (s t : Serving) (was is : Truth) (b a : RunState) (message : Option Incoming) : Type 0 where
  pub same : SameServing s t
  pub asides : Asides b (Ok message) a
  pub truth : (v : Opening) (marks : List Mark) → was v marks → is v (with_next message marks)

-- the answer of a call was noted
pub record Notes (s t : Serving) (was is : Truth) (b a : RunState) (arrived : Arrived) (reply : Reply) : Type 0 where
  pub same : SameServing s t
  pub answers : Answers b arrived reply (Ok tt) a
  pub truth : (v : Opening) (marks : List Mark) → was v marks → is v (Took arrived.who arrived.now arrived.call (answer_of reply) ∷ marks)

-- an event is next between two calls: one is left, and no call waits
pub record IsNext (p : RunState) : Type 0 where
  pub left : p.next < length p.events
  pub queue : p.queue ≡ []

-- what is owed was told, or just one event was run
pub record RunsOne (b a : RunState) : Type 0 where
  pub next : a.next ≡ (if b.owed then b.next else b.next + 1)
  pub less : work_left a < work_left b

-- each event was run, nothing is owed, and no call waits
pub record IsRunOut (p : RunState) : Type 0 where
  pub events : length p.events ≤ p.next
  pub paid : p.owed ≡ false
  pub queue : p.queue ≡ []

-- what the server does once a call came, if one did
abbrev pub doing_of : Option Arrived → Doing
doing_of None = Resting
doing_of (Some call) = Answering call

-- what it does after a call that came to this
abbrev pub doing_after : Course → Arrived → Doing
doing_after More call = Resting
doing_after Done call = Resting
doing_after Cut call = Answering call

-- what came of a call: an answer, or that it was cut
abbrev pub AnswersTo : Course → Arrived → Serving → RunState → Type 0
AnswersTo More call t a = IsIdle t a
AnswersTo Done call t a = ⊥
AnswersTo Cut call t a = WasCut call t a

-- something was done, and less is left
pub record GoesFurther (s t : Serving) (was is : Truth) (b a : RunState) : Type 0 where
  pub runs : RunsOn s t was is b a Resting Resting
  pub idle : IsIdle t a
  pub less : work_left a < work_left b

-- nothing is left to do
pub record IsDone (s t : Serving) (was is : Truth) (b a : RunState) : Type 0 where
  pub runs : RunsOn s t was is b a Resting Resting
  pub idle : IsIdle t a
  pub out : IsRunOut a

-- a call was cut
pub record IsCut (s t : Serving) (was is : Truth) (b a : RunState) : Type 0 where
  pub call : Arrived
  pub runs : RunsOn s t was is b a Resting (Answering call)
  pub cut : WasCut call t a

-- what a turn came to: something was done, and less is left; nothing was left to do; or a call was cut
abbrev pub ComesTo : Course → Serving → Serving → Truth → Truth → RunState → RunState → Type 0
ComesTo More s t was is b a = GoesFurther s t was is b a
ComesTo Done s t was is b a = IsDone s t was is b a
ComesTo Cut s t was is b a = IsCut s t was is b a

-- how a run ended: nothing was left to do, or a call was cut
abbrev pub EndsAs : Bool → Serving → Serving → Truth → Truth → RunState → RunState → Type 0
EndsAs false s t was is b a = IsDone s t was is b a
EndsAs true s t was is b a = IsCut s t was is b a
