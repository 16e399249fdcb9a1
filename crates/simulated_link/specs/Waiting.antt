-- The calls that arrived: those that wait, and those that were handed out.
use Rattle.std.specs.Prelude.{◌≡◌, List, [], ◌∷◌, ◌++◌, map, reverse, Option, Some, Result, Ok}
use Rattle.std.specs.declared.alloc.AllocError.{AllocError}
use Rattle.message.specs.declared.Incoming.{Incoming}
use Rattle.tree.specs.declared.Reply.{Reply}
use Rattle.schedule.specs.Calls.{Arrival, arrived, taken}
use Rattle.schedule.specs.Noted.{marks_in}
use Rattle.schedule.specs.declared.arrived.Arrived.{Arrived}
use Rattle.simulated_link.specs.StateView.{RunState, GoesOn, Asides, HandsOut, Answers}

-- a call that arrived, as definitions see it
abbrev pub arrival_of : Arrived → Arrival
arrival_of a = (a.who, a.now, a.call)

-- The calls that arrived in the events so far, newest first: those that wait, these, which were handed out and have no answer, and those
-- that were answered.
pub record HasCalls (out : List Arrival) (p : RunState) : Type 0 where
  pub order : arrived p.scene.noted.groups ≡ reverse (map arrival_of p.queue) ++ (out ++ taken (marks_in p.scene.noted))

-- whatever a server does at the link, and what is done between two calls, hands no call out and answers none
abbrev pub ServersHandNone : Type 0
ServersHandNone = (out : List Arrival) (b a : RunState) → GoesOn b a → HasCalls out b → HasCalls out a

abbrev pub AsidesHandNone : Type 0
AsidesHandNone = (out : List Arrival) (b a : RunState) (result : Result (Option Incoming) AllocError) → Asides b result a → HasCalls out b → HasCalls out a

-- the call that is handed out is the first that waits
abbrev pub OneIsHandedOut : Type 0
OneIsHandedOut = (b a : RunState) (call : Arrived) → HandsOut b (Some call) a → HasCalls [] b → HasCalls (arrival_of call ∷ []) a

-- and is answered
abbrev pub ItIsAnswered : Type 0
ItIsAnswered = (b a : RunState) (call : Arrived) (reply : Reply) → Answers b call reply (Ok tt) a → HasCalls (arrival_of call ∷ []) b → HasCalls [] a
