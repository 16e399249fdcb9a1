-- What the link's guarantee says of replies and of the media, and what is the same or less after anything that is done at the link.
use Rattle.std.specs.Prelude.{true, ◌≡◌, ◌⊎◌, ◌<◌, ◌≤◌, List, length, take, Option, Result, OnOk, OnSome}
use Rattle.std.specs.declared.alloc.AllocError.{AllocError}
use Rattle.message.specs.declared.Incoming.{Incoming}
use Rattle.tree.specs.declared.Reply.{Reply}
use Rattle.schedule.specs.Groups.{schedule_of}
use Rattle.schedule.specs.Noted.{marks_in}
use Rattle.records.specs.Area.{Area}
use Rattle.records.specs.Marks.{Mark, gave_up}
use Rattle.records.specs.Open.{IsWellFormed}
use Rattle.records.specs.Disk.{HasTrueReplies}
use Rattle.records.specs.Opening.{Opening, contents_at}
use Rattle.records.specs.Told.{took_end}
use Rattle.true_replies.specs.State.{MediaHold, OutsideHolds}
use Rattle.true_replies.specs.Events.{opening_media}
use Rattle.simulated_link.specs.Scene.{Scene}
use Rattle.schedule.specs.declared.arrived.Arrived.{Arrived}
use Rattle.simulated_link.specs.StateView.{RunState, RunTruth, IsSpent, GoesOn, Asides, HandsOut, Answers, work_left}
use Rattle.simulated_link.specs.Moments.{Moment, Runs, record_of}

-- in each record of which it holds the replies are true
abbrev pub RepliesAreTrue : Type 0
RepliesAreTrue = (v : Opening) (s : Scene) (marks : List Mark) → RunTruth v s marks → HasTrueReplies (contents_at v) marks

-- the media are the disk of the record where that is sure, and as they were handed in outside of the volume
pub record MediaHeld (v : Opening) (s : Scene) (marks : List Mark) : Type 0 where
  pub inside : MediaHold v (contents_at v) s.disks.media marks
  pub outside : OutsideHolds v (opening_media v) s.disks.media

abbrev pub MediaAreHeld : Type 0
MediaAreHeld = (v : Opening) (s : Scene) (marks : List Mark) → RunTruth v s marks → MediaHeld v s marks

-- A run by the rules keeps the guarantee, while its record is well formed. (The rules say neither that a request that becomes pending is
-- for whole sectors nor that no pending one has a sector of it; a record that is well formed does.)
abbrev pub RunsKeepTruth : Type 0
RunsKeepTruth =
    (v : Opening) (area : Area) (b a : Moment) → area.minor ≡ v.minor → Runs area b a → IsWellFormed (record_of a.run)
    → RunTruth v b.run.scene (record_of b.run) → RunTruth v a.run.scene (record_of a.run)

-- so at each moment on the way to one whose record is well formed the media hold what the record says
abbrev pub MediaAreHeldThroughout : Type 0
MediaAreHeldThroughout =
    (v : Opening) (area : Area) (b m a : Moment) → area.minor ≡ v.minor → Runs area b m → Runs area m a → IsWellFormed (record_of a.run)
    → RunTruth v b.run.scene (record_of b.run) → MediaHeld v m.run.scene (record_of m.run)

-- the events that were noted are the first of the schedule
pub record IsSound (p : RunState) : Type 0 where
  pub schedule : schedule_of p.scene.noted.groups ≡ take p.next p.events

-- the schedule stays, no event is run twice, nothing more is left to do, the media have as many sectors, and what was sound is
pub record LeadsOn (b a : RunState) : Type 0 where
  pub events : a.events ≡ b.events
  pub sectors : length a.scene.disks.media.sectors ≡ length b.scene.disks.media.sectors
  pub next : b.next ≤ a.next
  pub work : work_left a ≤ work_left b
  pub sound : IsSound b → IsSound a

-- so it is after whatever a server does at the link
abbrev pub ServersLeadOn : Type 0
ServersLeadOn = (b a : RunState) → GoesOn b a → LeadsOn b a

-- and after what is done between two calls; where something is done, less is left
pub record AsideLeads (b : RunState) (result : Result (Option Incoming) AllocError) (a : RunState) : Type 0 where
  pub leads : LeadsOn b a
  pub less : OnOk result (work_left a < work_left b)

abbrev pub AsidesLeadOn : Type 0
AsidesLeadOn = (b a : RunState) (result : Result (Option Incoming) AllocError) → Asides b result a → AsideLeads b result a

-- and after a call is handed out
pub record CallLeads (b : RunState) (result : Option Arrived) (a : RunState) : Type 0 where
  pub leads : LeadsOn b a
  pub less : OnSome result (work_left a < work_left b)

abbrev pub CallsLeadOn : Type 0
CallsLeadOn = (b a : RunState) (result : Option Arrived) → HandsOut b result a → CallLeads b result a

-- and after its answer is noted
abbrev pub AnswersLeadOn : Type 0
AnswersLeadOn = (b a : RunState) (arrived : Arrived) (reply : Reply) (result : Result (Unit {0}) AllocError) → Answers b arrived reply result a → LeadsOn b a

-- an End was given exactly where the link has ended
pub record IsToldOfEnd (p : RunState) : Type 0 where
  pub is : took_end p.scene.noted.history ≡ p.over

-- where the link has ended, each event was run and nothing is owed, or memory was wanted
pub record IsEndedRightly (p : RunState) : Type 0 where
  pub why : p.over ≡ true → (p.starved ≡ true) ⊎ IsSpent p

-- so it stays, whatever a server does at the link
abbrev pub ServersEndRightly : Type 0
ServersEndRightly = (b a : RunState) → GoesOn b a → IsEndedRightly b → IsEndedRightly a

-- that the device was given up was told only where the record says so
pub record IsToldTruly (p : RunState) : Type 0 where
  pub told : p.told ≡ true → gave_up (marks_in p.scene.noted) ≡ true

-- so it stays, whatever a server does at the link, and through what is done between two calls
abbrev pub ServersTellTruly : Type 0
ServersTellTruly = (b a : RunState) → GoesOn b a → IsToldTruly b → IsToldTruly a

abbrev pub AsidesTellTruly : Type 0
AsidesTellTruly = (b a : RunState) (result : Result (Option Incoming) AllocError) → Asides b result a → IsToldTruly b → IsToldTruly a
