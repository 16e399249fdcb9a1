-- How a run of a server over a schedule ends.
use Rattle.std.specs.Prelude.{◌≡◌, ◌≢◌, ℕ, List, [], ◌++◌, length, map, reverse, true, false, None}
use Rattle.layout.specs.declared.Geometry.{Geometry}
use Rattle.tree.specs.Tree.{Tree}
use Rattle.records.specs.Marks.{Mark}
use Rattle.records.specs.Opening.{Opening, contents_at}
use Rattle.records.specs.View.{Frames}
use Rattle.records.specs.ServerCall.{Serving}
use Rattle.records.specs.Area.{area_of}
use Rattle.reissue.specs.Calls.{Truth}
use Rattle.schedule.specs.Groups.{schedule_of}
use Rattle.schedule.specs.Calls.{Arrival, arrived, taken}
use Rattle.schedule.specs.Headline.{Transcript, RepliesHold}
use Rattle.schedule.specs.Noted.{marks_in}
use Rattle.simulated_link.specs.Scene.{Scene}
use Rattle.simulated_link.specs.StateView.{RunState, IsSpent}
use Rattle.simulated_link.specs.Laws.{MediaHeld}
use Rattle.simulated_link.specs.Waiting.{arrival_of}
use Rattle.simulated_link.specs.Moments.{Doing, Resting, Hearing, Answering, Moment, Runs, Needs}
use Rattle.file_server.specs.Over.{Stands}
use Rattle.world.specs.Runs.{moment, out_in}
use Rattle.world.specs.Served.{IsServed}

-- Of a volume that held this tree, without an open file: the replies are true, and each is that of the tree after each earlier call taken once;
-- what the server would read back is the tree now, where no call is left and the device isn't given up; and the media hold what the record
-- says of the disk.
pub record RunHolds (g : Geometry) (frames : Frames) (v : Opening) (tree : Tree) (s : Scene) (unanswered : ℕ) : Type 0 where
  pub replies : (t : Transcript) → t.marks ≡ marks_in s.noted → t.frames ≡ frames → t.unanswered ≡ unanswered → RepliesHold g (contents_at v) tree t
  pub media : MediaHeld v s (marks_in s.noted)

-- how a run ends: the server does nothing, and no call waits; or its link has ended, within a call
abbrev pub EndsIn : Doing → Serving → RunState → Type 0
EndsIn Resting t a = (t.ended ≡ false) × (a.over ≡ false) × (a.queue ≡ [])
EndsIn (Hearing message) t a = ⊥
EndsIn (Answering call) t a = (t.ended ≡ true) × (a.over ≡ true)

-- a run over a volume holds, each of its steps was by the rules, turn by turn, and at its end no complaint is owed; where the link has ended, the server needs
-- a message, and the device isn't given up
pub record RunStands (g : Geometry) (frames : Frames) (minor : ℕ) (v : Opening) (tree : Tree) (from to : Moment) (unanswered : ℕ) : Type 0 where
  pub holds : RunHolds g frames v tree to.run.scene unanswered
  pub runs : Runs (area_of g minor) from to
  pub served : IsServed (area_of g minor) g (contents_at v) tree frames from to
  pub calm : to.outbox.complaint ≡ None
  pub needs : to.run.over ≡ true → Needs to

-- The events that were noted are the schedule, and nothing is owed. The calls that arrived in them are those that were answered, in their order,
-- and so many that came later: the one that is being answered, if the run ends in it, and those that wait. A call is left only where the last
-- one was cut. The media have as many sectors as before, and the server has as many frames. Where it stood with a record at first, the run
-- holds, by the rules.
pub record RunsOut (s t : Serving) (was : Truth) (b a : RunState) (unanswered : ℕ) : Type 0 where
  pub schedule : schedule_of a.scene.noted.groups ≡ b.events
  pub spent : IsSpent a
  pub last : Doing
  pub ends : EndsIn last t a
  pub left : List Arrival
  pub left_is : left ≡ reverse (map arrival_of a.queue) ++ out_in last
  pub order : arrived a.scene.noted.groups ≡ left ++ taken (marks_in a.scene.noted)
  pub number : unanswered ≡ length left
  pub cut : left ≢ [] → t.ended ≡ true
  pub sectors : length a.scene.disks.media.sectors ≡ length b.scene.disks.media.sectors
  pub frame_count : t.frame_count ≡ s.frame_count
  pub holds : (v : Opening) (tree : Tree) (marks : List Mark) → Stands s was v tree marks
      → RunStands s.geometry t.frames s.minor v tree (moment s b Resting) (moment t a last) unanswered
