-- What a server's frames hold through a run, and what becomes of them in each turn.
use Rattle.std.specs.Prelude.{◌≡◌, List, [], ◌∷◌, ◌++◌, true, false, not, IsTrue}
use Rattle.layout.specs.declared.Geometry.{Geometry}
use Rattle.message.specs.declared.BlockRequest.{BlockRequest}
use Rattle.message.specs.declared.Incoming.{Incoming}
use Rattle.message.specs.declared.Incoming.TheVariants.{Flush}
use Rattle.tree.specs.Tree.{Tree}
use Rattle.tree.specs.Answers.{Answer}
use Rattle.records.specs.Marks.{Mark, Took, gave_up}
use Rattle.records.specs.Disk.{Contents, HasTrueReplies}
use Rattle.records.specs.Told.{took_nothing}
use Rattle.records.specs.Acts.{Act, Absorbed, Outbox, has_absorbed, marks_after, told_of}
use Rattle.records.specs.Area.{Area}
use Rattle.records.specs.Legal.{tree_after}
use Rattle.records.specs.Settled.{only_looks}
use Rattle.records.specs.View.{Frames, ReadsBack}
use Rattle.records.specs.Flushes.{FlushesOn, FrameState, OvertakesNone, pending_requests}
use Rattle.records.specs.ServerCall.{KnowsFrames}
use Rattle.schedule.specs.declared.arrived.Arrived.{Arrived}
use Rattle.simulated_link.specs.Moments.{Moment, Runs, record_of}

-- What a server has in its frames beside a record: over true replies, while the device isn't given up, the tree now would be read back; and they
-- stand so beside the disk and the pending requests.
pub record FramesHold (g : Geometry) (image : Contents) (tree : Tree) (marks : List Mark) (o : Outbox) (f : FrameState) : Type 0 where
  pub reads_back : HasTrueReplies image marks → gave_up marks ≡ false → ReadsBack g f.frames image tree marks
  pub known : KnowsFrames g f o image marks

-- so it is at a moment
abbrev pub HoldAt : Geometry → Contents → Tree → Moment → FrameState → Type 0
HoldAt g image tree m f = FramesHold g image tree (record_of m.run) m.outbox f

-- the pending requests of a moment
abbrev pub pending_at : Moment → List BlockRequest
pending_at m = pending_requests (record_of m.run) m.outbox

-- One turn, from a moment with these frames to one with those. An event came that no message goes with, or a call was handed out: the frames
-- stay. A message was handed over: it overtakes no block, and a Flush is carried out. A call was answered: over true replies one that only
-- looks overtakes none. The last call was cut.
pub data Turn (area : Area) (g : Geometry) (image : Contents) (tree : Tree) (m n : Moment) (f h : FrameState) : Type 0 where
  Stays : Runs area m n → record_of n.run ≡ record_of m.run → h ≡ f → HoldAt g image tree n h → Turn area g image tree m n f h
  Hears : (message : Incoming) (later : List Act) → Runs area m n
      → record_of n.run ≡ marks_after (later ++ Absorbed message ∷ []) (record_of m.run) → has_absorbed later ≡ false
      → took_nothing (told_of later) ≡ true → OvertakesNone f h
      → (message ≡ Flush → FlushesOn g.block_size (not (gave_up (record_of n.run))) f h (pending_at m) (pending_at n))
      → HoldAt g image tree n h → Turn area g image tree m n f h
  Answers : (call : Arrived) (answer : Answer) (acts : List Act) → Runs area m n
      → record_of n.run ≡ Took call.who call.now call.call answer ∷ marks_after acts (record_of m.run) → has_absorbed acts ≡ false
      → (HasTrueReplies image (record_of n.run) → IsTrue (only_looks (tree_after g tree (record_of m.run)) call.who call.call)
      → OvertakesNone f h)
      → HoldAt g image tree n h → Turn area g image tree m n f h
  Cuts : (acts : List Act) → Runs area m n → record_of n.run ≡ marks_after acts (record_of m.run) → has_absorbed acts ≡ false
      → Turn area g image tree m n f h

-- turn by turn
pub data Turns (area : Area) (g : Geometry) (image : Contents) (tree : Tree) (m : Moment) (f : FrameState) : Moment → FrameState → Type 0 where
  Starts : Turns area g image tree m f m f
  Then : (n o : Moment) (h k : FrameState) → Turns area g image tree m f n h → Turn area g image tree n o h k → Turns area g image tree m f o k

-- A run led so from one moment to the other, at which the server has these frames.
pub record IsServed (area : Area) (g : Geometry) (image : Contents) (tree : Tree) (frames : Frames) (from to : Moment) : Type 0 where
  pub first : FrameState
  pub last : FrameState
  pub frames_are : last.frames ≡ frames
  pub turns : Turns area g image tree from first to last
