-- What a call of a server and a message between two calls keep, over any link.
use Rattle.std.specs.Prelude.{◌≡◌, ◌≢◌, ◌↔◌, ◌⊎◌, ℕ, List, [], ◌∷◌, ◌++◌, Bool, true, false, not, ◌&&◌, ◌||◌, is_some, IsSome, IsTrue}
use Rattle.std.specs.List.{list_any}
use Rattle.errno.specs.declared.Errno.TheVariants.{EIO}
use Rattle.layout.specs.declared.Geometry.{Geometry}
use Rattle.message.specs.declared.Incoming.{Incoming}
use Rattle.message.specs.declared.Incoming.TheVariants.{Flush, End}
use Rattle.tree.specs.declared.Who.{Who}
use Rattle.tree.specs.declared.Call.{Call}
use Rattle.tree.specs.declared.Call.TheVariants.{Dup}
use Rattle.lemmas.specs.Sums.{some_below}
use Rattle.tree.specs.Tree.{Tree, most_open_files}
use Rattle.tree.specs.Answers.{Answer, refused}
use Rattle.volume.specs.Reading.{blocks_of}
use Rattle.records.specs.Marks.{Mark, Took, gave_up}
use Rattle.records.specs.Open.{IsWellFormed}
use Rattle.records.specs.Disk.{Contents, HasTrueReplies, disk_after}
use Rattle.records.specs.Told.{Told, took_end, took_nothing}
use Rattle.records.specs.Acts.{Act, Absorbed, Outbox, told_of, has_absorbed, marks_after, outbox_after, IsAtRest, KeepsRules}
use Rattle.records.specs.Legal.{IsLegal, tree_after}
use Rattle.records.specs.View.{Frames, ReadsBack, IsCovered, server_view}
use Rattle.records.specs.Area.{area_of, WritesInside}
use Rattle.records.specs.Settled.{only_looks, is_settled, none_written, LookingWritesNothing}
use Rattle.records.specs.Flushes.{FlushesOn, FrameState, OvertakesNone, WritesFrames, pending_requests, may_write}

-- What is said of a server.
pub record Serving : Type 1 where
  pub geometry : Geometry
  -- the range of the media that its requests name
  pub minor : ℕ
  -- what its fields say of an image, of the tree at first and of a record
  pub Agrees : Contents → Tree → List Mark → Type 0
  pub frames : Frames
  -- how many blocks may have a frame at a time
  pub frame_count : ℕ
  -- what it owes its link
  pub outbox : Outbox
  -- some file is open
  pub is_busy : Bool
  -- what its link was told and gave
  pub told : List Told
  -- a take gave End
  pub ended : Bool
  -- no frame is changed, and no write is pending
  pub settled : Type 0
  -- the blocks whose frames were changed, and whose writes aren't under way
  pub unwritten : ℕ → Bool
  -- those whose frames were changed since the write that is under way was begun
  pub overtaken : ℕ → Bool
  -- a Flush was taken that wasn't carried out yet
  pub wanted : Bool

-- whether some file is open
abbrev pub has_open_file : Tree → Bool
has_open_file tree = some_below (λ k. is_some (tree.open_files k)) most_open_files

-- over true replies, while the link hasn't ended and the device isn't given up: the tree now is what would be read back, with its open files
pub record HasTree (s : Serving) (image : Contents) (tree : Tree) (marks : List Mark) : Type 0 where
  pub reads_back : ReadsBack s.geometry s.frames image tree marks
  pub open_files : s.is_busy ≡ has_open_file (tree_after s.geometry tree marks)

-- nothing is left to write, and no write was issued since the last call
pub record IsQuiet (s : Serving) (marks : List Mark) : Type 0 where
  pub settled : s.settled
  pub none_written : none_written marks ≡ true

-- a server's frames
abbrev pub state_of : Serving → FrameState
state_of s = record { frames = s.frames; unwritten = s.unwritten; overtaken = s.overtaken }

-- How frames stand beside the disk. Which blocks are unwritten: they have frames. Over true replies, what would be read back of each other block
-- is the disk's, unless a write is pending that may have it. Each pending write has the bytes of its blocks' frames, but for those that were
-- changed since it was begun: of each block that is overtaken a write is pending that may have it.
pub record KnowsFrames (g : Geometry) (f : FrameState) (o : Outbox) (image : Contents) (marks : List Mark) : Type 0 where
  pub framed : (block : ℕ) → f.unwritten block ≡ true → IsSome (f.frames block)
  pub others : HasTrueReplies image marks → (block : ℕ) → f.unwritten block ≡ false
      → list_any (may_write g.block_size block) (pending_requests marks o) ≡ false
      → server_view g f.frames image marks block ≡ blocks_of g (disk_after image marks) block
  pub pending : WritesFrames g.block_size f (pending_requests marks o)
  pub under_way : (block : ℕ) → f.overtaken block ≡ true → list_any (may_write g.block_size block) (pending_requests marks o) ≡ true

-- A server serves a volume: it agrees with the record, which is well formed whatever the link answered, each write in it lies in the
-- volume behind its first two blocks, and nothing is owed.
-- Over true replies the record is legal, calls that look wrote nothing where that is promised, and the tree now is there; while calls only
-- looked since the last sync that was answered ok, nothing is left to write.
pub record Serves (s : Serving) (image : Contents) (tree : Tree) (marks : List Mark) : Type 0 where
  pub agrees : s.Agrees image tree marks
  pub well_formed : IsWellFormed marks
  pub inside : WritesInside s.geometry marks
  pub at_rest : IsAtRest marks s.outbox
  pub known : KnowsFrames s.geometry (state_of s) s.outbox image marks
  pub legal : HasTrueReplies image marks → IsLegal s.geometry image tree marks
  pub has_tree : HasTrueReplies image marks → s.ended ≡ false → gave_up marks ≡ false → HasTree s image tree marks
  pub looking : HasTrueReplies image marks → LookingWritesNothing s.geometry tree marks
  pub settled : HasTrueReplies image marks → s.ended ≡ false → is_settled s.geometry tree marks ≡ true → IsQuiet s marks

-- these acts lead from one state of a server to the next, and are all that its link was told
pub record Leads (old : Serving) (acts : List Act) (new : Serving) : Type 0 where
  pub geometry : new.geometry ≡ old.geometry
  pub minor : new.minor ≡ old.minor
  pub frame_count : new.frame_count ≡ old.frame_count
  pub told : new.told ≡ told_of acts ++ old.told
  pub ended : new.ended ≡ (took_end (told_of acts) || old.ended)

-- from a record that the server agrees with, the acts keep the rules on posts, complaints and takes, each write lies in the volume behind
-- its first two blocks, and they give what is owed afterwards
pub record Rules (old : Serving) (acts : List Act) (new : Serving) (marks : List Mark) : Type 0 where
  pub keep : KeepsRules (area_of old.geometry old.minor) acts marks old.outbox
  pub outbox : new.outbox ≡ outbox_after acts marks old.outbox

-- What a call gives back: an answer, or that the link ended.
pub data Outcome : Type 0 where
  Replied : (answer : Answer) → Outcome
  Cut : Outcome

-- a call that is answered adds one mark, last, with that answer; a cut adds none
abbrev pub with_outcome : Who → ℕ → Call → Outcome → List Mark → List Mark
with_outcome who now call (Replied answer) marks = Took who now call answer ∷ marks
with_outcome who now call Cut marks = marks

-- what would be read back stays, each unsure place lies in a block with a frame, and no block is overtaken that wasn't
pub record LeavesView (old new : Serving) (image : Contents) (before after : List Mark) : Type 0 where
  pub same : server_view new.geometry new.frames image after ≡ server_view old.geometry old.frames image before
  pub covered : IsCovered new.geometry new.frames after
  pub none_overtaken : OvertakesNone (state_of old) (state_of new)

-- One call. Nothing is handed over in it. It is cut exactly where a take gave End, in it or earlier. Else it answers EIO exactly where
-- the device is given up, in it or earlier. Where either was so earlier, it does nothing, and so does a dup where no Flush is wanted.
-- None is wanted once the call is answered otherwise. A call that only looks leaves what would be read back, and overtakes no block, also
-- where it is cut.
pub record CallKeeps (old : Serving) (who : Who) (now : ℕ) (call : Call) (outcome : Outcome) (new : Serving) : Type 0 where
  pub acts : List Act
  pub leads : Leads old acts new
  pub none_absorbed : has_absorbed acts ≡ false
  pub cut : (outcome ≡ Cut) ↔ (new.ended ≡ true)
  pub rules : (image : Contents) (tree : Tree) (marks : List Mark) → old.Agrees image tree marks → Rules old acts new marks
  pub only_given_up : (image : Contents) (tree : Tree) (marks : List Mark) → old.Agrees image tree marks
      → outcome ≡ Replied (refused EIO) → gave_up (marks_after acts marks) ≡ true
  pub once_given_up : (image : Contents) (tree : Tree) (marks : List Mark) → old.Agrees image tree marks
      → gave_up (marks_after acts marks) ≡ true → (outcome ≡ Cut) ⊎ (outcome ≡ Replied (refused EIO))
  pub after_giving_up : (image : Contents) (tree : Tree) (marks : List Mark) → old.Agrees image tree marks
      → gave_up marks ≡ true → acts ≡ []
  pub after_end : old.ended ≡ true → acts ≡ []
  pub still : (fd : ℕ) → call ≡ Dup fd → old.wanted ≡ false → acts ≡ []
  pub flushed : (answer : Answer) → outcome ≡ Replied answer → answer ≢ refused EIO → new.wanted ≡ false
  pub looked : (image : Contents) (tree : Tree) (marks : List Mark) → Serves old image tree marks → HasTrueReplies image (marks_after acts marks)
      → IsTrue (only_looks (tree_after old.geometry tree marks) who call) → LeavesView old new image marks (marks_after acts marks)
  pub serves : (image : Contents) (tree : Tree) (marks : List Mark) → Serves old image tree marks
      → Serves new image tree (with_outcome who now call outcome (marks_after acts marks))

-- One message between two calls: its mark, if it leaves one, stands before what the link is told then; no message is taken, no file is
-- opened or closed, no block is overtaken, and an End has no effect. A Flush is carried out, and no Flush is wanted after another message
-- than End.
pub record AbsorbKeeps (old : Serving) (message : Incoming) (new : Serving) : Type 0 where
  pub later : List Act
  pub leads : Leads old (later ++ Absorbed message ∷ []) new
  pub none_absorbed : has_absorbed later ≡ false
  pub none_taken : took_nothing (told_of later) ≡ true
  pub same_files : new.is_busy ≡ old.is_busy
  pub none_overtaken : OvertakesNone (state_of old) (state_of new)
  pub no_effect : message ≡ End → later ≡ []
  pub flushed : message ≢ End → new.wanted ≡ false
  pub flushes : (image : Contents) (tree : Tree) (marks : List Mark) → old.Agrees image tree marks → message ≡ Flush
      → FlushesOn old.geometry.block_size (not new.ended && not (gave_up (marks_after (later ++ Absorbed message ∷ []) marks))) (state_of old)
      (state_of new) (pending_requests marks old.outbox) (pending_requests (marks_after (later ++ Absorbed message ∷ []) marks) new.outbox)
  pub rules : (image : Contents) (tree : Tree) (marks : List Mark) → old.Agrees image tree marks
      → Rules old (later ++ Absorbed message ∷ []) new marks
  pub serves : (image : Contents) (tree : Tree) (marks : List Mark) → Serves old image tree marks
      → Serves new image tree (marks_after (later ++ Absorbed message ∷ []) marks)
