-- What a run of the server over a schedule promises.
use Rattle.std.specs.Prelude.{◌≡◌, ℕ, ◌+◌, ◌*◌, ◌<◌, ◌≤◌, ◌⊎◌, List, length, true, false, Ok, slice_index}
use Rattle.layout.specs.declared.Geometry.{Geometry}
use Rattle.layout.specs.Places.{geometry_of}
use Rattle.tree.specs.Tree.{Tree}
use Rattle.bdev.specs.DriverState.{DriverState}
use Rattle.reincarnate.specs.declared.policy.Policy.{Policy}
use Rattle.records.specs.Marks.{Mark, gave_up}
use Rattle.records.specs.Open.{IsWellFormed}
use Rattle.records.specs.Disk.{Contents, disk_after, is_unsure, HasTrueReplies}
use Rattle.records.specs.Opening.{Range, volume_bytes, volume_in}
use Rattle.records.specs.Area.{WritesInside}
use Rattle.records.specs.Legal.{IsAtFirst, IsLegal}
use Rattle.records.specs.View.{Frames, ReadsBack}
use Rattle.records.specs.Settled.{LookingWritesNothing, is_settled, none_written}
use Rattle.schedule.specs.declared.Sent.{Sent}
use Rattle.schedule.specs.declared.Event.{Event}
use Rattle.schedule.specs.Groups.{Group, marks_of, schedule_of}
use Rattle.schedule.specs.Justified.{Justified}

-- what a run shows: its record, the replies sent, the drivers started, the server's frames, the calls left, and the media's bytes
pub record Transcript : Type 0 where
  pub marks : List Mark
  pub sent : List Sent
  pub drivers : List DriverState
  pub frames : Frames
  pub unanswered : ℕ
  pub image : List ℕ

-- Replies and read-back: the server's record is well formed, each write lies in the volume behind its first two blocks, what drivers
-- answered is true, each reply is that of the file tree after each earlier call taken once, a sync that answered ok left that tree on the
-- disk alone, and while calls only look since the last such sync no write is issued; at the end, where the device isn't given up and no
-- call waits, the server would read the tree back.
pub record RepliesHold (g : Geometry) (volume : Contents) (tree : Tree) (t : Transcript) : Type 0 where
  pub well_formed : IsWellFormed t.marks
  pub inside : WritesInside g t.marks
  pub true_replies : HasTrueReplies volume t.marks
  pub legal : IsLegal g volume tree t.marks
  pub looking : LookingWritesNothing g tree t.marks
  pub quiet : t.unanswered ≡ 0 → is_settled g tree t.marks ≡ true → none_written t.marks ≡ true
  pub reads_back : gave_up t.marks ≡ false → t.unanswered ≡ 0 → ReadsBack g t.frames volume tree t.marks

-- a sector of the media that isn't one of the volume's
abbrev pub IsOutside : Range → ℕ → Type 0
IsOutside range sector = (sector < range.first) ⊎ (range.first + range.count ≤ sector)

-- The media: at the end they hold, of the volume, what the record says was written, in each sector that isn't unsure; the boot block, the
-- superblock with all its bytes, and what lies behind the last zone are those handed in, and so is all outside of the volume.
pub record MediaHold (g : Geometry) (range : Range) (image : List ℕ) (t : Transcript) : Type 0 where
  pub size : length t.image ≡ length image
  pub inside : (sector k : ℕ) → sector < range.count → k < 512 → is_unsure t.marks sector ≡ false
      → slice_index t.image (512 * (range.first + sector) + k) ≡ disk_after (volume_in range image) t.marks (512 * sector + k)
  pub head : (place : ℕ) → place < 2 * g.block_size
      → slice_index t.image (512 * range.first + place) ≡ slice_index image (512 * range.first + place)
  pub tail : (place : ℕ) → g.zones * g.block_size ≤ place → place < 512 * range.count
      → slice_index t.image (512 * range.first + place) ≡ slice_index image (512 * range.first + place)
  pub outside : (sector k : ℕ) → IsOutside range sector → k < 512
      → slice_index t.image (512 * sector + k) ≡ slice_index image (512 * sector + k)

-- Justified: the record can be cut into groups, one for each event of the schedule, that justify the run.
pub record IsJustified (policy : Policy) (supply : List DriverState) (events : List Event) (t : Transcript) : Type 0 where
  pub groups : List Group
  pub schedule : schedule_of groups ≡ events
  pub record_is : marks_of groups ≡ t.marks
  pub justified : Justified policy supply groups t.sent t.drivers t.unanswered

-- The headline: the volume in this range held a file tree at first, without an open file, of which the three parts hold. The supply is the
-- drivers as they were handed in.
pub record Headline (policy : Policy) (supply : List DriverState) (range : Range) (image : List ℕ) (events : List Event) (t : Transcript) : Type 0 where
  pub geometry : Geometry
  pub parsed : geometry_of (volume_bytes range image) ≡ Ok geometry
  pub tree : Tree
  pub at_first : IsAtFirst geometry (volume_in range image) tree
  pub replies : RepliesHold geometry (volume_in range image) tree t
  pub media : MediaHold geometry range image t
  pub justified : IsJustified policy supply events t
