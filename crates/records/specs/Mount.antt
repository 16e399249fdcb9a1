-- What opening and mounting promise, over any link.
use Rattle.std.specs.Prelude.{◌≡◌, ◌≢◌, ℕ, zero, suc, ◌*◌, ◌<◌, List, [], ◌∷◌, ◌++◌, Bool, true, false, ◌&&◌, nat_le, None, Err}
use Rattle.message.specs.Good.{is_write}
use Rattle.layout.specs.declared.Geometry.{Geometry}
use Rattle.layout.specs.declared.LayoutRefusal.{LayoutRefusal}
use Rattle.layout.specs.declared.LayoutRefusal.TheVariants.{DoesNotFit}
use Rattle.layout.specs.Places.{superblock_geometry, geometry_of}
use Rattle.tree.specs.Tree.{Tree}
use Rattle.volume.specs.declared.Finding.{Finding}
use Rattle.volume.specs.Verdict.{Clean, Found, verdict_of, HoldsClosed}
use Rattle.records.specs.Marks.{Mark, gave_up}
use Rattle.records.specs.Disk.{Contents, HasTrueReplies, bytes_read, is_read}
use Rattle.records.specs.Told.{Told, took_end}
use Rattle.records.specs.Acts.{Act, Began, Absorbed, AtLink, told_of, has_absorbed, marks_after, empty_outbox, outbox_after, IsAtRest, KeepsRules}
use Rattle.records.specs.Area.{no_area}
use Rattle.records.specs.Legal.{IsAtFirst}
use Rattle.records.specs.ServerCall.{Serving, Serves}

-- how many frames a cache may have: 16 to 4096
abbrev pub is_frame_count : ℕ → Bool
is_frame_count frames = nat_le 16 frames && nat_le frames 4096

-- the bytes of the first places
unfoldable pub first_bytes : Contents → ℕ → List ℕ
first_bytes contents zero = []
first_bytes contents (suc n) = first_bytes contents n ++ contents n ∷ []

-- the first 2048 bytes that were read: the boot block and the superblock
abbrev pub head_read : List Mark → List ℕ
head_read marks = first_bytes (bytes_read marks) 2048

-- the sizes that the superblock gives, as it was read
abbrev pub geometry_read : List Mark → Geometry
geometry_read marks = superblock_geometry (head_read marks)

-- how many bytes the volume has, by these
abbrev pub volume_size : List Mark → ℕ
volume_size marks = let g = geometry_read marks in g.zones * g.block_size

-- the volume as it was read
abbrev pub volume_read : List Mark → List ℕ
volume_read marks = first_bytes (bytes_read marks) (volume_size marks)

-- each of the first places was read
pub record AreRead (marks : List Mark) (n : ℕ) : Type 0 where
  pub each : (place : ℕ) → place < n → is_read marks place ≡ true

-- a server just made with so many frames, a number that is allowed: none of them is in use, no file is open, its link hasn't ended, and no
-- Flush is wanted
pub record IsJustMade (asked : ℕ) (new : Serving) : Type 0 where
  pub frame_count : is_frame_count asked ≡ true
  pub as_many : new.frame_count ≡ asked
  pub frames : (block : ℕ) → new.frames block ≡ None
  pub not_busy : new.is_busy ≡ false
  pub not_ended : new.ended ≡ false
  pub not_wanted : new.wanted ≡ false

-- A server that was opened: it told its link nothing and took nothing. Whatever tree the link's disk holds, it serves that.
pub record OpenKeeps (g : Geometry) (minor frames : ℕ) (before : List Told) (new : Serving) : Type 0 where
  pub geometry : new.geometry ≡ g
  pub minor_is : new.minor ≡ minor
  pub told : new.told ≡ before
  pub is_new : IsJustMade frames new
  pub outbox : new.outbox ≡ empty_outbox
  pub serves : (image : Contents) (tree : Tree) → IsAtFirst g image tree → Serves new image tree []

-- each request that becomes pending is a read
abbrev pub OnlyReads : List Act → Type 0
OnlyReads [] = Unit {0}
OnlyReads (Began r ∷ acts) = (is_write r.kind ≡ false) × OnlyReads acts
OnlyReads (Absorbed message ∷ acts) = OnlyReads acts
OnlyReads (AtLink told ∷ acts) = OnlyReads acts

-- what mounting does at its link, from the empty record on: it reads, it keeps the rules, and nothing is handed over in it
pub record Mounting (minor : ℕ) (before : List Told) (acts : List Act) (after : List Told) : Type 0 where
  pub told : after ≡ told_of acts ++ before
  pub none_absorbed : has_absorbed acts ≡ false
  pub only_reads : OnlyReads acts
  pub keep : KeepsRules (no_area minor) acts [] empty_outbox

-- A server that was mounted. The whole volume was read; what was read is clean, and holds the tree that is served, over any link; over
-- true replies the image holds it.
pub record MountKeeps (minor frames : ℕ) (before : List Told) (new : Serving) : Type 0 where
  pub acts : List Act
  pub mounting : Mounting minor before acts new.told
  pub minor_is : new.minor ≡ minor
  pub geometry : new.geometry ≡ geometry_read (marks_after acts [])
  pub is_new : IsJustMade frames new
  pub none_ended : took_end (told_of acts) ≡ false
  pub not_given_up : gave_up (marks_after acts []) ≡ false
  pub outbox : new.outbox ≡ outbox_after acts [] empty_outbox
  pub whole : AreRead (marks_after acts []) (volume_size (marks_after acts []))
  pub clean : verdict_of (volume_read (marks_after acts [])) ≡ Clean
  pub tree : Tree
  pub held : HoldsClosed (volume_read (marks_after acts [])) tree
  pub at_first : (image : Contents) → HasTrueReplies image (marks_after acts []) → IsAtFirst new.geometry image tree
  pub serves : (image : Contents) → Serves new image tree (marks_after acts [])

-- Why nothing is mounted, in the order of the refusals' numbers.
pub data MountRefusal : Type 0 where
  Layout : (refusal : LayoutRefusal) → MountRefusal
  Inconsistent : (finding : Finding) → MountRefusal
  OutOfMemory : MountRefusal
  Eio : MountRefusal
  LinkEnded : MountRefusal
  BadFrames : MountRefusal

-- When each refusal of an open comes, which takes a number of frames and memory alone: the number is looked at first.
abbrev pub IsWhyNotOpened : ℕ → MountRefusal → Type 0
IsWhyNotOpened frames BadFrames = is_frame_count frames ≡ false
IsWhyNotOpened frames OutOfMemory = is_frame_count frames ≡ true
IsWhyNotOpened frames _ = ⊥

-- a refused open, which did nothing at its link
pub record OpenRefused (frames : ℕ) (before : List Told) (refusal : MountRefusal) (after : List Told) : Type 0 where
  pub why : IsWhyNotOpened frames refusal
  pub nothing_told : after ≡ before

-- the first 2048 bytes were read, and the superblock in them is refused, the volume's length apart
abbrev pub IsHeadRefused : List Mark → LayoutRefusal → Type 0
IsHeadRefused marks refusal = AreRead marks 2048 × (geometry_of (head_read marks) ≡ Err refusal) × (refusal ≢ DoesNotFit)

-- they were read and aren't refused, the whole volume was read, and the check finds this in it
abbrev pub IsVolumeRefused : List Mark → Finding → Type 0
IsVolumeRefused marks finding =
    AreRead marks 2048 × ((refusal : LayoutRefusal) → geometry_of (head_read marks) ≡ Err refusal → refusal ≡ DoesNotFit)
    × AreRead marks (volume_size marks) × (verdict_of (volume_read marks) ≡ Found finding)

-- nothing that was read is refused
pub record NothingIsRefused (marks : List Mark) : Type 0 where
  pub head : (refusal : LayoutRefusal) → IsHeadRefused marks refusal → ⊥
  pub volume : (finding : Finding) → IsVolumeRefused marks finding → ⊥

-- When each refusal comes, the marks being those of mounting and ended that a take gave End. The number of frames is looked at first; of the
-- others, want of memory apart, the least is answered.
abbrev pub IsWhyNotMounted : ℕ → List Mark → Bool → MountRefusal → Type 0
IsWhyNotMounted frames marks ended (Layout refusal) = (is_frame_count frames ≡ true) × IsHeadRefused marks refusal
IsWhyNotMounted frames marks ended (Inconsistent finding) = (is_frame_count frames ≡ true) × IsVolumeRefused marks finding
IsWhyNotMounted frames marks ended OutOfMemory = is_frame_count frames ≡ true
IsWhyNotMounted frames marks ended Eio = (is_frame_count frames ≡ true) × (gave_up marks ≡ true) × NothingIsRefused marks
IsWhyNotMounted frames marks ended LinkEnded =
    (is_frame_count frames ≡ true) × (ended ≡ true) × (gave_up marks ≡ false) × NothingIsRefused marks
IsWhyNotMounted frames marks ended BadFrames = (is_frame_count frames ≡ false) × (marks ≡ [])

-- A refused mount: what it did at its link until then, and why it stopped. No complaint and no post is left due, and where the number of
-- frames is refused nothing was done.
pub record MountRefused (minor frames : ℕ) (before : List Told) (refusal : MountRefusal) (after : List Told) : Type 0 where
  pub acts : List Act
  pub mounting : Mounting minor before acts after
  pub at_rest : IsAtRest (marks_after acts []) (outbox_after acts [] empty_outbox)
  pub bad_frames : refusal ≡ BadFrames → (acts ≡ []) × (after ≡ before)
  pub why : IsWhyNotMounted frames (marks_after acts []) (took_end (told_of acts)) refusal
