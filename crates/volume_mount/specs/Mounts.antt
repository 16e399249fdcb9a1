-- Reading a volume through a link and checking it.
use Rattle.std.specs.Prelude.{◌≡◌, ◌<◌, ◌≤◌, ◌+◌, ◌*◌, ◌^◌, ℕ, List, [], length, slice_index, Bool, true, false, Result, Ok, Err}
use Rattle.tree.specs.Tree.{Tree}
use Rattle.volume.specs.Verdict.{verdict_of, HoldsClosed}
use Rattle.volume.specs.Verdict as volume
use Rattle.records.specs.Marks.{Mark}
use Rattle.records.specs.Disk.{Contents, HasTrueReplies}
use Rattle.records.specs.Told.{Told, took_end}
use Rattle.records.specs.Acts.{told_of, marks_after}
use Rattle.records.specs.Legal.{IsAtFirst}
use Rattle.records.specs.Mount.{AreRead, IsWhyNotMounted, geometry_read, is_frame_count, volume_read, volume_size}
use Rattle.records.specs.Mount as words
use Rattle.layout.specs.Places.{IsGeometry, geometry_of}
use Rattle.reissue.specs.declared.table.Table.{Table}
use Rattle.reissue.specs.Agrees.{Agrees}
use Rattle.reissue.specs.Posts.{HasRoom}
use Rattle.reissue.specs.Transfers.{table_of, link_of}
use Rattle.reissue.specs.declared.link.Link.{Ghosts as LinkWords}
use Rattle.reissue.specs.declared.transfers.Transfers.{Transfers}
use Rattle.reissue.specs.Calls.{Truth}
use Rattle.fsck.specs.declared.verdict.Clean.{Clean}
use Rattle.volume_mount.specs.declared.whole.MountRefusal.{MountRefusal}
use Rattle.volume_mount.specs.declared.whole.MountRefusal.TheVariants as refusal
use Rattle.volume_reading.specs.declared.reading.Stop.{Stop}
use Rattle.volume_reading.specs.Reading.{Went, ReadsRange}

-- the refusal in the words of the definitions
abbrev pub in_words : MountRefusal → words.MountRefusal
in_words (refusal.Layout e) = words.Layout e
in_words (refusal.Inconsistent finding) = words.Inconsistent finding
in_words refusal.OutOfMemory = words.OutOfMemory
in_words refusal.Eio = words.Eio
in_words refusal.LinkEnded = words.LinkEnded
in_words refusal.BadFrames = words.BadFrames

-- The whole volume was read, and is clean: it holds a tree, which over true replies the image holds. Nothing is pending.
pub record IsCleanVolume (clean : Clean) (marks : List Mark) (t : Table) : Type 0 where
  pub idle : t.pending ≡ []
  pub going : t.given_up ≡ false
  pub geometry : clean.geometry ≡ geometry_read marks
  pub sizes : IsGeometry clean.geometry
  pub whole : AreRead marks (volume_size marks)
  pub verdict : verdict_of (volume_read marks) ≡ volume.Clean
  pub tree : Tree
  pub held : HoldsClosed (volume_read marks) tree
  pub at_first : (image : Contents) → HasTrueReplies image marks → IsAtFirst clean.geometry image tree

-- what the check says of bytes that were read
abbrev pub IsChecked : List ℕ → Result Clean MountRefusal → Type 0
IsChecked bytes (Ok clean) = (geometry_of bytes ≡ Ok clean.geometry) × (verdict_of bytes ≡ volume.Clean) × ((t : Tree) × HoldsClosed bytes t)
IsChecked bytes (Err (refusal.Inconsistent finding)) = verdict_of bytes ≡ volume.Found finding
IsChecked bytes (Err refusal.OutOfMemory) = Unit {0}
IsChecked bytes (Err _) = ⊥

-- the head, with the rest behind it
pub record HasParts (head rest : List ℕ) (many : ℕ) (bytes : List ℕ) : Type 0 where
  pub full : length bytes ≡ 2048 + many
  pub low : (k : ℕ) → k < 2048 → slice_index bytes k ≡ slice_index head k
  pub high : (k : ℕ) → k < many → slice_index bytes (2048 + k) ≡ slice_index rest k

-- So many bytes from 2048 on were read into their places, behind the head, or they weren't.
pub record ReadsRest (result : Result (Unit {0}) Stop) (minor many : ℕ) (head bytes : List ℕ) (old new : Table) (before after : List Told) (was is : Truth) : Type 0 where
  pub rest : List ℕ
  pub parts : HasParts head rest many bytes
  pub reads : ReadsRange result minor 2048 many rest old new before after was is

-- how it ended, the marks being those from the empty record on, and ended that a take gave End; for any number of frames that is allowed
abbrev pub IsVolumeEnd : Result Clean MountRefusal → List Mark → Table → Bool → Type 0
IsVolumeEnd (Ok clean) marks t ended = (ended ≡ false) × IsCleanVolume clean marks t
IsVolumeEnd (Err e) marks t ended = (frames : ℕ) → is_frame_count frames ≡ true → IsWhyNotMounted frames marks ended (in_words e)

-- A volume is read and checked, from a table that agrees with the empty record on, over a link that hasn't ended.
pub record ReadsVolume (result : Result Clean MountRefusal) (minor : ℕ) (old new : Table) (before after : List Told) (was is : Truth) : Type 0 where
  pub went : Went minor old new before after was is
  pub end : Agrees old [] → IsVolumeEnd result (marks_after went.acts []) new (took_end (told_of went.acts))

-- Nothing is pending, the device wasn't given up, and the link hasn't ended and has room. With so many ids given and messages left before,
-- so many are left: at most 2^28 ids more were given.
pub record StandsIdle {L : Type 0} (words : LinkWords L) (ids budget : ℕ) (t : Transfers L) : Type 0 where
  pub idle : (table_of t).pending ≡ []
  pub live : (table_of t).given_up ≡ false
  pub unended : took_end (words.history (link_of t)) ≡ false
  pub room : HasRoom (table_of t) (words.room (link_of t))
  pub left : (table_of t).ids + 2 * words.budget_left (link_of t) ≤ ids + 2 * budget + 2 ^ 28
