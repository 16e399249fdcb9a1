-- What a service that is stopped leaves.
use Rattle.std.specs.Prelude.{◌≡◌, ◌*◌, ◌/◌, ◌<◌, ℕ, List, length, slice_index, Bool, true, false, Option, Result, Ok, Err, codes}
use Rattle.std.specs.Global.{Vec}
use Rattle.layout.specs.declared.Geometry.{Geometry}
use Rattle.records.specs.Marks.{Mark}
use Rattle.records.specs.Disk.{HasTrueReplies, disk_after}
use Rattle.records.specs.Opening.{Opening, contents_at, opening_range, volume_bytes}
use Rattle.reissue.specs.declared.link.Link.{Ghosts as LinkWords}
use Rattle.changes.specs.Units.{is_marked}
use Rattle.std.specs.List.{concat}
use Rattle.volume_reading.specs.Pieces.{HaveBytes, Piece}
use Rattle.driver_threads.specs.declared.watch.Likeness.{Likeness}
use Rattle.driver_threads.specs.declared.watch.Likeness.TheVariants as like
use Rattle.shared_server.specs.Stopping.{AreOnDisk, IsLastLine, SyncEnd, Went, WasGivenUp, WasCut, WasNotAsRead, WasNotRead}
use Rattle.shared_server.specs.declared.finishing.Finish.{Finish}
use Rattle.shared_server.specs.declared.finishing.Finish.TheVariants.{Read, Unread, GivenUp, Cut}
use Rattle.shared_server.specs.declared.locked.LastSync.{LastSync}
use Rattle.shared_server.specs.declared.locked.LastSync.TheVariants as sync
use Rattle.board.specs.View.{without}
use Rattle.board.specs.Keeper.{AreAllFree, IsOneUsed}
use Rattle.shared_media.specs.Confined.{IsImageOutside}
use Rattle.serve.specs.declared.stopping.StopRefusal.{StopRefusal}
use Rattle.serve.specs.declared.stopping.StopRefusal.TheVariants as stop
use Rattle.serve.specs.declared.stopping.NoImage.{NoImage}
use Rattle.serve.specs.declared.stopping.NoImage.TheVariants as none

-- the volume's range of an image
abbrev pub range_in : Opening → List ℕ → List ℕ
range_in v image = volume_bytes (opening_range v) image

-- the volume's range of an image has the bytes of pieces at their places
abbrev pub AreThere : Opening → List Piece → List ℕ → Type 0
AreThere v pieces image = HaveBytes (λ k b. slice_index (range_in v image) k ≡ b) pieces

-- so it has, and in each unit that isn't marked it is as it was handed in
pub record HasPieces (v : Opening) (units : List Bool) (pieces : List Piece) (image : List ℕ) : Type 0 where
  pub size : length (range_in v image) ≡ 512 * v.count
  pub there : AreThere v pieces image
  pub elsewhere : (k : ℕ) → k < 512 * v.count → is_marked units (k / 4096) ≡ false → slice_index (range_in v image) k ≡ contents_at v k

-- what is told of pieces that were read back: the volume's range of these sectors has their bytes, or it doesn't
abbrev pub Tells : Opening → Likeness → List Piece → List (List ℕ) → Type 0
Tells v like.Same pieces sectors = AreThere v pieces (concat sectors)
Tells v like.Differs pieces sectors = AreThere v pieces (concat sectors) → ⊥
Tells v like.Unsure pieces sectors = Unit {0}

-- an image that is as these pieces of it were read back, if they were
abbrev pub IsAsRead : Opening → Finish → List Piece → List ℕ → Type 0
IsAsRead v (Read units) pieces image = IsImageOutside v image × HasPieces v units pieces image
IsAsRead v Unread pieces image = ⊥
IsAsRead v GivenUp pieces image = ⊥
IsAsRead v Cut pieces image = ⊥

-- whether a last sync was answered ok
abbrev pub was_synced : Finish → Bool
was_synced (Read units) = true
was_synced Unread = true
was_synced GivenUp = false
was_synced Cut = false

-- these pieces were read back, and the volume's range of an image doesn't have their bytes at all of their places
abbrev pub IsOther : Opening → Finish → List Piece → List ℕ → Type 0
IsOther v (Read units) pieces image = AreThere v pieces image → ⊥
IsOther v Unread pieces image = ⊥
IsOther v GivenUp pieces image = ⊥
IsOther v Cut pieces image = ⊥

-- why no image of a synced volume is left of the media, after a last sync that came to this, and these pieces that were read back
abbrev pub IsLeftAfter : {T : Type 0} → Opening → Finish → List Piece → StopRefusal T → Type 0
IsLeftAfter v finish pieces (stop.SessionsLeft left) = ⊥
IsLeftAfter v finish pieces (stop.GivenUp image) = (finish ≡ GivenUp) × IsImageOutside v image.items
IsLeftAfter v finish pieces (stop.OutOfMemory left) = ⊥
IsLeftAfter v finish pieces (stop.LinkEnded image) = (finish ≡ Cut) × IsImageOutside v image.items
IsLeftAfter v finish pieces (stop.NotAsRead image) = IsOther v finish pieces image.items × IsImageOutside v image.items
IsLeftAfter v finish pieces (stop.NotRead image) = (was_synced finish ≡ true) × IsImageOutside v image.items

-- Pieces were read back, whose bytes the volume's range of an image has at their places, and elsewhere both are as they were handed in: so
-- over true replies the range is the disk, whole.
pub record IsDisk (v : Opening) (marks : List Mark) (image : List ℕ) : Type 0 where
  pub units : List Bool
  pub pieces : List Piece
  pub back : AreOnDisk v (512 * v.count) marks units pieces
  pub has : HasPieces v units pieces image
  pub is_disk : HasTrueReplies (contents_at v) marks → (k : ℕ) → k < 512 * v.count
      → slice_index (range_in v image) k ≡ disk_after (contents_at v) marks k

-- What the volume's range of an image is beside what was read back: where all went, it is as read, and over true replies the disk. Where it
-- isn't as read, some byte differs from the one that was.
abbrev pub IsRange : SyncEnd → Opening → List Mark → List ℕ → Type 0
IsRange Went v marks image = IsDisk v marks image
IsRange WasGivenUp v marks image = Unit {0}
IsRange WasCut v marks image = Unit {0}
IsRange WasNotAsRead v marks image =
    (units : List Bool) × (pieces : List Piece) × AreOnDisk v (512 * v.count) marks units pieces × (AreThere v pieces image → ⊥)
IsRange WasNotRead v marks image = Unit {0}

-- the image that a service leaves, and its link after a last sync that went so
pub record IsLastImage {L : Type 0} (link : LinkWords L) (g : Geometry) (v : Opening) (seen : List Mark) (how : SyncEnd)
    (image : List ℕ) : Type 0 where
  pub outside : IsImageOutside v image
  pub line : L
  pub last : IsLastLine link g v seen how line
  pub range : IsRange how v last.marks image

-- Why a service that is stopped gives no image of a synced volume. While a session is left, or a handle of the media, it comes back, as it
-- has to; else a last sync was tried, which the device's giving up or the link's end kept from being made, or the media aren't as they were
-- read, or weren't read.
abbrev pub WhyNotSynced : {L T : Type 0} → LinkWords L → Geometry → Opening → List Mark → (T → Type 0) → StopRefusal T → Type 0
WhyNotSynced link g v seen is_back (stop.SessionsLeft left) = is_back left
WhyNotSynced link g v seen is_back (stop.GivenUp image) = IsLastImage link g v seen WasGivenUp image.items
WhyNotSynced link g v seen is_back (stop.OutOfMemory left) = is_back left
WhyNotSynced link g v seen is_back (stop.LinkEnded image) = IsLastImage link g v seen WasCut image.items
WhyNotSynced link g v seen is_back (stop.NotAsRead image) = IsLastImage link g v seen WasNotAsRead image.items
WhyNotSynced link g v seen is_back (stop.NotRead image) = IsLastImage link g v seen WasNotRead image.items

-- the image that a service leaves, at whose link no session has a number after the last sync
pub record IsLastOfAll {L : Type 0} (link : LinkWords L) (numbers : L → List ℕ) (g : Geometry) (v : Opening) (seen : List Mark) (how : SyncEnd)
    (image : List ℕ) : Type 0 where
  pub image_is : IsLastImage link g v seen how image
  pub none_left : AreAllFree (numbers image_is.line)

-- Which sessions are left of a service that was to be stopped, but for this one, by its link as it was then. It is refused for a session
-- exactly where one has a number: else none has, and after a last sync none has at all.
abbrev pub WhoIsLeft : {L T : Type 0} → LinkWords L → (L → List ℕ) → Geometry → Opening → List Mark → Option ℕ
    → Result (Vec ℕ) (StopRefusal T) → Type 0
WhoIsLeft link numbers g v seen but (Ok image) = IsLastOfAll link numbers g v seen Went image.items
WhoIsLeft {L} link numbers g v seen but (Err (stop.SessionsLeft left)) = (line : L) × IsOneUsed (without but (numbers line))
WhoIsLeft link numbers g v seen but (Err (stop.GivenUp image)) = IsLastOfAll link numbers g v seen WasGivenUp image.items
WhoIsLeft {L} link numbers g v seen but (Err (stop.OutOfMemory left)) = (line : L) × AreAllFree (without but (numbers line))
WhoIsLeft link numbers g v seen but (Err (stop.LinkEnded image)) = IsLastOfAll link numbers g v seen WasCut image.items
WhoIsLeft link numbers g v seen but (Err (stop.NotAsRead image)) = IsLastOfAll link numbers g v seen WasNotAsRead image.items
WhoIsLeft link numbers g v seen but (Err (stop.NotRead image)) = IsLastOfAll link numbers g v seen WasNotRead image.items

-- the numbers of the refusals to stop
abbrev pub stop_refusal_number : {S : Type 0} → StopRefusal S → ℕ
stop_refusal_number (stop.SessionsLeft service) = 1
stop_refusal_number (stop.GivenUp image) = 2
stop_refusal_number (stop.OutOfMemory left) = 3
stop_refusal_number (stop.LinkEnded image) = 4
stop_refusal_number (stop.NotAsRead image) = 5
stop_refusal_number (stop.NotRead image) = 6

-- what stopping a service gave: how the last sync went, and the image
abbrev pub IsImageOf : {S : Type 0} → Result (Vec ℕ) (StopRefusal S) → LastSync → Vec ℕ → Type 0
IsImageOf (Ok image) sync.Done left = left ≡ image
IsImageOf (Err (stop.GivenUp image)) sync.GivenUp left = left ≡ image
IsImageOf (Err (stop.LinkEnded image)) sync.Cut left = left ≡ image
IsImageOf (Err (stop.NotAsRead image)) sync.NotAsRead left = left ≡ image
IsImageOf (Err (stop.NotRead image)) sync.NotRead left = left ≡ image
IsImageOf _ _ _ = ⊥

-- or why it gave none
abbrev pub IsNoImageOf : {S : Type 0} → Result (Vec ℕ) (StopRefusal S) → NoImage → Type 0
IsNoImageOf (Err (stop.SessionsLeft service)) none.SessionsLeft = Unit {0}
IsNoImageOf (Err (stop.OutOfMemory left)) none.OutOfMemory = Unit {0}
IsNoImageOf _ _ = ⊥

-- the names of the reasons
abbrev pub no_image_name : NoImage → List ℕ
no_image_name none.SessionsLeft = codes "SessionsLeft"
no_image_name none.OutOfMemory = codes "OutOfMemory"

-- whether the media are as the volume was read back, for all that a last sync says
abbrev pub is_as_read : LastSync → Bool
is_as_read sync.NotAsRead = false
is_as_read sync.NotRead = false
is_as_read _ = true
