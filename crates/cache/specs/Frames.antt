-- What a cache keeps true of its slots, of the pending requests and of the disk, and what would be read back.
use Rattle.std.specs.Prelude.{◌≡◌, ◌⊎◌, ℕ, ◌+◌, ◌*◌, ◌<◌, ◌≤◌, ◌-◌, ◌&&◌, nat_lt, nat_le, List, length, take, Option, Some, None, false, if◌then◌else◌, slice_index}
use Rattle.volume.specs.Reading.{Disk}
use Rattle.records.specs.Area.{Area}
use Rattle.records.specs.View.{Frames, frame_or}
use Rattle.reissue.specs.Moves.{DiskState, Begun}
use Rattle.cache.specs.declared.state.State.TheVariants.{Clean, Writing, Changed}
use Rattle.cache.specs.declared.slot.Slot.{Slot}
use Rattle.cache.specs.Slots.{ticket_of, is_clean}

-- the bytes of the write that is under way, from this one on, are the slot's, unless they were changed since it was issued
pub record IsUnderWay (size : ℕ) (slot : Slot) (ticket from : ℕ) (bytes : List ℕ) : Type 0 where
  pub state : (slot.state ≡ Changed ticket)
      ⊎ ((slot.state ≡ Writing ticket) × ((o : ℕ) → o < size → slice_index slot.bytes.value o ≡ slice_index bytes (from + o)))

-- a block has a slot whose write is under way
pub record HasSlot (size : ℕ) (held : ℕ → Option Slot) (ticket block from : ℕ) (bytes : List ℕ) : Type 0 where
  pub slot : Slot
  pub holds : held block ≡ Some slot
  pub way : IsUnderWay size slot ticket from bytes

-- a pending write is of a run of neighbouring blocks, each of which has a slot
pub record IsRun (size : ℕ) (held : ℕ → Option Slot) (ticket : ℕ) (r : Begun) (bytes : List ℕ) : Type 0 where
  pub block : ℕ
  pub count : ℕ
  pub some : 0 < count
  pub start : r.start ≡ block * size
  pub whole : r.size ≡ count * size
  pub each : (i : ℕ) → i < count → HasSlot size held ticket (block + i) (i * size) bytes

-- a slot whose write is under way has a pending write, whose range covers its block
pub record HasWrite (size : ℕ) (pending : ℕ → Option Begun) (block ticket : ℕ) : Type 0 where
  pub request : Begun
  pub bytes : List ℕ
  pub is : pending ticket ≡ Some request
  pub write : request.written ≡ Some bytes
  pub from : request.start ≤ block * size
  pub to : block * size + size ≤ request.start + request.size

-- slots and pending requests agree: each block of a pending write has a slot, and each write under way is pending
pub record Tied (size : ℕ) (held : ℕ → Option Slot) (pending : ℕ → Option Begun) : Type 0 where
  pub writes : (t : ℕ) (r : Begun) (bytes : List ℕ) → pending t ≡ Some r → r.written ≡ Some bytes → IsRun size held t r bytes
  pub issued : (b t : ℕ) (s : Slot) → held b ≡ Some s → ticket_of s.state ≡ Some t → HasWrite size pending b t

-- the block lies in the area: it may be changed
abbrev pub IsWritable : Area → ℕ → ℕ → Type 0
IsWritable area size block = (area.from ≤ block * size) × (block * size + size ≤ area.to)

-- each block whose slot isn't clean lies in the area
abbrev pub AllInside : Area → ℕ → (ℕ → Option Slot) → Type 0
AllInside area size held = (b : ℕ) (s : Slot) → held b ≡ Some s → is_clean s.state ≡ false → IsWritable area size b

-- the disk has this byte there, and is sure of it
pub record HasSure (w : DiskState) (place byte : ℕ) : Type 0 where
  pub byte_is : byte ≡ w.disk place
  pub sure : w.unsure place ≡ false

-- slots and the disk agree: the bytes of a clean slot are the disk's, which is sure of them, and each unsure place lies in a block with a slot
pub record CacheAgrees (size : ℕ) (held : ℕ → Option Slot) (w : DiskState) : Type 0 where
  pub clean : (b : ℕ) (s : Slot) → held b ≡ Some s → s.state ≡ Clean → (o : ℕ) → o < size
      → HasSure w (b * size + o) (slice_index s.bytes.value o)
  pub covered : (b : ℕ) → held b ≡ None → (o : ℕ) → o < size → w.unsure (b * size + o) ≡ false

-- the bytes of a slot, a block's length of them
abbrev pub frame_of : ℕ → Option Slot → Option (List ℕ)
frame_of size None = None
frame_of size (Some s) = Some (take size s.bytes.value)

-- the frames of a cache by their blocks
abbrev pub frames_of : ℕ → (ℕ → Option Slot) → Frames
frames_of size held = λ b. frame_of size (held b)

-- a block's bytes on the disk, and 0 past its end
abbrev pub disk_block : ℕ → DiskState → ℕ → ℕ → ℕ
disk_block size w b = λ o. if nat_lt o size then w.disk (b * size + o) else 0

-- what would be read back: for each block the bytes of its frame if it has one, else the disk's
abbrev pub view : ℕ → (ℕ → Option Slot) → DiskState → Disk
view size held w = λ b. frame_or (frames_of size held b) (disk_block size w b)

-- these bytes from a place on, in a row of bytes
abbrev pub with_bytes : ℕ → List ℕ → (ℕ → ℕ) → ℕ → ℕ
with_bytes from bytes row o = if nat_le from o && nat_lt o (from + length bytes) then slice_index bytes (o - from) else row o
