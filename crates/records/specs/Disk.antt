-- What a record says of the disk: its bytes, the places that are unsure, and when the replies are true.
use Rattle.std.specs.Prelude.{◌≡◌, ℕ, ◌+◌, ◌-◌, ◌*◌, ◌<◌, List, [], ◌∷◌, Bool, false, ◌&&◌, ◌||◌, not, nat_lt, nat_le, if◌then◌else◌, Option, Some, None, slice_index}
use Rattle.message.specs.Good.{is_write}
use Rattle.message.specs.declared.BlockRequest.{BlockRequest}
use Rattle.message.specs.declared.BlockReply.{BlockReply}
use Rattle.records.specs.Marks.{Mark, Answered, Issued}
use Rattle.records.specs.Open.{asked_by, moved_by}

-- the byte at each place of a volume
abbrev pub Contents : Type 0
Contents = ℕ → ℕ

-- the request covers this place
abbrev pub covers : BlockRequest → ℕ → Bool
covers r place = nat_le r.position place && nat_lt place (r.position + r.count)

-- a good answer to a write covers this place within the bytes that it moved
abbrev pub settles : Option BlockRequest → Option ℕ → ℕ → Bool
settles (Some r) (Some n) place = is_write r.kind && nat_le r.position place && nat_lt place (r.position + n)
settles (Some r) None place = false
settles None n place = false

-- a good answer to a read covers this place within the bytes that it moved
abbrev pub fetches : Option BlockRequest → Option ℕ → ℕ → Bool
fetches (Some r) (Some n) place = not (is_write r.kind) && nat_le r.position place && nat_lt place (r.position + n)
fetches (Some r) None place = false
fetches None n place = false

-- the byte that a request has for this place
abbrev pub byte_for : Option BlockRequest → ℕ → ℕ
byte_for (Some r) place = slice_index r.bytes (place - r.position)
byte_for None place = 0

-- the image changed, in order, by each good answer to a write: the bytes that it moved stand at its position
abbrev pub disk_after : Contents → List Mark → Contents
disk_after image [] place = image place
disk_after image (Answered a ∷ marks) place =
    if settles (asked_by a marks) (moved_by a marks) place then byte_for (asked_by a marks) place else disk_after image marks place
disk_after image (_ ∷ marks) place = disk_after image marks place

-- the byte that a reply has for this place
abbrev pub byte_of : Option BlockRequest → BlockReply → ℕ → ℕ
byte_of (Some r) a place = slice_index a.bytes (place - r.position)
byte_of None a place = 0

-- what was read, be it true or not: the byte that the last good answer to a read gave for the place, or 0 with none
abbrev pub bytes_read : List Mark → Contents
bytes_read [] place = 0
bytes_read (Answered a ∷ marks) place =
    if fetches (asked_by a marks) (moved_by a marks) place then byte_of (asked_by a marks) a place else bytes_read marks place
bytes_read (_ ∷ marks) place = bytes_read marks place

-- whether a good answer to a read covered the place
abbrev pub is_read : List Mark → ℕ → Bool
is_read [] place = false
is_read (Answered a ∷ marks) place = fetches (asked_by a marks) (moved_by a marks) place || is_read marks place
is_read (_ ∷ marks) place = is_read marks place

-- a write that covers the place was issued after the last good answer to a write that covers it (or with none so far)
abbrev pub unsure : List Mark → ℕ → Bool
unsure [] place = false
unsure (Issued r e ∷ marks) place = (is_write r.kind && covers r place) || unsure marks place
unsure (Answered a ∷ marks) place =
    not (settles (asked_by a marks) (moved_by a marks) place) && unsure marks place
unsure (_ ∷ marks) place = unsure marks place

-- a sector of 512 bytes is unsure as its first place is (requests are for whole sectors)
abbrev pub is_unsure : List Mark → ℕ → Bool
is_unsure marks sector = unsure marks (512 * sector)

-- no place is unsure
pub record IsSure (marks : List Mark) : Type 0 where
  pub each : (place : ℕ) → unsure marks place ≡ false

-- the first n bytes of an answer are the disk's at every place that isn't unsure
pub record IsTrueOf (image : Contents) (marks : List Mark) (r : BlockRequest) (n : ℕ) (bytes : List ℕ) : Type 0 where
  pub each : (k : ℕ) → k < n → unsure marks (r.position + k) ≡ false
      → slice_index bytes k ≡ disk_after image marks (r.position + k)

-- a good answer to a read is true of the disk; of other answers nothing is asked
abbrev pub IsTrueAnswer : Contents → List Mark → Option BlockRequest → Option ℕ → List ℕ → Type 0
IsTrueAnswer image marks (Some r) (Some n) bytes =
    is_write r.kind ≡ false → IsTrueOf image marks r n bytes
IsTrueAnswer image marks (Some r) None bytes = Unit {0}
IsTrueAnswer image marks None n bytes = Unit {0}

-- each good answer to a read holds what the disk held before it
abbrev pub HasTrueReplies : Contents → List Mark → Type 0
HasTrueReplies image [] = Unit {0}
HasTrueReplies image (Answered a ∷ marks) =
    HasTrueReplies image marks × IsTrueAnswer image marks (asked_by a marks) (moved_by a marks) a.bytes
HasTrueReplies image (_ ∷ marks) = HasTrueReplies image marks
