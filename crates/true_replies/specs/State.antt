-- The state of a run and what holds of it between events.
use Rattle.std.specs.Prelude.{◌≡◌, ◌⊎◌, ℕ, ◌+◌, ◌*◌, ◌<◌, ◌≤◌, List, Bool, true, false, Option, Some, None, IsTrue, slice_index}
use Rattle.message.specs.Good.{moved}
use Rattle.message.specs.declared.Kind.{Kind}
use Rattle.message.specs.declared.Kind.TheVariants.{Read, Write}
use Rattle.message.specs.declared.BlockRequest.{BlockRequest}
use Rattle.message.specs.declared.BlockReply.{BlockReply}
use Rattle.records.specs.Marks.{Mark, last_started}
use Rattle.records.specs.Open.{open_requests, greatest, IsIn, IsWellFormed}
use Rattle.records.specs.Disk.{disk_after, unsure, HasTrueReplies, Contents}
use Rattle.records.specs.Opening.{Opening, Fits}
use Rattle.media.specs.Contents.{MediaState, sector}
use Rattle.bdev.specs.DriverState.{DriverState, Work, range_of}
use Rattle.bdev.specs.Promises.{requests_in_work, IsDriver}
use Rattle.true_replies.specs.Posted.{driver_at, started_at, since_start, IsSent}

-- a run between two events: of the drivers the last one started alone, since no reply of the others counts, and the media refuse their writes
pub record State : Type 0 where
  pub media : MediaState
  pub current : DriverState
  pub live : Bool
  pub line : List BlockRequest
  pub sent : List BlockReply
  pub marks : List Mark

-- the bytes that a request moves: its own, or those that a read got
abbrev pub payload : Kind → List ℕ → List ℕ → List ℕ
payload Read own got = got
payload Write own got = own

-- the j-th sector of a request, as a sector of the volume
pub record Place (v : Opening) (r : BlockRequest) (j : ℕ) : Type 0 where
  pub at : ℕ
  pub position : 512 * at ≡ r.position + 512 * j
  pub inside : at < v.count
  pub within : 512 * j + 512 ≤ r.count

-- the media hold these bytes at the j-th sector of the request
pub record Moved (v : Opening) (media : MediaState) (r : BlockRequest) (bytes : List ℕ) (j : ℕ) : Type 0 where
  pub place : Place v r j
  pub same : (o : ℕ) → o < 512 → slice_index bytes (512 * j + o) ≡ slice_index (sector media (v.first + place.at)) o

-- a request in work at a live current driver is open, and what it moved stands on the media
pub record WorkHolds (v : Opening) (media : MediaState) (marks : List Mark) (last : ℕ) (w : Work) : Type 0 where
  pub opened : IsIn w.request (open_requests marks)
  pub id : w.request.id ≡ last
  pub moved : (j : ℕ) → IsTrue (w.moved j) → Moved v media w.request (payload w.request.kind w.request.bytes w.got) j

abbrev pub AnyWorkHolds : Opening → MediaState → List Mark → ℕ → Option Work → Type 0
AnyWorkHolds v media marks last None = Unit {0}
AnyWorkHolds v media marks last (Some w) = WorkHolds v media marks last w

-- a good answer to this open request is true of the media
pub record AnswerHolds (v : Opening) (media : MediaState) (a : BlockReply) (r : BlockRequest) : Type 0 where
  pub each : (n : ℕ) → moved r.count a.outcome ≡ Some n → (j : ℕ) → 512 * j < n → Moved v media r (payload r.kind r.bytes a.bytes) j

-- a reply of the current driver: of a request that it ended
pub record ReplyHolds (v : Opening) (media : MediaState) (marks : List Mark) (d : DriverState) (a : BlockReply) : Type 0 where
  pub ended : a.id + requests_in_work d.work ≤ d.last
  pub answer : (r : BlockRequest) → IsIn r (open_requests marks) → r.id ≡ a.id → AnswerHolds v media a r

-- the media are the disk of the record where that is sure
pub record MediaHold (v : Opening) (image : Contents) (media : MediaState) (marks : List Mark) : Type 0 where
  pub each : (s o : ℕ) → s < v.count → o < 512 → unsure marks (512 * s + o) ≡ false
      → slice_index (sector media (v.first + s)) o ≡ disk_after image marks (512 * s + o)

-- outside of the volume nothing was changed
pub record OutsideHolds (v : Opening) (given media : MediaState) : Type 0 where
  pub each : (n : ℕ) → (n < v.first) ⊎ (v.first + v.count ≤ n) → sector media n ≡ sector given n

-- a request issued to the current driver
pub record PostHolds (v : Opening) (marks : List Mark) (last : ℕ) (q : BlockRequest) : Type 0 where
  pub opened : last < q.id → IsIn q (open_requests marks)

pub record Invariant (v : Opening) (image : Contents) (given : MediaState) (x : State) : Type 0 where
  pub well_formed : IsWellFormed x.marks
  pub started : last_started x.marks ≡ started_at x.media.generation
  pub range : x.live ≡ true → range_of x.current.ranges v.minor ≡ Some (v.first, v.count)
  pub media : MediaHold v image x.media x.marks
  pub outside : OutsideHolds v given x.media
  pub true_replies : HasTrueReplies image x.marks
  pub driver : IsDriver x.current
  pub last : x.current.last ≤ greatest x.marks
  pub fits : (q : BlockRequest) → IsIn q (open_requests x.marks) → Fits v q
  pub posts : (q : BlockRequest) → IsIn q (since_start x.marks) → PostHolds v x.marks x.current.last q
  pub line : (q : BlockRequest) → IsIn q x.line → IsIn q (since_start x.marks)
  pub work : x.live ≡ true → AnyWorkHolds v x.media x.marks x.current.last x.current.work
  pub older : (a : BlockReply) → IsSent a x.sent → a.from.generation ≤ x.media.generation
  pub sent : (a : BlockReply) → IsSent a x.sent → a.from ≡ driver_at x.media.generation → ReplyHolds v x.media x.marks x.current a

abbrev pub state_of : MediaState → DriverState → Bool → List BlockRequest → List BlockReply → List Mark → State
state_of media current live line sent marks =
    record { media = media; current = current; live = live; line = line; sent = sent; marks = marks }
