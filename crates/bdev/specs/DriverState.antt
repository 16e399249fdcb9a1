-- What is known of a driver, and which sectors a request is for.
use Rattle.std.specs.Prelude.{ℕ, ◌+◌, ◌-◌, ◌*◌, ◌/◌, ◌%◌, ◌&&◌, ◌==◌, nat_lt, nat_le, Bool, false, not, List, min, if◌then◌else◌}
use Rattle.std.specs.Prelude.{Option, Some, None, take, drop}
use Rattle.std.proofs.Common.{get_or}
use Rattle.message.specs.declared.BlockRequest.{BlockRequest}
use Rattle.bdev.specs.declared.Run.{Run}

-- for each minor the first sector and the count of its range, where it has one
abbrev pub Ranges : Type 0
Ranges = List (Option (ℕ × ℕ))

-- the range of a minor
abbrev pub range_of : Ranges → ℕ → Option (ℕ × ℕ)
range_of ranges minor = get_or ranges minor None

-- the request in work, which of its sectors were moved (counted from 0 in the request), and the bytes that a read has so far
pub record Work : Type 0 where
  pub request : BlockRequest
  pub moved : ℕ → Bool
  pub got : List ℕ

-- a driver: its ranges, the id of the last request taken (0 at first), the request in work, the sector that the next step
-- may write, how many of its answers weren't good, and whether a step answered Failed
pub record DriverState : Type 0 where
  pub ranges : Ranges
  pub last : ℕ
  pub work : Option Work
  pub in_work : Option ℕ
  pub bad : ℕ
  pub failed : Bool

-- a driver that took nothing yet
abbrev pub fresh : Ranges → DriverState
fresh ranges = record { ranges = ranges; last = 0; work = None; in_work = None; bad = 0; failed = false }

-- nothing was taken and nothing failed
abbrev pub is_fresh : DriverState → Bool
is_fresh d = (d.last == 0) && not d.failed

-- what `ready` answers
abbrev pub range_while_fresh : DriverState → ℕ → Option (ℕ × ℕ)
range_while_fresh d minor = if is_fresh d then range_of d.ranges minor else None

-- position and count are on sectors, and the count is 512 to 4096
abbrev pub is_on_sectors : ℕ → ℕ → Bool
is_on_sectors position count = (position % 512 == 0) && (count % 512 == 0) && nat_lt 0 count && nat_le count 4096

-- the sectors of `count` bytes at `position` of a range, cut at the range's end
abbrev pub cut : ℕ → ℕ → ℕ × ℕ → Run
cut position count range = record {
  first = range.0 + min (position / 512) range.1;
  count = min (count / 512) (range.1 - position / 512);
}

-- the same, where there is a range and position and count are on sectors
abbrev pub plan_in : Option (ℕ × ℕ) → ℕ → ℕ → Option Run
plan_in None position count = None
plan_in (Some range) position count = if is_on_sectors position count then Some (cut position count range) else None

-- the sectors of the media that a request is for; None where it is answered EINVAL
abbrev pub plan : Ranges → BlockRequest → Option Run
plan ranges q = plan_in (range_of ranges q.minor) q.position q.count

-- the k-th 512 bytes
abbrev pub chunk : ℕ → List ℕ → List ℕ
chunk k bytes = take 512 (drop (512 * k) bytes)
