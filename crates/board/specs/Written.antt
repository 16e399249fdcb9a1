-- Which units of 4096 bytes of a volume's range the writes of a record have bytes in.
use Rattle.std.specs.Prelude.{◌≡◌, ℕ, ◌+◌, ◌*◌, ◌/◌, ◌<◌, List, [], ◌∷◌, Bool, false, ◌&&◌, ◌||◌, length, max, min, nat_lt}
use Rattle.message.specs.Good.{is_write}
use Rattle.message.specs.declared.BlockRequest.{BlockRequest}
use Rattle.records.specs.Marks.{Mark, Issued}
use Rattle.records.specs.Disk.{Contents, disk_after}
use Rattle.changes.specs.Units.{is_marked}

-- whether a request is a write that has a byte in unit n
abbrev pub writes_in : BlockRequest → ℕ → Bool
writes_in r n = is_write r.kind && nat_lt (max r.position (4096 * n)) (min (r.position + r.count) (4096 * n + 4096))

-- whether a write that was issued has a byte in unit n
abbrev pub is_written : List Mark → ℕ → Bool
is_written [] n = false
is_written (Issued r e ∷ marks) n = writes_in r n || is_written marks n
is_written (_ ∷ marks) n = is_written marks n

-- of all units that a volume may have, those are marked in which a write that was issued has a byte
pub record AreWritten (units : List Bool) (marks : List Mark) : Type 0 where
  pub number : length units ≡ 16384
  pub each : (n : ℕ) → n < 16384 → is_marked units n ≡ is_written marks n

-- in a unit in which none has a byte the disk is as it was at first, whatever the replies
abbrev pub DiskStaysUnwritten : Type 0
DiskStaysUnwritten = (image : Contents) (marks : List Mark) (place : ℕ) → is_written marks (place / 4096) ≡ false
    → disk_after image marks place ≡ image place
