-- When the table of pending requests agrees with a record.
use Rattle.std.specs.Prelude.{◌≡◌, ◌⊎◌, ℕ, ◌+◌, ◌-◌, ◌<◌, ◌≤◌, List, [], ◌∷◌, ◌++◌, length, drop, map, true, false, slice_index}
use Rattle.message.specs.Good.{is_write}
use Rattle.message.specs.declared.BlockRequest.{BlockRequest}
use Rattle.records.specs.Marks.{Mark, gave_up}
use Rattle.records.specs.Acts.{target}
use Rattle.records.specs.Open.{greatest, open_requests, IsWellFormed}
use Rattle.records.specs.Disk.{Contents, disk_after, unsure, HasTrueReplies}
use Rattle.reissue.specs.declared.pending.Pending.{Pending}
use Rattle.reissue.specs.declared.table.Table.{Table}
use Rattle.reissue.specs.Entries.{request_of}
use Rattle.reissue.specs.Moves.{WasRead}

-- the pending requests that weren't posted to the present endpoint, in rising order of ids
abbrev pub unposted : Table → List BlockRequest
unposted table = map request_of (drop table.posted table.pending)

-- the pending requests that were never issued
abbrev pub never_issued : Table → List BlockRequest
never_issued table = map request_of (drop table.issued table.pending)

-- these ids, one after the other
abbrev pub AreNumbered : ℕ → List BlockRequest → Type 0
AreNumbered next [] = Unit {0}
AreNumbered next (r ∷ rs) = (r.id ≡ next) × AreNumbered (next + 1) rs

-- the ranges that were asked for have no byte in common
pub record Apart (p q : Pending) : Type 0 where
  pub apart : (p.start + p.size ≤ q.start) ⊎ (q.start + q.size ≤ p.start)

-- it is apart from each of them
abbrev pub ApartFromAll : Pending → List Pending → Type 0
ApartFromAll p [] = Unit {0}
ApartFromAll p (q ∷ qs) = Apart p q × ApartFromAll p qs

-- no two have a byte in common
abbrev pub AllApart : List Pending → Type 0
AllApart [] = Unit {0}
AllApart (p ∷ ps) = ApartFromAll p ps × AllApart ps

-- of a read: what was read so far is the disk's, where the disk is sure
pub record ReadsDisk (image : Contents) (marks : List Mark) (p : Pending) : Type 0 where
  pub each : (k : ℕ) → p.start + k < p.request.position → unsure marks (p.start + k) ≡ false
      → slice_index p.bytes k ≡ disk_after image marks (p.start + k)

-- so it is of each read among them
abbrev pub AllReadDisk : Contents → List Mark → List Pending → Type 0
AllReadDisk image marks [] = Unit {0}
AllReadDisk image marks (p ∷ ps) =
    (is_write p.request.kind ≡ false → ReadsDisk image marks p) × AllReadDisk image marks ps

-- of a write: what was moved is the disk's, which is sure of it, and the rest is what is asked for
pub record Wrote (image : Contents) (marks : List Mark) (p : Pending) : Type 0 where
  pub moved : (k : ℕ) → p.start + k < p.request.position
      → (disk_after image marks (p.start + k) ≡ slice_index p.bytes k) × (unsure marks (p.start + k) ≡ false)
  pub left : (k : ℕ) → k < p.request.count
      → slice_index p.request.bytes k ≡ slice_index p.bytes (p.request.position - p.start + k)

-- so it is of each write among them
abbrev pub AllWrote : Contents → List Mark → List Pending → Type 0
AllWrote image marks [] = Unit {0}
AllWrote image marks (p ∷ ps) = (is_write p.request.kind ≡ true → Wrote image marks p) × AllWrote image marks ps

-- of a read: what was read so far are the answers' bytes, joined, and each place of it was read
pub record IsJoined (marks : List Mark) (p : Pending) : Type 0 where
  pub each : (k : ℕ) → p.start + k < p.request.position → WasRead marks (p.start + k) (slice_index p.bytes k)

-- so it is of each read among them
abbrev pub AllJoined : List Mark → List Pending → Type 0
AllJoined marks [] = Unit {0}
AllJoined marks (p ∷ ps) = (is_write p.request.kind ≡ false → IsJoined marks p) × AllJoined marks ps

-- the table holds these requests that were issued and these that weren't, as the record has it
pub record Holds (table : Table) (marks : List Mark) (opened waiting : List Pending) : Type 0 where
  pub items : table.pending ≡ opened ++ waiting
  pub issued : table.issued ≡ length opened
  pub requests : map request_of opened ≡ open_requests marks
  pub numbered : AreNumbered (greatest marks + 1) (map request_of waiting)
  pub ids : table.ids ≡ greatest marks + length waiting
  pub well_formed : IsWellFormed marks
  pub current : table.current ≡ target marks
  pub given_up : table.given_up ≡ gave_up marks
  pub apart : AllApart (opened ++ waiting)
  pub joined : AllJoined marks (opened ++ waiting)
  pub reads : (image : Contents) → HasTrueReplies image marks → AllReadDisk image marks (opened ++ waiting)
  pub writes : (image : Contents) → AllWrote image marks (opened ++ waiting)

-- the table agrees with the record
pub record Agrees (table : Table) (marks : List Mark) : Type 0 where
  pub opened : List Pending
  pub waiting : List Pending
  pub holds : Holds table marks opened waiting
