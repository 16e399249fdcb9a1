-- Pending requests and the disk as those who begin requests see them: what each call may change, and what a settled request tells.
use Rattle.std.specs.Prelude.{◌≡◌, ℕ, ◌+◌, ◌<◌, ◌≤◌, ◌==◌, List, Option, Some, None, Result, Ok, Err, Bool, true, false, if◌then◌else◌, slice_index}
use Rattle.message.specs.declared.Kind.{Kind}
use Rattle.message.specs.declared.Kind.TheVariants.{Read, Write}
use Rattle.message.specs.declared.BlockRequest.{BlockRequest}
use Rattle.message.specs.Good.{is_write}
use Rattle.records.specs.Marks.{Mark}
use Rattle.records.specs.Disk.{Contents, disk_after, bytes_read, is_read, unsure}
use Rattle.reissue.specs.declared.ask.Ask.{Ask}
use Rattle.reissue.specs.declared.ask.BeginRefusal.{BeginRefusal}
use Rattle.reissue.specs.Settlements.{Settlement}
use Rattle.reissue.specs.Settlements as settled

-- the bytes of the disk, and the places that are unsure
pub record DiskState : Type 0 where
  pub disk : ℕ → ℕ
  pub unsure : ℕ → Bool

-- what a record says of the disk
abbrev pub state_after : Contents → List Mark → DiskState
state_after image marks = record { disk = disk_after image marks; unsure = unsure marks }

-- the map f with x at n
abbrev pub put : {X : Type 0} → (ℕ → X) → ℕ → X → ℕ → X
put f n x m = if m == n then x else f m

-- a request as it was begun; the bytes of a write
pub record Begun : Type 0 where
  pub start : ℕ
  pub size : ℕ
  pub written : Option (List ℕ)

-- a write's bytes
abbrev pub written_by : Kind → List ℕ → Option (List ℕ)
written_by Read bytes = None
written_by Write bytes = Some bytes

-- what is begun by this
abbrev pub begun_by : Ask → Begun
begun_by ask = record { start = ask.position; size = ask.count; written = written_by ask.kind ask.bytes.now }

-- its request under this id; of a read the bytes have no meaning
pub record IsRequestFor (ask : Ask) (id : ℕ) (r : BlockRequest) : Type 0 where
  pub number : r.id ≡ id
  pub kind : r.kind ≡ ask.kind
  pub minor : r.minor ≡ ask.minor
  pub position : r.position ≡ ask.position
  pub count : r.count ≡ ask.count
  pub bytes : is_write ask.kind ≡ true → r.bytes ≡ ask.bytes.now

-- a request that has this place
pub record Touches (r : Begun) (place : ℕ) : Type 0 where
  pub from : r.start ≤ place
  pub to : place < r.start + r.size

-- no pending write has this place
pub record IsQuiet (pending : ℕ → Option Begun) (place : ℕ) : Type 0 where
  pub none : (t : ℕ) (r : Begun) (bytes : List ℕ) → pending t ≡ Some r → r.written ≡ Some bytes → Touches r place → ⊥

-- the disk changes only where a write is pending, and no other place becomes unsure
pub record Spares (pending : ℕ → Option Begun) (old new : DiskState) : Type 0 where
  pub disk : (p : ℕ) → IsQuiet pending p → new.disk p ≡ old.disk p
  pub sure : (p : ℕ) → IsQuiet pending p → old.unsure p ≡ false → new.unsure p ≡ false

-- some request is pending
pub record IsBusy (pending : ℕ → Option Begun) : Type 0 where
  pub ticket : ℕ
  pub request : Begun
  pub is : pending ticket ≡ Some request

-- what beginning a request does to those that are pending: the ticket is new; a refusal changes nothing
abbrev pub Opens : Result ℕ BeginRefusal → Begun → (ℕ → Option Begun) → (ℕ → Option Begun) → Type 0
Opens (Ok t) r old new = (old t ≡ None) × (new ≡ put old t (Some r))
Opens (Err e) r old new = (new ≡ old) × IsBusy old

-- what a message does to those that are pending: nothing of a settled one stays
abbrev pub Closes : Settlement → (ℕ → Option Begun) → (ℕ → Option Begun) → Type 0
Closes (settled.Read t bytes) old new = (r : Begun) × (old t ≡ Some r) × (r.written ≡ None) × (new ≡ put old t None)
Closes (settled.Written t) old new =
    (r : Begun) × (bytes : List ℕ) × (old t ≡ Some r) × (r.written ≡ Some bytes) × (new ≡ put old t None)
Closes settled.Nothing old new = new ≡ old
Closes settled.Flush old new = new ≡ old
Closes settled.GaveUp old new = new ≡ old
Closes settled.End old new = new ≡ old

-- a settled read has the disk's bytes where the disk is sure; after a settled write the disk has its bytes, and is sure of them
abbrev pub Tells : Settlement → (ℕ → Option Begun) → DiskState → Type 0
Tells (settled.Read t bytes) pending w =
    (r : Begun) → pending t ≡ Some r → (k : ℕ) → k < r.size → w.unsure (r.start + k) ≡ false
    → slice_index bytes k ≡ w.disk (r.start + k)
Tells (settled.Written t) pending w =
    (r : Begun) (bytes : List ℕ) → pending t ≡ Some r → r.written ≡ Some bytes → (k : ℕ) → k < r.size
    → (w.disk (r.start + k) ≡ slice_index bytes k) × (w.unsure (r.start + k) ≡ false)
Tells settled.Nothing pending w = Unit {0}
Tells settled.Flush pending w = Unit {0}
Tells settled.GaveUp pending w = Unit {0}
Tells settled.End pending w = Unit {0}

-- the place was read, and this is the byte that was read there last
abbrev pub WasRead : List Mark → ℕ → ℕ → Type 0
WasRead marks place byte = (byte ≡ bytes_read marks place) × (is_read marks place ≡ true)

-- a settled read has the bytes of the good answers to it, joined: each of its places was read
abbrev pub Joins : Settlement → (ℕ → Option Begun) → List Mark → Type 0
Joins (settled.Read t bytes) pending marks =
    (r : Begun) → pending t ≡ Some r → (k : ℕ) → k < r.size → WasRead marks (r.start + k) (slice_index bytes k)
Joins (settled.Written t) pending marks = Unit {0}
Joins settled.Nothing pending marks = Unit {0}
Joins settled.Flush pending marks = Unit {0}
Joins settled.GaveUp pending marks = Unit {0}
Joins settled.End pending marks = Unit {0}

-- what a message does to the disk
pub record Moves (result : Settlement) (pending : ℕ → Option Begun) (old new : DiskState) : Type 0 where
  pub spares : Spares pending old new
  pub tells : Tells result pending new
