-- In a unit in which no write of a record has a byte the disk stays.
use Rattle.std.proofs.Common.{◌≡◌, ℕ, ◌+◌, ◌*◌, ◌/◌, ◌<◌, ◌≤◌, List, [], ◌∷◌, ◌++◌, cond, refl, ◌∙◌, ap, subst, sym, arith, get_or, length, replicate}
use Rattle.std.specs.Prelude.{max, min, nat_lt, nat_le, ◌==◌, ◌&&◌, Bool, true, false, if◌then◌else◌, Option, Some, None, is_some}
use Rattle.std.proofs.lemmas.Bool.{and_parts, or_parts}
use Rattle.std.proofs.lemmas.List.{get_or-replicate, length-replicate}
use Rattle.std.proofs.lemmas.Bool.Decides.{nat_tests}
use Rattle.lemmas.proofs.Bools.{is_false, false_not_true}
use Rattle.message.specs.Good.{is_write}
use Rattle.message.specs.declared.BlockRequest.{BlockRequest}
use Rattle.message.specs.declared.BlockReply.{BlockReply}
use Rattle.records.specs.Marks.{Mark, Issued, Started, Answered, Flush, GaveUp, Took, Fault}
use Rattle.records.specs.Open.{greatest, open_requests, asked_by, moved_by, moved_of, with_id, without_id}
use Rattle.records.specs.Disk.{disk_after, settles, byte_for}
use Rattle.records.proofs.OpenRequests.{cond_has}
use Rattle.records.proofs.Unsure.{moved_le}
use Rattle.board.specs.Written.{writes_in, is_written, AreWritten, DiskStaysUnwritten}

-- the request isn't a write that covers the place
abbrev Spares : ℕ → BlockRequest → Type 0
Spares place r = is_write r.kind ≡ true → r.position ≤ place → place < r.position + r.count → ⊥

-- nor is one that has no byte in the place's unit
spares_it : (place : ℕ) (r : BlockRequest) → writes_in r (place / 4096) ≡ false → Spares place r
spares_it place r none write from to = by (is_write r.kind) write none where
  lies : nat_lt (max r.position (4096 * (place / 4096))) (min (r.position + r.count) (4096 * (place / 4096) + 4096)) ≡ true
  lies = grind (arith, nat_tests)

  by : (b : Bool) → b ≡ true
      → (b && nat_lt (max r.position (4096 * (place / 4096))) (min (r.position + r.count) (4096 * (place / 4096) + 4096))) ≡ false → ⊥
  by true is out = false_not_true (sym out ∙ lies)
  by false is out = false_not_true is

-- none of these is one
abbrev AllSpare : ℕ → List BlockRequest → Type 0
AllSpare place [] = Unit {0}
AllSpare place (r ∷ rs) = Spares place r × AllSpare place rs

spare_push : (place : ℕ) (rs : List BlockRequest) (r : BlockRequest) → AllSpare place rs → Spares place r → AllSpare place (rs ++ r ∷ [])
spare_push place [] r h l = (l, tt)
spare_push place (s ∷ rs) r h l = (h.0, spare_push place rs r h.1 l)

spare_without : (place id : ℕ) (rs : List BlockRequest) → AllSpare place rs → AllSpare place (without_id id rs)
spare_without place id [] h = tt
spare_without place id (r ∷ rs) h =
    cond_has (AllSpare place) (r.id == id) rs (r ∷ without_id id rs) h.1 (h.0, spare_without place id rs h.1)

-- the open requests were issued
open_spare : (place : ℕ) (marks : List Mark) → is_written marks (place / 4096) ≡ false → AllSpare place (open_requests marks)
open_spare place [] none = tt
open_spare place (Issued r e ∷ marks) none =
    let parts = or_parts (writes_in r (place / 4096)) (is_written marks (place / 4096)) none in
    let before = open_spare place marks parts.1 in
    cond_has (AllSpare place) (nat_lt (greatest marks) r.id) (open_requests marks ++ r ∷ []) (open_requests marks)
    (spare_push place (open_requests marks) r before (spares_it place r parts.0)) before
open_spare place (Answered a ∷ marks) none = cond_has (AllSpare place) (is_some (moved_of (with_id a.id (open_requests marks)) a))
    (without_id a.id (open_requests marks)) (open_requests marks)
    (spare_without place a.id (open_requests marks) (open_spare place marks none)) (open_spare place marks none)
open_spare place (Started e ∷ marks) none = open_spare place marks none
open_spare place (Flush ∷ marks) none = open_spare place marks none
open_spare place (GaveUp ∷ marks) none = open_spare place marks none
open_spare place (Took who now call said ∷ marks) none = open_spare place marks none
open_spare place (Fault e cause ∷ marks) none = open_spare place marks none

-- so does the one with an id
spares_by_id : (place id : ℕ) (rs : List BlockRequest) (r : BlockRequest) → AllSpare place rs → with_id id rs ≡ Some r → Spares place r
spares_by_id place id [] r h e = cc
spares_by_id place id (s ∷ rs) r h e = by (spares_by_id place id rs r h.1) (s.id == id) e where
  by : (with_id id rs ≡ Some r → Spares place r) → (b : Bool) → cond b (Some s) (with_id id rs) ≡ Some r → Spares place r
  by rest true is = let same : s ≡ r = cc in subst (Spares place) same h.0
  by rest false is = rest is

-- no answer changes the place
none_settles : (marks : List Mark) (a : BlockReply) (place : ℕ) → is_written marks (place / 4096) ≡ false
    → settles (asked_by a marks) (moved_by a marks) place ≡ false
none_settles marks a place none = is_false _ (λ h. at (asked_by a marks) refl (moved_by a marks) refl h) where
  at : (o : Option BlockRequest) → asked_by a marks ≡ o → (m : Option ℕ) → moved_by a marks ≡ m → settles o m place ≡ true → ⊥
  at None is m good h = false_not_true h
  at (Some r) is None good h = false_not_true h
  at (Some r) is (Some n) good h =
      let both = and_parts (is_write r.kind && nat_le r.position place) (nat_lt place (r.position + n)) h in
      let parts = and_parts (is_write r.kind) (nat_le r.position place) both.0 in
      let few : n ≤ r.count = (moved_le r.count n a.outcome (ap (λ (x : Option BlockRequest). moved_of x a) (sym is) ∙ good)).0 in
      let from : r.position ≤ place = grind (arith, nat_tests) in
      let to : place < r.position + n = grind (arith, nat_tests) in
      spares_by_id place a.id (open_requests marks) r (open_spare place marks none) is parts.0 from (omega (arith, few, to))

pub disk_stays_unwritten : DiskStaysUnwritten
disk_stays_unwritten image [] place none = refl
disk_stays_unwritten image (Answered a ∷ marks) place none =
    ap (λ (b : Bool). if b then byte_for (asked_by a marks) place else disk_after image marks place) (none_settles marks a place none)
    ∙ disk_stays_unwritten image marks place none
disk_stays_unwritten image (Issued r e ∷ marks) place none =
    disk_stays_unwritten image marks place (or_parts (writes_in r (place / 4096)) (is_written marks (place / 4096)) none).1
disk_stays_unwritten image (Started e ∷ marks) place none = disk_stays_unwritten image marks place none
disk_stays_unwritten image (Flush ∷ marks) place none = disk_stays_unwritten image marks place none
disk_stays_unwritten image (GaveUp ∷ marks) place none = disk_stays_unwritten image marks place none
disk_stays_unwritten image (Took who now call said ∷ marks) place none = disk_stays_unwritten image marks place none
disk_stays_unwritten image (Fault e cause ∷ marks) place none = disk_stays_unwritten image marks place none

-- of no writes
pub none_is_written : (units : List Bool) → units ≡ replicate 16384 false → AreWritten units []
none_is_written units is = record {
  number = ap length is ∙ length-replicate 16384 false;
  each = λ n lt. ap (λ (l : List Bool). get_or l n false) is ∙ get_or-replicate 16384 n false false lt;
}
