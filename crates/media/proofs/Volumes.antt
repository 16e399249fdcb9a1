-- Where a volume lies.
use Rattle.std.proofs.Common.{◌≡◌, ◌≢◌, ◌≤◌, ◌+◌, ℕ, zero, suc, List, [], ◌∷◌, length, Bool, true, false, refl, sym, ap, subst, slice_get, unwrap_or, Option, Some, Result, Ok, Err, IfOk}
use Rattle.std.specs.Prelude.{not, if◌then◌else◌}
use Rattle.std.specs.List.{list_any}
use Rattle.media.specs.Entries.{entries_of, has_overlap, has_signature, passes}
use Rattle.media.specs.declared.partition.PartitionRefusal.TheVariants.{NoSignature, PastMedia, Overlap}
use Rattle.media.specs.declared.partition.place.PlaceRefusal.{PlaceRefusal}
use Rattle.media.specs.Table.{TableState}
use Rattle.media.specs.Refusals.{table_of}
use Rattle.media.specs.Places.{minix_range_or, volume_place}

-- a table that is read is of so many sectors
pub table_sectors : (bytes : List ℕ) (n : ℕ) (t : TableState) → table_of bytes n ≡ Ok t → t.sectors ≡ n
table_sectors bytes n t h = at (has_signature bytes) (list_any (passes n) (entries_of bytes)) (has_overlap (entries_of bytes)) h where
  read : TableState
  read = record { sectors = n; entries = entries_of bytes }

  at : (signed past over : Bool) → (if not signed then Err NoSignature else (if past then Err PastMedia else (if over then Err Overlap else Ok read))) ≡ Ok t → t.sectors ≡ n
  at false past over h = cc
  at true true over h = cc
  at true false true h = cc
  at true false false h = let same : read ≡ t = cc in sym (ap (λ (u : TableState). u.sectors) same)

-- a range within a table's sectors
pub within : (r : Result (ℕ × ℕ) PlaceRefusal) (m n : ℕ) → m ≡ n → IfOk r (λ p. p.0 + p.1 ≤ m) → IfOk r (λ p. p.0 + p.1 ≤ n)
within (Ok p) m n same h = subst (λ k. p.0 + p.1 ≤ k) same h
within (Err e) m n same h = tt

-- the first of the sectors has the table
pub placed : (sectors : List (List ℕ)) (minor : ℕ) (first : List ℕ) → minor ≢ 0 → Some first ≡ slice_get sectors 0
    → volume_place sectors minor ≡ minix_range_or (table_of first (length sectors)) minor
placed [] minor first some at = cc
placed (x ∷ xs) zero first some at = absurd (some refl)
placed (x ∷ xs) (suc m) first some at = ap (λ (o : Option (List ℕ)). minix_range_or (table_of (unwrap_or o []) (length (x ∷ xs))) (suc m)) (sym at)
