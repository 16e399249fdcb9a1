-- What the refusals leave: tables whose entries lie apart.
use Rattle.std.proofs.Common.{◌≡◌, ◌≢◌, ℕ, zero, suc, ◌+◌, ◌≤◌, ◌<◌, ◌^◌, ◌||◌, Bool, true, false, List, [], ◌∷◌, length, refl, ap, arith, inl, inr}
use Rattle.std.specs.Prelude.{Option, Some, None, IfSome, get_or}
use Rattle.std.specs.List.{list_any}
use Rattle.std.proofs.lemmas.Bool.Decides.{nat_tests}
use Rattle.std.proofs.Math.ListN.{get_or-map}
use Rattle.std.proofs.lemmas.Bool.{cases_lt}
use Rattle.lemmas.proofs.Bools.{or_false_right}
use Rattle.media.specs.declared.partition.PartitionEntry.{PartitionEntry}
use Rattle.media.specs.Entries.{passes, holds_sector_0, meets, overlap, has_overlap}
use Rattle.media.specs.Table.{TableState, IsTable, HoldsSector, range_of_entry, range_at}

-- minor 0 is the whole media
pub range_first : (t : TableState) (minor : ℕ) → minor ≡ 0 → range_at t minor ≡ Some (0, t.sectors)
range_first t minor e = rw e refl

-- a later minor is that of an entry
pub range_later : (t : TableState) (k : ℕ) → range_at t (suc k) ≡ range_of_entry (get_or t.entries k None)
range_later t k = get_or-map range_of_entry t.entries k None

-- so any minor but 0 has the range of its entry
pub range_entry : (t : TableState) (minor : ℕ) → minor ≢ 0 → range_at t minor ≡ range_of_entry (get_or (None ∷ t.entries) minor None)
range_entry t zero other = absurd (other refl)
range_entry t (suc k) other = range_later t k

-- an entry that doesn't pass the media lies in them
inside : (sectors : ℕ) (e : Option PartitionEntry) → passes sectors e ≡ false → IfSome (range_of_entry e) (λ r. r.0 + r.1 ≤ sectors)
inside sectors None is = tt
inside sectors (Some e) is = grind (arith, nat_tests)

-- an entry without sector 0 begins after it
off_sector_0 : (e : Option PartitionEntry) → holds_sector_0 e ≡ false → IfSome (range_of_entry e) (λ r. 0 < r.0)
off_sector_0 None is = tt
off_sector_0 (Some e) is = grind (arith, nat_tests)

-- entries that don't meet share no sector
apart : (a b : Option PartitionEntry) (s : ℕ) → meets a b ≡ false → HoldsSector (range_of_entry a) s → HoldsSector (range_of_entry b) s → ⊥
apart None b s is x y = x
apart (Some a) None s is x y = y
apart (Some a) (Some b) s is x y = grind (arith, nat_tests)

-- a test that no element passes fails at each place, and past the end where it fails of nothing
none_passes : (p : Option PartitionEntry → Bool) (entries : List (Option PartitionEntry)) (i : ℕ) → p None ≡ false → list_any p entries ≡ false → p (get_or entries i None) ≡ false
none_passes p [] i nothing is = nothing
none_passes p (e ∷ entries) zero nothing is = first (p e) is
  where
    first : (b : Bool) → (b || list_any p entries) ≡ false → b ≡ false
    first true h = h
    first false h = refl
none_passes p (e ∷ entries) (suc i) nothing is = none_passes p entries i nothing (rest (p e) is)
  where
    rest : (b : Bool) → (b || list_any p entries) ≡ false → list_any p entries ≡ false
    rest true h = cc
    rest false h = h

-- nothing meets nothing
meets_nothing : (a : Option PartitionEntry) → meets a None ≡ false
meets_nothing None = refl
meets_nothing (Some a) = refl

-- neither part of a false `or` holds
left_false : (a b : Bool) → (a || b) ≡ false → a ≡ false
left_false true b h = h
left_false false b h = refl

-- where no two entries overlap, an earlier one doesn't meet a later one
none_meet : (entries : List (Option PartitionEntry)) → overlap entries ≡ false → (i j : ℕ) → i < j → meets (get_or entries i None) (get_or entries j None) ≡ false
none_meet [] is i j less = refl
none_meet (e ∷ entries) is i zero less = absurd (omega arith)
none_meet (e ∷ entries) is zero (suc j) less = none_passes (meets e) entries j (meets_nothing e) (left_false (list_any (meets e) entries) (overlap entries) is)
none_meet (e ∷ entries) is (suc i) (suc j) less = none_meet entries (or_false_right (list_any (meets e) entries) (overlap entries) is) i j (omega arith)

-- the facts of one table
table_inside : (t : TableState) → list_any (passes t.sectors) t.entries ≡ false → (minor : ℕ) → IfSome (range_at t minor) (λ r. r.0 + r.1 ≤ t.sectors)
table_inside t is zero = omega arith
table_inside t is (suc k) = rw (range_later t k) (inside t.sectors (get_or t.entries k None) (none_passes (passes t.sectors) t.entries k refl is))

-- no entry begins at sector 0
table_off_sector_0 : (t : TableState) → list_any holds_sector_0 t.entries ≡ false → (minor : ℕ) → 0 < minor → IfSome (range_at t minor) (λ r. 0 < r.0)
table_off_sector_0 t is zero more = absurd (omega arith)
table_off_sector_0 t is (suc k) more = rw (range_later t k) (off_sector_0 (get_or t.entries k None) (none_passes holds_sector_0 t.entries k refl is))

-- no two entries share a sector
table_apart : (t : TableState) → overlap t.entries ≡ false → (i j s : ℕ) → i ≢ j → HoldsSector (range_of_entry (get_or t.entries i None)) s → HoldsSector (range_of_entry (get_or t.entries j None)) s → ⊥
table_apart t is i j s other x y = elim (cases_lt i j) [
  | inl less ↦ apart (get_or t.entries i None) (get_or t.entries j None) s (none_meet t.entries is i j less) x y
  | inr more ↦ apart (get_or t.entries j None) (get_or t.entries i None) s (none_meet t.entries is j i (omega arith)) y x
]

-- what passes no test of the refusals is a table
pub is_table : (t : TableState) → t.sectors < 2 ^ 32 → length t.entries ≡ 4 → list_any (passes t.sectors) t.entries ≡ false → has_overlap t.entries ≡ false → IsTable t
is_table t fits four within overlapping = record {
  fits = fits;
  four = four;
  inside = table_inside t within;
  off_sector_0 = table_off_sector_0 t (left_false (list_any holds_sector_0 t.entries) (overlap t.entries) overlapping);
  apart = minors;
}
  where
    minors : (m n s : ℕ) → 0 < m → 0 < n → m ≢ n → HoldsSector (range_at t m) s → HoldsSector (range_at t n) s → ⊥
    minors zero n s a b other x y = absurd (omega arith)
    minors (suc m) zero s a b other x y = absurd (omega arith)
    minors (suc m) (suc n) s a b other x y =
        table_apart t (or_false_right (list_any holds_sector_0 t.entries) (overlap t.entries) overlapping) m n s (λ e. other (ap suc e))
        (rw (range_later t m) at x) (rw (range_later t n) at y)
