-- Scans of entries for a name.
use Rattle.std.proofs.Common.{◌≡◌, ◌≢◌, ◌<◌, ◌≤◌, ◌+◌, ◌-◌, ◌*◌, ℕ, zero, suc, Bool, true, false, [], length, Option, Some, None, refl, ap, ◌∙◌, arith}
use Rattle.std.specs.Prelude.{◌==◌, option_map, if◌then◌else◌}
use Rattle.std.specs.Option.{option_or}
use Rattle.std.specs.Ordering.{eq_by_cmp}
use Rattle.std.proofs.lemmas.Bool.{cond-true, cond-false}
use Rattle.tree.specs.Names.{Name, name_cmp, inode_of}
use Rattle.tree.proofs.Names.{inode_of-with_name}
use Rattle.volume.specs.Nodes.{entry_name, entry_inode, names_in}
use Rattle.volume.proofs.Entries.{cmp_apart}
use Rattle.directory.specs.Rows.{SameEntry}
use Rattle.directory.proofs.Rows.{same_name_there}
use Rattle.directory.specs.Scan.{last_named}

-- one entry of a scan, by the number of the entry
step_is : (f : ℕ → ℕ) (name : Name) (from left : ℕ) → from < left
    → last_named f name from (left - from)
    ≡ (if eq_by_cmp name_cmp name (entry_name f (left - 1)) then Some (left - 1) else last_named f name from (left - 1 - from))
step_is f name from left l =
    let more : left - from ≡ suc (left - 1 - from) = omega (arith, l) in
    let at : from + (left - 1 - from) ≡ left - 1 = omega (arith, l) in
    ap (last_named f name from) more
    ∙ ap (λ (e : ℕ). if eq_by_cmp name_cmp name (entry_name f e) then Some e else last_named f name from (left - 1 - from)) at

-- the last entry has the name
pub one_found : (f : ℕ → ℕ) (name : Name) (from left : ℕ) → from < left → eq_by_cmp name_cmp name (entry_name f (left - 1)) ≡ true
    → last_named f name from (left - from) ≡ Some (left - 1)
one_found f name from left l e = step_is f name from left l ∙ cond-true _ _ _ e

-- or it hasn't
pub one_less : (f : ℕ → ℕ) (name : Name) (from left : ℕ) → from < left → eq_by_cmp name_cmp name (entry_name f (left - 1)) ≡ false
    → last_named f name from (left - from) ≡ last_named f name from (left - 1 - from)
one_less f name from left l e = step_is f name from left l ∙ cond-false _ _ _ e

-- what is told of the entry, or of those before it
map_if : (f : ℕ → ℕ) (b : Bool) (e : ℕ) (o : Option ℕ)
    → (if b then Some (entry_inode f e) else option_map (entry_inode f) o) ≡ option_map (entry_inode f) (if b then Some e else o)
map_if f true e o = refl
map_if f false e o = refl

-- The look-up in a row's names is the scan of its entries for the last that has the name.
pub look_up_is : (f : ℕ → ℕ) (k : ℕ) (name : Name) → inode_of (names_in f k) name ≡ option_map (entry_inode f) (last_named f name 2 k)
unfolding names_in
look_up_is f zero name = refl
look_up_is f (suc k) name =
    let at : k + 2 ≡ 2 + k = omega arith in
    inode_of-with_name (names_in f k) (entry_name f (k + 2)) (entry_inode f (k + 2)) name
    ∙ ap (λ (e : ℕ). if eq_by_cmp name_cmp name (entry_name f e) then Some (entry_inode f e) else inode_of (names_in f k) name) at
    ∙ ap (λ (o : Option ℕ). if eq_by_cmp name_cmp name (entry_name f (2 + k)) then Some (entry_inode f (2 + k)) else o) (look_up_is f k name)
    ∙ map_if f (eq_by_cmp name_cmp name (entry_name f (2 + k))) (2 + k) (last_named f name 2 k)

-- a scan of entries is one of those behind, and then of those before
scan_join : (f : ℕ → ℕ) (name : Name) (first j k : ℕ) → last_named f name first (j + k) ≡ option_or (last_named f name (first + j) k) (last_named f name first j)
scan_join f name first j zero = ap (last_named f name first) (none j)
  where
    none : (j : ℕ) → j + 0 ≡ j
    none j = omega arith
scan_join f name first j (suc k) =
    let more : j + suc k ≡ suc (j + k) = omega arith in
    let at : first + (j + k) ≡ first + j + k = omega arith in
    ap (last_named f name first) more
    ∙ ap (λ (e : ℕ). if eq_by_cmp name_cmp name (entry_name f e) then Some e else last_named f name first (j + k)) at
    ∙ ap (λ (o : Option ℕ). if eq_by_cmp name_cmp name (entry_name f (first + j + k)) then Some (first + j + k) else o)
    (scan_join f name first j k)
    ∙ spread (eq_by_cmp name_cmp name (entry_name f (first + j + k))) (first + j + k) (last_named f name (first + j) k)
    (last_named f name first j)
  where
    spread : (b : Bool) (x : ℕ) (o p : Option ℕ) → (if b then Some x else option_or o p) ≡ option_or (if b then Some x else o) p
    spread true x o p = refl
    spread false x o p = refl

-- so where the entries from one on have none, the scan goes on before it
pub scan_goes_on : (f : ℕ → ℕ) (name : Name) (from left : ℕ) → 2 ≤ from → from ≤ left → last_named f name from (left - from) ≡ None
    → last_named f name 2 (left - 2) ≡ last_named f name 2 (from - 2)
scan_goes_on f name from left low l none =
    let whole : left - 2 ≡ (from - 2) + (left - from) = omega (arith, low, l) in
    let at : 2 + (from - 2) ≡ from = omega (arith, low) in
    ap (last_named f name 2) whole ∙ scan_join f name 2 (from - 2) (left - from)
    ∙ ap (λ (e : ℕ). option_or (last_named f name e (left - from)) (last_named f name 2 (from - 2))) at
    ∙ ap (λ (o : Option ℕ). option_or o (last_named f name 2 (from - 2))) none

-- and where they have one, that is it
pub scan_ends : (f : ℕ → ℕ) (name : Name) (from left x : ℕ) → 2 ≤ from → from ≤ left → last_named f name from (left - from) ≡ Some x
    → last_named f name 2 (left - 2) ≡ Some x
scan_ends f name from left x low l some =
    let whole : left - 2 ≡ (from - 2) + (left - from) = omega (arith, low, l) in
    let at : 2 + (from - 2) ≡ from = omega (arith, low) in
    ap (last_named f name 2) whole ∙ scan_join f name 2 (from - 2) (left - from)
    ∙ ap (λ (e : ℕ). option_or (last_named f name e (left - from)) (last_named f name 2 (from - 2))) at
    ∙ ap (λ (o : Option ℕ). option_or o (last_named f name 2 (from - 2))) some

-- so many entries further on
moved_if : (first : ℕ) (b : Bool) (e : ℕ) (o : Option ℕ)
    → option_map (λ (x : ℕ). first + x) (if b then Some e else o) ≡ (if b then Some (first + e) else option_map (λ (x : ℕ). first + x) o)
moved_if first true e o = refl
moved_if first false e o = refl

-- a scan of entries that stand elsewhere
pub scan_moved : (f h : ℕ → ℕ) (name : Name) (first from k : ℕ) → ((q : ℕ) → q < 64 * (from + k) → h q ≡ f (64 * first + q))
    → option_map (λ (e : ℕ). first + e) (last_named h name from k) ≡ last_named f name (first + from) k
scan_moved f h name first from zero same = refl
scan_moved f h name first from (suc k) same =
    let there : SameEntry f h (first + from + k) (from + k) = λ o low.
    let p : 64 * first + (64 * (from + k) + o) ≡ 64 * (first + from + k) + o = omega arith in
    same (64 * (from + k) + o) (omega (arith, low)) ∙ ap f p in
    let at : first + (from + k) ≡ first + from + k = omega arith in
    moved_if first (eq_by_cmp name_cmp name (entry_name h (from + k))) (from + k) (last_named h name from k)
    ∙ ap (λ (n : Name). if eq_by_cmp name_cmp name n then Some (first + (from + k)) else option_map (λ (e : ℕ). first + e)
    (last_named h name from k)) (same_name_there f h (first + from + k) (from + k) there)
    ∙ ap (λ (e : ℕ). if eq_by_cmp name_cmp name (entry_name f (first + from + k)) then Some e else option_map (λ (x : ℕ). first + x)
    (last_named h name from k)) at
    ∙ ap (λ (o : Option ℕ). if eq_by_cmp name_cmp name (entry_name f (first + from + k)) then Some (first + from + k) else o)
    (scan_moved f h name first from k (λ q low. same q (omega (arith, low))))

-- a scan of zeros finds no name
pub scan_zeros : (f : ℕ → ℕ) (name : Name) (from k : ℕ) → 0 < length name → ((q : ℕ) → 64 * from ≤ q → q < 64 * (from + k) → f q ≡ 0) → last_named f name from k ≡ None
scan_zeros f name from zero l zeros = refl
scan_zeros f name from (suc k) l zeros =
    let at : 64 * from ≤ 64 * (from + k) + 4 = omega arith in
    let empty : entry_name f (from + k) ≡ [] =
    cond-true (f (64 * (from + k) + 4) == 0) [] _ (ap (λ (x : ℕ). x == 0) (zeros (64 * (from + k) + 4) at (omega arith))) in
    let other : name ≢ entry_name f (from + k) = λ e. let none : length name ≡ 0 = ap length (e ∙ empty) in omega (arith, none, l) in
    cond-false _ _ _ (cmp_apart name (entry_name f (from + k)) other) ∙ scan_zeros f name from k l (λ q low high. zeros q low (omega (arith, high)))
