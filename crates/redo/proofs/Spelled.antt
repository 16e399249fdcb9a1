-- A record that was written says what was written.
use Rattle.std.proofs.Common.{◌≡◌, inl, inr, ℕ, zero, suc, ◌+◌, ◌-◌, ◌*◌, ◌/◌, ◌^◌, ◌<◌, ◌≤◌, List, [], ◌∷◌, ◌++◌, length, map, take, drop, replicate, refl, sym, ◌∙◌, ap, arith, append_assoc, length-append, Bool, true, false, ◌&&◌, if◌then◌else◌, codes}
use Rattle.std.specs.Int.{to_be_bytes, from_be_bytes, w32, w64}
use Rattle.std.specs.List.{flat_map, zip, AllByRecursion}
use Rattle.std.specs.Str.{bytes_eq}
use Rattle.std.proofs.lemmas.Nat.{from_be_bytes-to_be_bytes_4, from_be_bytes-to_be_bytes_8}
use Rattle.std.proofs.lemmas.Bool.{cases_lt}
use Rattle.std.proofs.lemmas.Bool.Decides.{Decides-eqb}
use Rattle.std.proofs.lemmas.Slice.Eq.{bytes_eq-Decides}
use Rattle.std.proofs.lemmas.List.{take_at, drop_at, take_all, append-nil, length-map, length-drop, length-take-le, take-append-drop}
use Rattle.std.proofs.Math.Seq.{take-append-add, take-append_seam}
use Rattle.stable.specs.Disk.{Contents, Changes, set, put, numbered}
use Rattle.redo.specs.Record.{head, closed, name_in, count_in, is_head, directory_units, numbers_unit, directory, numbers_in, window, numbers_of, body, changes_in, from, record_units, record_standing, record_open, Standing, Nothing, Redo, Foreign}
use Rattle.redo.specs.UnderWay.{Fits, IsRecord}
use Rattle.redo.proofs.Units.{set_same, put_agrees, put_append_other, put_shift, touched, not_past, not_below, put_other, window_same, window_first, window_rest}

-- a log's units behind the gate are those of these changes
pub record Says (name : ℕ) (changes : List (ℕ × List ℕ)) (log : ℕ → List ℕ) : Type 0 where
  pub head_is : log 1 ≡ head name (length changes)
  pub changes_are : changes_in log (length changes) ≡ changes

length_4 : (n : ℕ) → length (to_be_bytes w32 n) ≡ 4
length_4 n = search arith

length_8 : (n : ℕ) → length (to_be_bytes w64 n) ≡ 8
length_8 n = search arith

-- four bytes are one number
numbers_four : (bs rest : List ℕ) → length bs ≡ 4 → numbers_in (bs ++ rest) ≡ from_be_bytes w32 bs ∷ numbers_in rest
numbers_four [] rest is = absurd (omega arith)
numbers_four (a ∷ []) rest is = absurd (omega arith)
numbers_four (a ∷ b ∷ []) rest is = absurd (omega arith)
numbers_four (a ∷ b ∷ c ∷ []) rest is = absurd (omega arith)
numbers_four (a ∷ b ∷ c ∷ d ∷ []) rest is = refl
numbers_four (a ∷ b ∷ c ∷ d ∷ e ∷ bs) rest is = absurd (omega arith)

numbers_front : (ns rest : List ℕ) → AllByRecursion (λ n. n < 2 ^ 32) ns → numbers_in (flat_map (to_be_bytes w32) ns ++ rest) ≡ ns ++ numbers_in rest
numbers_front [] rest fit = refl
numbers_front (n ∷ ns) rest fit =
    ap numbers_in (append_assoc (to_be_bytes w32 n) (flat_map (to_be_bytes w32) ns) rest)
    ∙ numbers_four (to_be_bytes w32 n) (flat_map (to_be_bytes w32) ns ++ rest) (length_4 n)
    ∙ ap (λ (k : ℕ). k ∷ numbers_in (flat_map (to_be_bytes w32) ns ++ rest)) (from_be_bytes-to_be_bytes_4 n fit.0)
    ∙ ap (λ (l : List ℕ). n ∷ l) (numbers_front ns rest fit.1)

fit_take : (k : ℕ) (ns : List ℕ) → AllByRecursion (λ n. n < 2 ^ 32) ns → AllByRecursion (λ n. n < 2 ^ 32) (take k ns)
fit_take zero ns fit = tt
fit_take (suc k) [] fit = tt
fit_take (suc k) (n ∷ ns) fit = (fit.0, fit_take k ns fit.1)

fit_drop : (k : ℕ) (ns : List ℕ) → AllByRecursion (λ n. n < 2 ^ 32) ns → AllByRecursion (λ n. n < 2 ^ 32) (drop k ns)
fit_drop zero ns fit = fit
fit_drop (suc k) [] fit = tt
fit_drop (suc k) (n ∷ ns) fit = fit_drop k ns fit.1

-- a unit's numbers, and what its zeros say
unit_says : (ns : List ℕ) → AllByRecursion (λ n. n < 2 ^ 32) ns → numbers_in (numbers_unit ns) ≡ ns ++ numbers_in (replicate (4096 - 4 * length ns) 0)
unit_says ns fit = numbers_front ns (replicate (4096 - 4 * length ns) 0) fit

full_unit : (ns : List ℕ) → AllByRecursion (λ n. n < 2 ^ 32) ns → 1024 ≤ length ns → numbers_in (numbers_unit ns) ≡ ns
full_unit ns fit full =
    unit_says ns fit
    ∙ ap (λ (k : ℕ). ns ++ numbers_in (replicate k 0)) (let none : 4096 - 4 * length ns ≡ 0 = omega arith in none)
    ∙ append-nil ns

pub length-directory : (k : ℕ) (ns : List ℕ) → length (directory k ns) ≡ k
length-directory zero ns = refl
length-directory (suc k) ns = ap suc (length-directory k (drop 1024 ns))

-- a directory says its numbers
directory_says : (k : ℕ) (ns : List ℕ) → length ns ≤ 1024 * k → AllByRecursion (λ n. n < 2 ^ 32) ns → take (length ns) (flat_map numbers_in (directory k ns)) ≡ ns
directory_says zero [] le fit = refl
directory_says zero (n ∷ ns) le fit = absurd (omega arith)
directory_says (suc k) ns le fit = elim (cases_lt (length ns) 1025) [
  | inl few ↦
      let rest = flat_map numbers_in (directory k (drop 1024 ns)) in
      let zeros = numbers_in (replicate (4096 - 4 * length ns) 0) in
      let all : take 1024 ns ≡ ns = take_all 1024 ns (omega arith) in
      ap (λ (l : List ℕ). take (length ns) (numbers_in (numbers_unit l) ++ rest)) all
      ∙ ap (λ (l : List ℕ). take (length ns) (l ++ rest)) (unit_says ns fit)
      ∙ ap (λ (l : List ℕ). take (length ns) l) (append_assoc ns zeros rest)
      ∙ take-append_seam ns (zeros ++ rest)
  | inr many ↦
      let rest = flat_map numbers_in (directory k (drop 1024 ns)) in
      let front : length (take 1024 ns) ≡ 1024 = length-take-le 1024 ns (omega arith) in
      let parts : length ns ≡ length (take 1024 ns) + length (drop 1024 ns) = omega (arith, front, length-drop 1024 ns) in
      ap (λ (l : List ℕ). take (length ns) (l ++ rest)) (full_unit (take 1024 ns) (fit_take 1024 ns fit) (omega arith))
      ∙ ap (λ (n : ℕ). take n (take 1024 ns ++ rest)) parts
      ∙ take-append-add (take 1024 ns) rest (length (drop 1024 ns))
      ∙ ap (λ (l : List ℕ). take 1024 ns ++ l) (directory_says k (drop 1024 ns) (omega (arith, length-drop 1024 ns)) (fit_drop 1024 ns fit))
      ∙ take-append-drop 1024 ns
]

firsts_fit : (ws : Changes) → AllByRecursion (λ w. w.0 < 2 ^ 32) ws → AllByRecursion (λ n. n < 2 ^ 32) (map (λ w. w.0) ws)
firsts_fit [] fit = tt
firsts_fit (w ∷ ws) fit = (fit.0, firsts_fit ws fit.1)

zipped : (ws : Changes) → zip (map (λ (w : ℕ × List ℕ). w.0) ws) (map (λ (w : ℕ × List ℕ). w.1) ws) ≡ ws
zipped [] = refl
zipped (w ∷ ws) = ap (λ (l : Changes). w ∷ l) (zipped ws)

-- a head says its name and its count
pub name_in-head : (name count : ℕ) → name < 2 ^ 64 → name_in (head name count) ≡ name
name_in-head name count fit =
    let magic = codes "MFSREDO1" in
    let b = to_be_bytes w64 name in
    let c = to_be_bytes w32 count in
    let z = replicate 4076 0 in
    let split : head name count ≡ magic ++ (b ++ (c ++ z)) = append_assoc (magic ++ b) c z ∙ append_assoc magic b (c ++ z) in
    ap (λ (l : List ℕ). from_be_bytes w64 (take 8 (drop 8 l))) split
    ∙ ap (λ (l : List ℕ). from_be_bytes w64 (take 8 l)) (drop_at magic (b ++ (c ++ z)) 8 refl)
    ∙ ap (λ (l : List ℕ). from_be_bytes w64 l) (take_at b (c ++ z) 8 (length_8 name))
    ∙ from_be_bytes-to_be_bytes_8 name fit

pub count_in-head : (name count : ℕ) → count < 2 ^ 32 → count_in (head name count) ≡ count
count_in-head name count fit =
    let magic : List ℕ = codes "MFSREDO1" in
    let b : List ℕ = to_be_bytes w64 name in
    let c : List ℕ = to_be_bytes w32 count in
    let z : List ℕ = replicate 4076 0 in
    let eight : length magic ≡ 8 = refl in
    ap (λ (l : List ℕ). from_be_bytes w32 (take 4 (drop 16 l))) (append_assoc (magic ++ b) c z)
    ∙ ap (λ (l : List ℕ). from_be_bytes w32 (take 4 l)) (drop_at (magic ++ b) (c ++ z) 16 (omega (arith, length_8 name, eight, length-append magic b)))
    ∙ ap (λ (l : List ℕ). from_be_bytes w32 l) (take_at c z 4 (length_4 count))
    ∙ from_be_bytes-to_be_bytes_4 count fit

pub is_head-head : (name count : ℕ) → name < 2 ^ 64 → count < 2 ^ 32 → is_head (head name count) ≡ true
is_head-head name count n c =
    (bytes_eq-Decides (head name count) (head (name_in (head name count)) (count_in (head name count)))).1
    (sym (ap (λ (k : ℕ). head k (count_in (head name count))) (name_in-head name count n) ∙ ap (λ (k : ℕ). head name k) (count_in-head name count c)))

not_head-closed : is_head closed ≡ false
not_head-closed = refl

one_way : (b c : Bool) (s : Standing) → (b ≡ true → c ≡ false) → (if b && c then s else Nothing) ≡ Nothing
one_way true c s h = ap (λ (v : Bool). if v then s else Nothing) (h refl)
one_way false c s h = refl

-- a closed gate asks for nothing, whatever stands behind it
pub standing_closed : (name : ℕ) (log : Contents) → log 0 ≡ closed → record_standing name log ≡ Nothing
standing_closed name log is =
    one_way (bytes_eq (log 0) (log 1)) (is_head (log 1)) (record_open name log)
    (λ same. ap is_head (sym ((bytes_eq-Decides (log 0) (log 1)).0 same) ∙ is) ∙ not_head-closed)

record_open-says : (name : ℕ) (changes : Changes) (log : Contents) → name < 2 ^ 64 → length changes < 2 ^ 32 → Says name changes log → record_open name log ≡ Redo changes
record_open-says name changes log n c says =
    let is_name : name_in (log 1) ≡ name = ap name_in says.head_is ∙ name_in-head name (length changes) n in
    let is_count : count_in (log 1) ≡ length changes = ap count_in says.head_is ∙ count_in-head name (length changes) c in
    ap (λ (b : Bool). if b then Redo (changes_in log (count_in (log 1))) else Foreign) ((Decides-eqb (name_in (log 1)) name).1 is_name)
    ∙ ap (λ (k : ℕ). Redo (changes_in log k)) is_count
    ∙ ap (λ (l : Changes). Redo l) says.changes_are

pub standing_opened : (name : ℕ) (changes : Changes) (log : Contents) → name < 2 ^ 64 → length changes < 2 ^ 32 → Says name changes log → log 0 ≡ head name (length changes) → record_standing name log ≡ Redo changes
standing_opened name changes log n c says gate =
    ap (λ (b : Bool). if b && is_head (log 1) then record_open name log else Nothing) ((bytes_eq-Decides (log 0) (log 1)).1 (gate ∙ sym says.head_is))
    ∙ ap (λ (b : Bool). if b then record_open name log else Nothing) (ap is_head says.head_is ∙ is_head-head name (length changes) n c)
    ∙ record_open-says name changes log n c says

-- what a commit puts behind the gate says its changes
pub spelled : (name : ℕ) (changes : Changes) (before log : Contents) → Fits changes → ((n : ℕ) → 1 ≤ n → log n ≡ put (numbered 1 (body name changes)) before n) → Says name changes log
spelled name changes before log fits same =
    let count = length changes in
    let units = directory_units count in
    let numbers = map (λ (w : ℕ × List ℕ). w.0) changes in
    let dirs = directory units numbers in
    let data_of = map (λ (w : ℕ × List ℕ). w.1) changes in
    let with_head : Contents = set before (1, head name count) in
    let whole : Contents = put (numbered 2 (dirs ++ data_of)) with_head in
    let counted : length numbers ≡ count = length-map changes (λ (w : ℕ × List ℕ). w.0) in
    let counted_data : length data_of ≡ count = length-map changes (λ (w : ℕ × List ℕ). w.1) in
    let room : count ≤ 1024 * ((count + 1023) / 1024) = omega arith in
    let dirs_are : window log 2 units ≡ dirs =
    window_same log whole 2 units (λ n le lt. same n (omega arith))
    ∙ ap (λ (k : ℕ). window whole 2 k) (sym (length-directory units numbers))
    ∙ window_first dirs data_of 2 with_head in
    let data_are : window log (2 + units) count ≡ data_of =
    window_same log whole (2 + units) count (λ n le lt. same n (omega arith))
    ∙ ap (λ (k : ℕ). window whole (2 + k) count) (sym (length-directory units numbers))
    ∙ ap (λ (k : ℕ). window whole (2 + length dirs) k) (sym counted_data)
    ∙ window_rest dirs data_of 2 with_head in
    let numbers_are : numbers_of log count ≡ numbers =
    ap (λ (l : List (List ℕ)). take count (flat_map numbers_in l)) dirs_are
    ∙ ap (λ (k : ℕ). take k (flat_map numbers_in dirs)) (sym counted)
    ∙ directory_says units numbers (omega arith) (firsts_fit changes fits.numbers) in
    record {
      head_is = same 1 (omega arith) ∙ put_other (numbered 2 (dirs ++ data_of)) with_head 1 (not_below (dirs ++ data_of) 2 1 (omega arith)) ∙ set_same before (1, head name count) 1 refl;
      changes_are = ap (λ (l : List ℕ). zip l (window log (2 + units) count)) numbers_are ∙ ap (λ (l : List (List ℕ)). zip numbers l) data_are ∙ zipped changes;
    }

-- where the gate isn't the head, a log asks for nothing
pub standing_other : (name : ℕ) (log : Contents) → bytes_eq (log 0) (log 1) ≡ false → record_standing name log ≡ Nothing
standing_other name log other = ap (λ (b : Bool). if b && is_head (log 1) then record_open name log else Nothing) other

pub length-body : (name : ℕ) (changes : Changes) → length (body name changes) ≡ 1 + directory_units (length changes) + length changes
length-body name changes =
    let ns : List ℕ = map (λ (w : ℕ × List ℕ). w.0) changes in
    let dirs : List (List ℕ) = directory (directory_units (length changes)) ns in
    let units : List (List ℕ) = map (λ (w : ℕ × List ℕ). w.1) changes in
    let one : length (head name (length changes) ∷ dirs) ≡ 1 + directory_units (length changes) = omega (arith, length-directory (directory_units (length changes)) ns) in
    length-append (head name (length changes) ∷ dirs) units
    ∙ ap (λ (k : ℕ). k + length units) one
    ∙ ap (λ (k : ℕ). 1 + directory_units (length changes) + k) (length-map changes (λ (w : ℕ × List ℕ). w.1))

-- a gate that is open stands before its head
open_is : (b c : Bool) (s : Standing) (changes : Changes) → (if b && c then s else Nothing) ≡ Redo changes → b ≡ true
open_is true c s changes is = refl
open_is false c s changes is = cc

pub open_same : (name : ℕ) (changes : Changes) (log : Contents) → record_standing name log ≡ Redo changes → log 0 ≡ log 1
open_same name changes log is = (bytes_eq-Decides (log 0) (log 1)).0 (open_is (bytes_eq (log 0) (log 1)) (is_head (log 1)) (record_open name log) changes is)

module _ (name : ℕ) (changes : Changes) (other base : Contents) (at : ℕ) where
  abbrev us : List (List ℕ)
  us = body name changes

  -- the units of a record, in front of the gate behind it
  in_front : (n : ℕ) → n < 1 + length us → put (numbered (at + 1) (us ++ closed ∷ [])) base (at + n) ≡ put (numbered 1 us) (from at base) n
  in_front n lt =
      put_append_other us closed (at + 1) (at + n) base (omega arith)
      ∙ put_shift us at 1 n base

  same_behind : ((n : ℕ) → 1 ≤ n → n < record_units (length changes) → other (at + n) ≡ put (numbered (at + 1) (us ++ closed ∷ [])) base (at + n))
      → (n : ℕ) → 1 ≤ n → from at other n ≡ put (numbered 1 us) (from at other) n
  same_behind is n le = elim (cases_lt n (1 + length us)) [
    | inl lt ↦
        is n le (omega (arith, length-body name changes))
        ∙ in_front n lt
        ∙ put_agrees (numbered 1 us) (from at base) (from at other) n (inr (touched us 1 n le lt))
    | inr past ↦ sym (put_other (numbered 1 us) (from at other) n (λ t. not_past us 1 n past t))
  ]

  -- a record that was written is open, and says its changes
  pub record_written : name < 2 ^ 64 → Fits changes → other at ≡ head name (length changes)
      → ((n : ℕ) → 1 ≤ n → n < record_units (length changes) → other (at + n) ≡ put (numbered (at + 1) (us ++ closed ∷ [])) base (at + n))
      → IsRecord name other at changes
  record_written small fits gate is =
      let says = spelled name changes (from at other) (from at other) fits (same_behind is) in
      let here : from at other 0 ≡ head name (length changes) = ap other (let e : at + 0 ≡ at = omega arith in e) ∙ gate in
      (standing_opened name changes (from at other) small fits.few says here, ap count_in says.head_is ∙ count_in-head name (length changes) fits.few)
