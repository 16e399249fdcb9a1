-- What a log says by its records.
use Rattle.std.proofs.Common.{◌≡◌, ℕ, zero, suc, ◌+◌, ◌-◌, ◌*◌, ◌<◌, ◌≤◌, List, [], ◌∷◌, ◌++◌, length, refl, sym, ◌∙◌, ap, subst, arith, append_assoc, Some}
use Rattle.std.proofs.lemmas.List.{append-nil}
use Rattle.stable.specs.Disk.{Contents, Changes, put}
use Rattle.redo.specs.Record.{record_units, record_standing, Standing, Nothing, Redo, Foreign, from, next_place, with_rest, says_of, said_from, most, all_said, standing, redone, recovered}
use Rattle.redo.specs.UnderWay.{place, changes_of, IsRecord, AreRecords}

said_more : (k name : ℕ) (log : Contents) (at : ℕ) → said_from (suc k) name log at ≡ with_rest (record_standing name (from at log)) (said_from k name log (next_place log at))
unfolding said_from
said_more k name log at = refl

pub said_none : (name : ℕ) (log : Contents) (at : ℕ) → said_from 0 name log at ≡ []
unfolding said_from
said_none name log at = refl

pub said_nothing : (k name : ℕ) (log : Contents) (at : ℕ) → record_standing name (from at log) ≡ Nothing → said_from k name log at ≡ []
said_nothing zero name log at is = said_none name log at
said_nothing (suc k) name log at is = said_more k name log at ∙ ap (λ (s : Standing). with_rest s (said_from k name log (next_place log at))) is

pub said_foreign : (k name : ℕ) (log : Contents) (at : ℕ) → record_standing name (from at log) ≡ Foreign → said_from k name log at ≡ []
said_foreign zero name log at is = said_none name log at
said_foreign (suc k) name log at is = said_more k name log at ∙ ap (λ (s : Standing). with_rest s (said_from k name log (next_place log at))) is

pub said_next : (k name : ℕ) (log : Contents) (at : ℕ) (c : Changes) → record_standing name (from at log) ≡ Redo c → said_from (suc k) name log at ≡ c ++ said_from k name log (next_place log at)
said_next k name log at c is = said_more k name log at ∙ ap (λ (s : Standing). with_rest s (said_from k name log (next_place log at))) is

rest_split : (s : Standing) (rest : Changes) → (more : Changes) × (with_rest s rest ≡ says_of s ++ more)
rest_split Nothing rest = ([], refl)
rest_split (Redo c) rest = (rest, refl)
rest_split Foreign rest = ([], refl)

-- what is said begins with the record's changes
pub said_split : (k name : ℕ) (log : Contents) (at : ℕ) → 0 < k → (more : Changes) × (said_from k name log at ≡ says_of (record_standing name (from at log)) ++ more)
said_split zero name log at some = absurd (omega arith)
said_split (suc k) name log at some =
    let split = rest_split (record_standing name (from at log)) (said_from k name log (next_place log at)) in
    (split.0, said_more k name log at ∙ split.1)

-- what records say, and what is said behind them
pub said_records : (records : List Changes) (k name : ℕ) (log : Contents) (at : ℕ) → AreRecords name log at records
    → said_from (length records + k) name log at ≡ changes_of records ++ said_from k name log (at + place records)
said_records [] k name log at are =
    ap (λ (n : ℕ). said_from n name log at) (let e : 0 + k ≡ k = omega arith in e)
    ∙ ap (λ (p : ℕ). said_from k name log p) (let e : at ≡ at + 0 = omega arith in e)
said_records (c ∷ records) k name log at are =
    ap (λ (n : ℕ). said_from n name log at) (let e : suc (length records) + k ≡ suc (length records + k) = omega arith in e)
    ∙ said_next (length records + k) name log at c are.0.0
    ∙ ap (λ (n : ℕ). c ++ said_from (length records + k) name log (at + record_units n)) are.0.1
    ∙ ap (λ (l : Changes). c ++ l) (said_records records k name log (at + record_units (length c)) are.1)
    ∙ sym (append_assoc c (changes_of records) (said_from k name log (at + record_units (length c) + place records)))
    ∙ ap (λ (p : ℕ). changes_of (c ∷ records) ++ said_from k name log p) (let e : at + record_units (length c) + place records ≡ at + (record_units (length c) + place records) = omega arith in e)

-- where no more is open behind them, they are all
pub said_all : (records : List Changes) (name : ℕ) (log : Contents) → AreRecords name log 0 records → record_standing name (from (place records) log) ≡ Nothing → length records ≤ most
    → said_from most name log 0 ≡ changes_of records
said_all records name log are none few =
    let k : ℕ = most - length records in
    ap (λ (n : ℕ). said_from n name log 0) (let e : most ≡ length records + k = omega arith in e)
    ∙ said_records records k name log 0 are
    ∙ ap (λ (p : ℕ). changes_of records ++ said_from k name log p) (let e : 0 + place records ≡ place records = omega arith in e)
    ∙ ap (λ (l : Changes). changes_of records ++ l) (said_nothing k name log (place records) none)
    ∙ append-nil (changes_of records)

-- how a log of these records stands
abbrev pub stand_of : List Changes → Standing
stand_of [] = Nothing
stand_of (c ∷ records) = Redo (changes_of (c ∷ records))

pub stands_so : (records : List Changes) (name : ℕ) (log : Contents) → AreRecords name log 0 records → record_standing name (from (place records) log) ≡ Nothing → length records ≤ most
    → standing name log ≡ stand_of records
stands_so [] name log are none few = ap (λ (s : Standing). all_said s (said_from most name log 0)) none
stands_so (c ∷ records) name log are none few =
    ap (λ (s : Standing). all_said s (said_from most name log 0)) are.0.0
    ∙ ap (λ (l : Changes). Redo l) (said_all (c ∷ records) name log are none few)

redone_so : (records : List Changes) (left : Contents) → redone (stand_of records) left ≡ Some (put (changes_of records) left)
redone_so [] left = refl
redone_so (c ∷ records) left = refl

-- what is found then
pub found_so : (records : List Changes) (name : ℕ) (log left : Contents) → AreRecords name log 0 records → record_standing name (from (place records) log) ≡ Nothing → length records ≤ most
    → recovered name log left ≡ Some (put (changes_of records) left)
found_so records name log left are none few = ap (λ (s : Standing). redone s left) (stands_so records name log are none few) ∙ redone_so records left

pub place-append : (xs ys : List Changes) → place (xs ++ ys) ≡ place xs + place ys
place-append [] ys = omega arith
place-append (x ∷ xs) ys = omega (arith, place-append xs ys)

pub changes_last : (xs : List Changes) (c : Changes) → changes_of (xs ++ c ∷ []) ≡ changes_of xs ++ c
changes_last [] c = append-nil c
changes_last (x ∷ xs) c = ap (λ (l : Changes). x ++ l) (changes_last xs c) ∙ sym (append_assoc x (changes_of xs) c)

-- one record behind others
pub records_more : (xs : List Changes) (c : Changes) (name : ℕ) (log : Contents) (at : ℕ) → AreRecords name log at xs → IsRecord name log (at + place xs) c → AreRecords name log at (xs ++ c ∷ [])
records_more [] c name log at are is = (subst (λ (p : ℕ). IsRecord name log p c) (let e : at + 0 ≡ at = omega arith in e) is, tt)
records_more (x ∷ xs) c name log at are is =
    (are.0, records_more xs c name log (at + record_units (length x)) are.1 (subst (λ (p : ℕ). IsRecord name log p c) (let e : at + (record_units (length x) + place xs) ≡ at + record_units (length x) + place xs = omega arith in e) is))

-- the one behind the first ones
pub record_behind : (xs : List Changes) (c : Changes) (ys : List Changes) (name : ℕ) (log : Contents) (at : ℕ) → AreRecords name log at (xs ++ c ∷ ys) → IsRecord name log (at + place xs) c
record_behind [] c ys name log at are = subst (λ (p : ℕ). IsRecord name log p c) (let e : at ≡ at + 0 = omega arith in e) are.0
record_behind (x ∷ xs) c ys name log at are =
    subst (λ (p : ℕ). IsRecord name log p c) (let e : at + record_units (length x) + place xs ≡ at + (record_units (length x) + place xs) = omega arith in e)
    (record_behind xs c ys name log (at + record_units (length x)) are.1)

-- each record has two units or more
pub records_few : (xs : List Changes) → 2 * length xs ≤ place xs
records_few [] = omega arith
records_few (x ∷ xs) = omega (arith, records_few xs)
