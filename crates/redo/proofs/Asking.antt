-- How a record stands, by what its gate and head ask for.
use Rattle.std.proofs.Common.{◌≡◌, ◌⊎◌, inl, inr, ℕ, suc, ◌+◌, ◌-◌, ◌<◌, List, [], ◌++◌, refl, sym, ◌∙◌, ap, arith, Bool, true, false, ◌&&◌, ◌==◌, if◌then◌else◌}
use Rattle.std.specs.Str.{bytes_eq}
use Rattle.stable.specs.Disk.{Contents, Changes as Puts}
use Rattle.redo.specs.declared.recovering.Asked.{Asked}
use Rattle.redo.specs.declared.recovering.Asked.TheVariants.{NothingMore, Changes, Another}
use Rattle.redo.specs.Record.{closed, is_head, name_in, count_in, changes_in, record_standing, record_units, from, said_from, says_of, standing, all_said, most, Standing, Nothing, Redo, Foreign}
use Rattle.redo.specs.Plans.{to_gate, to_recover}
use Rattle.redo.specs.Asked.{asks_of, stands}
use Rattle.redo.proofs.Records.{said_next, said_nothing, said_foreign}

by_tests : (log : Contents) (b c d : Bool) (n : ℕ) → (if b && c then (if d then Redo (changes_in log n) else Foreign) else Nothing) ≡ stands (if b && c then (if d then Changes n else Another) else NothingMore) log
by_tests log true true true n = refl
by_tests log true true false n = refl
by_tests log true false d n = refl
by_tests log false c d n = refl

-- a record stands as its gate and head ask
pub standing_asked : (name at : ℕ) (log : Contents) (asked : Asked) → asked ≡ asks_of name (log at) (log (at + 1)) → record_standing name (from at log) ≡ stands asked (from at log)
standing_asked name at log asked is =
    let l : Contents = from at log in
    by_tests l (bytes_eq (l 0) (l 1)) (is_head (l 1)) (name_in (l 1) == name) (count_in (l 1))
    ∙ ap (λ (k : ℕ). stands (asks_of name (log k) (l 1)) l) (let e : at + 0 ≡ at = omega arith in e)
    ∙ ap (λ (a : Asked). stands a l) (sym is)

count_by : (b c d : Bool) (n m : ℕ) → Changes n ≡ (if b && c then (if d then Changes m else Another) else NothingMore) → n ≡ m
count_by true true true n m is = cc
count_by true true false n m is = cc
count_by true false d n m is = cc
count_by false c d n m is = cc

-- the count that is asked for is the head's
pub count_asked : (name at : ℕ) (log : Contents) (count : ℕ) → Changes count ≡ asks_of name (log at) (log (at + 1)) → count ≡ count_in (log (at + 1))
count_asked name at log count is = count_by (bytes_eq (log at) (log (at + 1))) (is_head (log (at + 1))) (name_in (log (at + 1)) == name) count (count_in (log (at + 1))) is

-- what is said from a record on, and what is left behind it
pub said_changes : (name at : ℕ) (log : Contents) (count left : ℕ) → Changes count ≡ asks_of name (log at) (log (at + 1)) → 0 < left
    → said_from left name log at ≡ says_of (record_standing name (from at log)) ++ said_from (left - 1) name log (at + record_units count)
said_changes name at log count left is some =
    let l : Contents = from at log in
    let redo : record_standing name l ≡ Redo (changes_in l count) = standing_asked name at log (Changes count) is in
    ap (λ (k : ℕ). said_from k name log at) (let e : left ≡ suc (left - 1) = omega arith in e)
    ∙ said_next (left - 1) name log at (changes_in l count) redo
    ∙ ap (λ (k : ℕ). changes_in l count ++ said_from (left - 1) name log (at + record_units k)) (sym (count_asked name at log count is))
    ∙ ap (λ (s : Standing). says_of s ++ said_from (left - 1) name log (at + record_units count)) (sym redo)

-- a record that isn't open for the image says nothing
pub shut_asked : (name at : ℕ) (log : Contents) (asked : Asked) → (asked ≡ Another) ⊎ (asked ≡ NothingMore) → asked ≡ asks_of name (log at) (log (at + 1))
    → says_of (record_standing name (from at log)) ≡ []
shut_asked name at log asked (inl another) is = ap says_of (standing_asked name at log asked is) ∙ ap (λ (a : Asked). says_of (stands a (from at log))) another
shut_asked name at log asked (inr none) is = ap says_of (standing_asked name at log asked is) ∙ ap (λ (a : Asked). says_of (stands a (from at log))) none

pub said_shut : (name at : ℕ) (log : Contents) (asked : Asked) (left : ℕ) → (asked ≡ Another) ⊎ (asked ≡ NothingMore) → asked ≡ asks_of name (log at) (log (at + 1))
    → said_from left name log at ≡ []
said_shut name at log asked left (inl another) is = said_foreign left name log at (standing_asked name at log asked is ∙ ap (λ (a : Asked). stands a (from at log)) another)
said_shut name at log asked left (inr none) is = said_nothing left name log at (standing_asked name at log asked is ∙ ap (λ (a : Asked). stands a (from at log)) none)

pub said_behind : (name at : ℕ) (log : Contents) (asked : Asked) (left : ℕ) → (asked ≡ Another) ⊎ (asked ≡ NothingMore) → asked ≡ asks_of name (log at) (log (at + 1))
    → said_from left name log at ≡ says_of (record_standing name (from at log)) ++ said_from 0 name log at
said_behind name at log asked left shut is =
    said_shut name at log asked left shut is ∙ sym (said_shut name at log asked 0 shut is) ∙ ap (λ (l : Puts). l ++ said_from 0 name log at) (sym (shut_asked name at log asked shut is))

-- how a log stands by what its first record asks
abbrev pub log_stands : Asked → Puts → Standing
log_stands NothingMore said = Nothing
log_stands (Changes count) said = Redo said
log_stands Another said = Foreign

pub log_asked : (name : ℕ) (log : Contents) (asked : Asked) → asked ≡ asks_of name (log 0) (log (0 + 1)) → standing name log ≡ log_stands asked (said_from most name log 0)
log_asked name log NothingMore is = ap (λ (s : Standing). all_said s (said_from most name log 0)) (standing_asked name 0 log NothingMore is)
log_asked name log (Changes count) is = ap (λ (s : Standing). all_said s (said_from most name log 0)) (standing_asked name 0 log (Changes count) is)
log_asked name log Another is = ap (λ (s : Standing). all_said s (said_from most name log 0)) (standing_asked name 0 log Another is)

-- what is to be done where nothing is asked for

pub plan_closed : (gate : List ℕ) → bytes_eq gate closed ≡ true → to_recover Nothing gate ≡ []
plan_closed gate is = ap (λ (b : Bool). if b then [] else to_gate 0 closed) is

pub plan_open : (gate : List ℕ) → bytes_eq gate closed ≡ false → to_recover Nothing gate ≡ to_gate 0 closed
plan_open gate is = ap (λ (b : Bool). if b then [] else to_gate 0 closed) is
