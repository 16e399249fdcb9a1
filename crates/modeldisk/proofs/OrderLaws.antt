-- The order of a sweep, place by place.
use Rattle.std.proofs.Common.{◌≡◌, ℕ, ◌+◌, ◌-◌, ◌≤◌, ◌<◌, ◌||◌, true, false, List, [], ◌∷◌, ◌++◌, length, get_or, take, ◌∙◌, ap, arith, inl, inr, length-append, add-one}
use Rattle.std.specs.Prelude.{◌==◌}
use Rattle.std.specs.List.{list_any, range_with_len}
use Rattle.std.proofs.Math.Seq.{take-suc}
use Rattle.std.proofs.lemmas.Bool.{cases_lt}
use Rattle.std.proofs.lemmas.Bool.Decides.{nat_tests}
use Rattle.std.proofs.lemmas.List.{get_or_append_left, get_or-append_right, take_all}
use Rattle.std.proofs.lemmas.List.Folds.{list_any-append, list_any_at}
use Rattle.std.proofs.lemmas.List.FromFn.{length-range_with_len, get_or-range_with_len}
use Rattle.bdev.specs.declared.Run.{Run}
use Rattle.modeldisk.specs.Order.{below, order_of}

-- a sweep moves each sector once
pub length-order_of : (arm : ℕ) (run : Run) → length (order_of arm run) ≡ run.count
length-order_of arm run =
    let high : List ℕ = range_with_len (run.first + below arm run) (run.count - below arm run) in
    let low : List ℕ = range_with_len run.first (below arm run) in
    let h : length high ≡ run.count - below arm run = length-range_with_len (run.first + below arm run) (run.count - below arm run) in
    let l : length low ≡ below arm run = length-range_with_len run.first (below arm run) in
    omega (arith, length-append high low)

-- the first sectors are those not below the arm
pub order_high : (arm : ℕ) (run : Run) (i : ℕ) → below arm run + i < run.count → get_or (order_of arm run) i 0 ≡ run.first + (below arm run + i)
order_high arm run i less =
    let high : List ℕ = range_with_len (run.first + below arm run) (run.count - below arm run) in
    let low : List ℕ = range_with_len run.first (below arm run) in
    let h : length high ≡ run.count - below arm run = length-range_with_len (run.first + below arm run) (run.count - below arm run) in
    get_or_append_left high low 0 i (omega arith)
    ∙ get_or-range_with_len (run.first + below arm run) (run.count - below arm run) i 0 (omega arith)
    ∙ omega arith

-- the others are those below it
pub order_low : (arm : ℕ) (run : Run) (i : ℕ) → run.count ≤ below arm run + i → i < run.count → get_or (order_of arm run) i 0 ≡ run.first + (below arm run + i - run.count)
order_low arm run i more less =
    let high : List ℕ = range_with_len (run.first + below arm run) (run.count - below arm run) in
    let low : List ℕ = range_with_len run.first (below arm run) in
    let h : length high ≡ run.count - below arm run = length-range_with_len (run.first + below arm run) (run.count - below arm run) in
    get_or-append_right high low (run.count - below arm run) i 0 h (omega arith)
    ∙ get_or-range_with_len run.first (below arm run) (i - (run.count - below arm run)) 0 (omega arith)
    ∙ omega arith

-- each sector of the order is one of the run
pub in_run : (arm : ℕ) (run : Run) (i : ℕ) → i < run.count → let s : ℕ = get_or (order_of arm run) i 0 in (run.first ≤ s) × (s < run.first + run.count)
in_run arm run i less = elim (cases_lt (below arm run + i) run.count) [
  | inl high ↦ let e : get_or (order_of arm run) i 0 ≡ run.first + (below arm run + i) = order_high arm run i high in (omega arith, omega arith)
  | inr low ↦ let e : get_or (order_of arm run) i 0 ≡ run.first + (below arm run + i - run.count) = order_low arm run i low less in (omega arith, omega arith)
]

-- the k-th sector of a run has a place in the order
pub place_of : (arm : ℕ) (run : Run) (k : ℕ) → k < run.count → (i : ℕ) × (i < run.count) × (get_or (order_of arm run) i 0 ≡ run.first + k)
place_of arm run k less = elim (cases_lt k (below arm run)) [
  | inl low ↦ (k + run.count - below arm run, omega arith, order_low arm run (k + run.count - below arm run) (omega arith) (omega arith) ∙ omega arith)
  | inr high ↦ (k - below arm run, omega arith, order_high arm run (k - below arm run) (omega arith) ∙ omega arith)
]

-- once all were moved, each of them was
pub all_moved : (arm : ℕ) (run : Run) (n k : ℕ) → run.count ≤ n → k < run.count → list_any (λ s. s == run.first + k) (take n (order_of arm run)) ≡ true
all_moved arm run n k all less =
    let l : length (order_of arm run) ≡ run.count = length-order_of arm run in
    let w : (i : ℕ) × (i < run.count) × (get_or (order_of arm run) i 0 ≡ run.first + k) = place_of arm run k less in
    let e : get_or (order_of arm run) w.0 0 ≡ run.first + k = w.2 in
    let whole : take n (order_of arm run) ≡ order_of arm run = take_all n (order_of arm run) (omega arith) in
    rw whole (list_any_at (λ s. s == run.first + k) (order_of arm run) w.0 0 (omega arith) (grind (arith, nat_tests)))

-- one more moved sector
pub moved_more : (arm : ℕ) (run : Run) (n j k : ℕ) → n < run.count → get_or (order_of arm run) n 0 ≡ run.first + j
    → list_any (λ s. s == run.first + k) (take (n + 1) (order_of arm run)) ≡ (list_any (λ s. s == run.first + k) (take n (order_of arm run)) || (k == j))
moved_more arm run n j k less at =
    let l : length (order_of arm run) ≡ run.count = length-order_of arm run in
    let more : take (n + 1) (order_of arm run) ≡ take n (order_of arm run) ++ (run.first + j) ∷ [] =
    rw (add-one) (take-suc (order_of arm run) n 0 (omega arith) ∙ ap (λ s. take n (order_of arm run) ++ s ∷ []) at) in
    let last : ((run.first + j == run.first + k) || false) ≡ (k == j) = grind (arith, nat_tests) in
    rw (more, list_any-append) (ap (λ b. list_any (λ s. s == run.first + k) (take n (order_of arm run)) || b) last)
