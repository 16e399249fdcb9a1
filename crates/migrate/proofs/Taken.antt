-- Zones that are taken one after the other.
use Rattle.std.proofs.Common.{◌≡◌, ◌<◌, ◌≤◌, ◌+◌, ◌*◌, ℕ, List, length, refl, ◌∙◌, arith}
use Rattle.std.specs.Prelude.{Result, Ok, Err, OnOk}
use Rattle.lemmas.specs.Sums.{sum_below}
use Rattle.fsck.proofs.Counts.{no_sum}
use Rattle.migrate.specs.Zones.{Takes}
use Rattle.migrate.proofs.Laid.{sum_front, sum_next}

-- none
pub takes_none : (zones limit : ℕ) (xs : List ℕ) → zones ≡ 0 → Takes zones limit limit xs xs
takes_none zones limit xs e = record { limit = refl; longer = omega arith; kept = λ p h. refl }

-- none of a sum
pub takes_no_sum : (f : ℕ → ℕ) (limit : ℕ) (xs : List ℕ) → Takes (sum_below f 0) limit limit xs xs
takes_no_sum f limit xs = takes_none (sum_below f 0) limit xs (no_sum f)

-- some, and then others
pub takes_both : (a b c l m n : ℕ) (xs ys zs : List ℕ) → Takes a l m xs ys → Takes b m n ys zs → c ≡ a + b → Takes c l n xs zs
takes_both a b c l m n xs ys zs s t e =
    let first = s.longer in
    let then = t.longer in
    record { limit = t.limit ∙ s.limit; longer = omega arith; kept = λ p h. t.kept p (omega arith) ∙ s.kept p h }

-- one part more of a sum
pub takes_next : (f : ℕ → ℕ) (j b l m n : ℕ) (xs ys zs : List ℕ) → Takes (sum_below f j) l m xs ys → Takes b m n ys zs → b ≡ f j
    → Takes (sum_below f (j + 1)) l n xs zs
takes_next f j b l m n xs ys zs s t e =
    let more = sum_next f j in
    takes_both (sum_below f j) b (sum_below f (j + 1)) l m n xs ys zs s t (omega arith)

-- where there is room for all parts, there is for the next
pub next_fits : (f : ℕ → ℕ) (j n all b l m : ℕ) (xs ys : List ℕ) → Takes (sum_below f j) l m xs ys → j < n → sum_below f n ≤ all
    → length xs + 1024 * all ≤ l → b ≡ f j → length ys + 1024 * b ≤ m
next_fits f j n all b l m xs ys s h most room e =
    let more = sum_next f j in
    let part = sum_front f (j + 1) n (omega arith) in
    let taken = s.longer in
    let same = s.limit in
    omega arith

-- what holds of an answer holds of it in other words
pub on_ok : {X E : Type 0} (r : Result X E) (P Q : Type 0) → (P → Q) → OnOk r P → OnOk r Q
on_ok (Ok x) P Q f p = f p
on_ok (Err e) P Q f p = tt
