-- Maps from numbers as functions, changed at one place.
use Rattle.std.proofs.Common.{◌≡◌, ◌≢◌, ℕ, refl, sym, ap, ◌∙◌}
use mathlib.Core.Logic.{inl, inr, ◌⊎◌}
use Rattle.std.proofs.lemmas.Bool.{cond-true, cond-false, eq-eqb, ne_eqb, cases_eq}
use Rattle.std.specs.Prelude.{◌==◌}
use Rattle.reissue.specs.Moves.{put}

-- at the place that was changed
pub put-same : {X : Type 0} (f : ℕ → X) (n : ℕ) (x : X) → put f n x n ≡ x
put-same f n x = cond-true (n == n) x (f n) (eq-eqb n n refl)

-- at another place
pub put-other : {X : Type 0} (f : ℕ → X) (n : ℕ) (x : X) (m : ℕ) → m ≢ n → put f n x m ≡ f m
put-other f n x m h = cond-false (m == n) x (f m) (ne_eqb m n h)

-- A map that has x at n and is f elsewhere is f with x at n.
pub is_put : {X : Type 0} (f g : ℕ → X) (n : ℕ) (x : X) → g n ≡ x → ((m : ℕ) → m ≢ n → g m ≡ f m) → g ≡ put f n x
is_put {X} f g n x here there = λ i m. each m i
  where
    each : (m : ℕ) → g m ≡ put f n x m
    each m = elim (cases_eq m n) [
      | inl e ↦ ap g e ∙ here ∙ sym (ap (put f n x) e ∙ put-same f n x)
      | inr h ↦ there m h ∙ sym (put-other f n x m h)
    ]

-- at any place
pub put_cases : {X : Type 0} (f : ℕ → X) (n : ℕ) (x : X) (m : ℕ)
    → ((m ≡ n) × (put f n x m ≡ x)) ⊎ ((m ≢ n) × (put f n x m ≡ f m))
put_cases f n x m = elim (cases_eq m n) [
  | inl e ↦ inl (e, ap (put f n x) e ∙ put-same f n x)
  | inr h ↦ inr (h, put-other f n x m h)
]
