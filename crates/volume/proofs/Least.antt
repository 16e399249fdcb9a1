-- The verdict is the least of the findings that are true.
use Rattle.std.proofs.Common.{◌≡◌, ◌<◌, ◌≤◌, ◌+◌, ℕ, zero, suc, List, [], ◌∷◌, Bool, true, false, refl, sym, ap, subst, ◌∙◌, arith}
use mathlib.Core.Logic.{inl, inr}
use Rattle.std.specs.Prelude.{◌==◌, ◌||◌, if◌then◌else◌}
use Rattle.std.proofs.lemmas.Bool.{cases_Bool, cases_eq, cond-true, cond-false, eq-eqb, ne_eqb, or_parts, cases_lt, false≢true, true≢false}
use Rattle.lemmas.specs.Sums.{some_below, least_below}
use Rattle.volume.specs.declared.Finding.{Finding}
use Rattle.volume.specs.Verdict.{Verdict, Clean, Found, Test, found, first_found}
use Rattle.volume.specs.IsVerdict.{is_true_at}

-- where none below a bound passes, each below it fails
pub none_below : (p : ℕ → Bool) (n : ℕ) → some_below p n ≡ false → (k : ℕ) → k < n → p k ≡ false
unfolding some_below
none_below p zero e k h = absurd (omega arith)
none_below p (suc n) e k h =
    let parts = or_parts (some_below p n) (p n) e in
    elim (cases_eq k n) [ inl is ↦ ap p is ∙ parts.1 | inr other ↦ none_below p n parts.0 k (omega arith) ]

-- where one below a bound passes and none of the earlier ones, it is the last
the_last : (a b : Bool) → (a || b) ≡ true → a ≡ false → b ≡ true
the_last true b e out = absurd (true≢false out)
the_last false b e out = e

-- the least that passes does, where one passes
least_passes : (p : ℕ → Bool) (n : ℕ) → some_below p n ≡ true → p (least_below p n) ≡ true
unfolding some_below least_below
least_passes p zero e = absurd (false≢true e)
least_passes p (suc n) e = elim (cases_Bool (some_below p n)) [
  | inl is ↦ ap p (cond-true (some_below p n) (least_below p n) (if p n then n else suc n) is) ∙ least_passes p n is
  | inr out ↦
      let here = the_last (some_below p n) (p n) e out in
      ap p (cond-false (some_below p n) (least_below p n) (if p n then n else suc n) out ∙ cond-true (p n) n (suc n) here) ∙ here
]

-- none below the least passes
below_least : (p : ℕ → Bool) (n k : ℕ) → k < least_below p n → p k ≡ false
unfolding some_below least_below
below_least p zero k h = absurd (omega arith)
below_least p (suc n) k h = elim (cases_Bool (some_below p n)) [
  | inl is ↦ below_least p n k (subst (λ m. k < m) (cond-true (some_below p n) (least_below p n) (if p n then n else suc n) is) h)
  | inr out ↦
      let g : k < (if p n then n else suc n) = subst (λ m. k < m) (cond-false (some_below p n) (least_below p n) (if p n then n else suc n) out) h in
      elim (cases_Bool (p n)) [
        | inl here ↦ none_below p n out k (subst (λ m. k < m) (cond-true (p n) n (suc n) here) g)
        | inr there ↦ elim (cases_eq k n) [
          | inl is ↦ ap p is ∙ there
          | inr other ↦ let under : k < suc n = subst (λ m. k < m) (cond-false (p n) n (suc n) there) g in none_below p n out k (omega arith)
        ]
      ]
]

-- no test is true at the limit or past it
pub data IsWithin (limit : ℕ) : List Test → Type 0 where
  no_test : IsWithin limit []
  also : {t : Test} {ts : List Test} → ((p : ℕ) → limit ≤ p → t p ≡ false) → IsWithin limit ts → IsWithin limit (t ∷ ts)

infixr 5 ◌⨾◌
-- a test that is false from the limit on, before others
pub ◌⨾◌ : {limit : ℕ} {t : Test} {ts : List Test} → ((p : ℕ) → limit ≤ p → t p ≡ false) → IsWithin limit ts → IsWithin limit (t ∷ ts)
h ⨾ hs = also h hs

-- of tests numbered from k on, the finding is true and the least that is
pub record IsFirst (k : ℕ) (ts : List Test) (f : Finding) : Type 0 where
  pub from : k ≤ f.number
  pub true_there : is_true_at k ts f.number f.place ≡ true
  pub no_lesser_number : (number place : ℕ) → number < f.number → is_true_at k ts number place ≡ false
  pub no_lesser_place : (place : ℕ) → place < f.place → is_true_at k ts f.number place ≡ false

-- the same of a verdict, which is clean where no test is true
abbrev pub IsFirstOf : ℕ → List Test → Verdict → Type 0
IsFirstOf k ts Clean = (number place : ℕ) → is_true_at k ts number place ≡ false
IsFirstOf k ts (Found f) = IsFirst k ts f

-- the first test is the one of the first number
at_first : (k : ℕ) (t : Test) (ts : List Test) (number place : ℕ) → number ≡ k → is_true_at k (t ∷ ts) number place ≡ t place
at_first k t ts number place e = cond-true (number == k) (t place) (is_true_at (k + 1) ts number place) (eq-eqb number k e)

-- and of no other
past_first : (k : ℕ) (t : Test) (ts : List Test) (number place : ℕ) → (number ≡ k → ⊥) → is_true_at k (t ∷ ts) number place ≡ is_true_at (k + 1) ts number place
past_first k t ts number place d = cond-false (number == k) (t place) (is_true_at (k + 1) ts number place) (ne_eqb number k d)

-- no test has a number below the first
before_first : (k : ℕ) (ts : List Test) (number place : ℕ) → number < k → is_true_at k ts number place ≡ false
before_first k [] number place h = refl
before_first k (t ∷ ts) number place h = past_first k t ts number place (λ e. omega arith) ∙ before_first (k + 1) ts number place (omega arith)

-- a test in front that is true nowhere changes nothing
behind : (k : ℕ) (t : Test) (ts : List Test) → ((p : ℕ) → t p ≡ false) → (v : Verdict) → IsFirstOf (k + 1) ts v → IsFirstOf k (t ∷ ts) v
behind k t ts quiet Clean h = λ number place. elim (cases_eq number k) [
  | inl e ↦ at_first k t ts number place e ∙ quiet place
  | inr d ↦ past_first k t ts number place d ∙ h number place
]
behind k t ts quiet (Found f) h =
    let past : k + 1 ≤ f.number = h.from in
    record {
      from = omega arith;
      true_there = past_first k t ts f.number f.place (λ e. omega arith) ∙ h.true_there;
      no_lesser_number = λ number place under. elim (cases_eq number k) [
        | inl e ↦ at_first k t ts number place e ∙ quiet place
        | inr d ↦ past_first k t ts number place d ∙ h.no_lesser_number number place under
      ];
      no_lesser_place = λ place under. past_first k t ts f.number place (λ e. omega arith) ∙ h.no_lesser_place place under;
    }

-- the first that is found is the least that is true, where no test is true past the limit
pub first_is_least : (limit k : ℕ) (ts : List Test) → IsWithin limit ts → IsFirstOf k ts (first_found limit k ts)
first_is_least limit k [] within = λ number place. refl
first_is_least limit k (t ∷ ts) (also outside within) = elim (cases_Bool (some_below t limit)) [
  | inl is ↦
      let place = least_below t limit in
      subst (IsFirstOf k (t ∷ ts)) (sym (cond-true (some_below t limit) (found k place) (first_found limit (k + 1) ts) is)) (record {
        from = omega arith;
        true_there = at_first k t ts k place refl ∙ least_passes t limit is;
        no_lesser_number = λ number p under. before_first k (t ∷ ts) number p under;
        no_lesser_place = λ p under. at_first k t ts k p refl ∙ below_least t limit p under;
      })
  | inr out ↦
      let quiet : (p : ℕ) → t p ≡ false = λ p. elim (cases_lt p limit) [ inl under ↦ none_below t limit out p under | inr over ↦ outside p over ] in
      subst (IsFirstOf k (t ∷ ts)) (sym (cond-false (some_below t limit) (found k (least_below t limit)) (first_found limit (k + 1) ts) out))
      (behind k t ts quiet (first_found limit (k + 1) ts) (first_is_least limit (k + 1) ts within))
]
