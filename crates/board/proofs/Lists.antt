-- Lists of views and of numbers.
use Rattle.std.proofs.Common.{inl, inr, ⊎_elim, ◌⊎◌, ◌==◌, cond, eq-eqb, ne_eqb, eqb-true, not, ◌≡◌, ◌≢◌, ℕ, zero, suc, ◌||◌, Bool, true, false, List, [], ◌∷◌, ◌++◌, length, set, Option, Some, None, refl, ap, sym, ◌∙◌}
use Rattle.std.proofs.lemmas.List.{length-set}
use mathlib.Core.Option.{some, some-injective, some-ne-none}
use lib.ListN.{get_elem?}
use Rattle.atomic_table.proofs.Lists.{at_set}
use Rattle.board.specs.View.{is_used, without}

at_end : {A : Type 0} (l : List A) (a b : A) (j : ℕ) → get_elem? (l ++ a ∷ []) j ≡ some b → (get_elem? l j ≡ some b) ⊎ ((j ≡ length l) × (a ≡ b))
at_end [] a b zero e = inr (refl, some-injective a b e)
at_end [] a b (suc j) e = absurd (some-ne-none b (sym e))
at_end (x ∷ xs) a b zero e = inl e
at_end (x ∷ xs) a b (suc j) e = ⊎_elim (λ h. inl h) (λ h. inr (ap suc h.0, h.1)) (at_end xs a b j e)

-- what stands in a list in which one place was written and one was added
pub at_parted : {A : Type 0} (l : List A) (i j : ℕ) (a b u : A) → get_elem? (set l i a ++ b ∷ []) j ≡ some u
    → ((j ≡ i) × (a ≡ u)) ⊎ (((j ≢ i) × (get_elem? l j ≡ some u)) ⊎ ((j ≡ length l) × (b ≡ u)))
at_parted l i j a b u e =
    ⊎_elim (λ h. ⊎_elim (λ t. inl t) (λ t. inr (inl t)) (at_set l i j a u h)) (λ h. inr (inr (h.0 ∙ length-set l i a, h.1))) (at_end (set l i a) b u j e)

-- and where two were written
pub at_joined : {A : Type 0} (l : List A) (i o j : ℕ) (a b u : A) → get_elem? (set (set l i a) o b) j ≡ some u
    → ((j ≡ i) × (a ≡ u)) ⊎ (((j ≢ i) × (j ≢ o) × (get_elem? l j ≡ some u)) ⊎ ((j ≡ o) × (b ≡ u)))
at_joined l i o j a b u e =
    ⊎_elim (λ h. inr (inr h)) (λ h. ⊎_elim (λ t. inl t) (λ t. inr (inl (t.0, h.0, t.1))) (at_set l i j a u h.1)) (at_set (set l i a) o j b u e)

pub at_here : {A : Type 0} (l : List A) (i : ℕ) (v a : A) → get_elem? l i ≡ some v → get_elem? (set l i a) i ≡ some a
at_here [] i v a e = absurd (some-ne-none v (sym e))
at_here (x ∷ xs) zero v a e = refl
at_here (x ∷ xs) (suc i) v a e = at_here xs i v a e

-- a place of a list in which another is written, where a part of what stands there stays
pub new_at : {A B : Type 0} (f : A → B) (l : List A) (i j : ℕ) (v w u : A) → get_elem? l i ≡ some v → f w ≡ f v → get_elem? l j ≡ some u
    → (t : A) × (get_elem? (set l i w) j ≡ some t) × (f t ≡ f u)
new_at f [] i j v w u at same e = absurd (some-ne-none v (sym at))
new_at f (x ∷ xs) zero zero v w u at same e = (w, refl, same ∙ (ap f (sym (some-injective x v at)) ∙ ap f (some-injective x u e)))
new_at f (x ∷ xs) zero (suc j) v w u at same e = (u, e, refl)
new_at f (x ∷ xs) (suc i) zero v w u at same e = (u, e, refl)
new_at f (x ∷ xs) (suc i) (suc j) v w u at same e = new_at f xs i j v w u at same e

-- the seat of each number, after that of one number moved
abbrev pub shift : Option ℕ → ℕ → (ℕ → ℕ) → ℕ → ℕ
shift None x f k = f k
shift (Some n) x f k = cond (n == k) x (f k)

pub shift_here : (o : Option ℕ) (n x : ℕ) (f : ℕ → ℕ) → o ≡ Some n → shift o x f n ≡ x
shift_here None n x f e = absurd cc
shift_here (Some k) n x f e = let same : k ≡ n = cc in ap (λ (b : Bool). cond b x (f n)) (eq-eqb k n same)

pub shift_else : (o : Option ℕ) (n x : ℕ) (f : ℕ → ℕ) → o ≢ Some n → shift o x f n ≡ f n
shift_else None n x f ne = refl
shift_else (Some k) n x f ne = ap (λ (b : Bool). cond b x (f n)) (ne_eqb k n (λ e. ne (ap Some e)))

pub is_number : (o : Option ℕ) (n : ℕ) → (o ≡ Some n) ⊎ (o ≢ Some n)
is_number None n = inr (λ e. absurd cc)
is_number (Some k) n = go (k == n) refl
  where
    go : (b : Bool) → (k == n) ≡ b → (Some k ≡ Some n) ⊎ (Some k ≢ Some n)
    go true e = inl (ap Some (eqb-true k n e))
    go false e = inr (λ h. let same : k ≡ n = cc in let t = eq-eqb k n same in absurd cc)

pub used_here : (n m : ℕ) (used : List ℕ) → n ≡ m → is_used m (n ∷ used) ≡ true
used_here n m used e = ap (λ (b : Bool). b || is_used m used) (eq-eqb n m e)

pub used_more : (n m : ℕ) (used : List ℕ) → is_used m used ≡ true → is_used m (n ∷ used) ≡ true
used_more n m used h = ap (λ (b : Bool). (n == m) || b) h ∙ or_true (n == m)
  where
    or_true : (b : Bool) → (b || true) ≡ true
    or_true true = refl
    or_true false = refl

pub used_rest : (n m : ℕ) (used : List ℕ) → Some n ≢ Some m → is_used m (n ∷ used) ≡ true → is_used m used ≡ true
used_rest n m used ne h = sym (ap (λ (b : Bool). b || is_used m used) (ne_eqb n m (λ e. ne (ap Some e)))) ∙ h

used_kept : (b : Bool) (n m x : ℕ) (used : List ℕ) → (x == n) ≡ b → m ≢ n → is_used m (x ∷ used) ≡ true
    → (is_used m used ≡ true → is_used m (without (Some n) used) ≡ true) → is_used m (without (Some n) (x ∷ used)) ≡ true
used_kept true n m x used is ne h rec =
    let same : x ≡ n = eqb-true x n is in
    let no : (x == m) ≡ false = ne_eqb x m (λ e. ne (sym e ∙ same)) in
    ap (λ (b : Bool). is_used m (cond (not b) (x ∷ without (Some n) used) (without (Some n) used))) is ∙ rec (sym (ap (λ (b : Bool). b || is_used m used) no) ∙ h)
used_kept false n m x used is ne h rec =
    ap (λ (b : Bool). is_used m (cond (not b) (x ∷ without (Some n) used) (without (Some n) used))) is ∙ go (x == m) refl
  where
    go : (b : Bool) → (x == m) ≡ b → is_used m (x ∷ without (Some n) used) ≡ true
    go true e = ap (λ (c : Bool). c || is_used m (without (Some n) used)) e
    go false e = used_more x m (without (Some n) used) (rec (sym (ap (λ (c : Bool). c || is_used m used) e) ∙ h))

used_but : (n m : ℕ) (used : List ℕ) → m ≢ n → is_used m used ≡ true → is_used m (without (Some n) used) ≡ true
used_but n m [] ne h = absurd cc
used_but n m (x ∷ used) ne h = used_kept (x == n) n m x used refl ne h (used_but n m used ne)

-- another number stays in use
pub used_without : (o : Option ℕ) (m : ℕ) (used : List ℕ) → o ≢ Some m → is_used m used ≡ true → is_used m (without o used) ≡ true
used_without None m used ne h = h
used_without (Some n) m used ne h = used_but n m used (λ e. ne (ap Some (sym e))) h

used_shorter : (n m : ℕ) (used : List ℕ) → is_used m (without (Some n) used) ≡ true → (is_used m used ≡ true) × (n ≢ m)
used_shorter n m [] h = absurd cc
used_shorter n m (x ∷ used) h = go (x == n) refl (used_shorter n m used)
  where
    go : (b : Bool) → (x == n) ≡ b → (is_used m (without (Some n) used) ≡ true → (is_used m used ≡ true) × (n ≢ m)) → (is_used m (x ∷ used) ≡ true) × (n ≢ m)
    go true e rec = let r = rec (sym (ap (λ (b : Bool). is_used m (cond (not b) (x ∷ without (Some n) used) (without (Some n) used))) e) ∙ h) in (used_more x m used r.0, r.1)
    go false e rec =
        let h' : is_used m (x ∷ without (Some n) used) ≡ true = sym (ap (λ (b : Bool). is_used m (cond (not b) (x ∷ without (Some n) used) (without (Some n) used))) e) ∙ h in
        in_head (x == m) refl h' e rec
      where
        in_head : (b : Bool) → (x == m) ≡ b → is_used m (x ∷ without (Some n) used) ≡ true → (x == n) ≡ false
            → (is_used m (without (Some n) used) ≡ true → (is_used m used ≡ true) × (n ≢ m)) → (is_used m (x ∷ used) ≡ true) × (n ≢ m)
        in_head true e' h' e rec =
            let same : x ≡ m = eqb-true x m e' in (ap (λ (b : Bool). b || is_used m used) e', (λ nm. let t = eq-eqb x n (same ∙ sym nm) in absurd cc))
        in_head false e' h' e rec =
            let r = rec (sym (ap (λ (b : Bool). b || is_used m (without (Some n) used)) e') ∙ h') in (used_more x m used r.0, r.1)

-- what is in use without a number was in use with it, and is not that number
pub used_left : (o : Option ℕ) (m : ℕ) (used : List ℕ) → is_used m (without o used) ≡ true → (is_used m used ≡ true) × (o ≢ Some m)
used_left None m used h = (h, (λ e. absurd cc))
used_left (Some n) m used h = let r = used_shorter n m used h in (r.0, (λ e. let same : n ≡ m = cc in r.1 same))
