-- The first part of a path, and the rest.
use Rattle.std.proofs.Common.{◌≡◌, ◌<◌, ◌+◌, ◌-◌, ℕ, suc, Bool, List, [], ◌∷◌, ◌++◌, length, take, drop, refl, sym, ap, ◌∙◌, arith, inl, inr, append_assoc}
use Rattle.std.specs.Prelude.{◌==◌, not, if◌then◌else◌}
use Rattle.std.specs.List.{prefix_len}
use Rattle.std.proofs.lemmas.Bool.{cond-true, cond-false, cases_Bool, ne_eqb}
use Rattle.std.proofs.lemmas.List.{append-nil, length-append}
use Rattle.path.specs.Lasts.{last_after}
use Rattle.tree.specs.Names.{Name}
use Rattle.tree.specs.Walk.{parts_of, parts_after, last_part, all_but_last}

-- slashes before the first part don't count
pub skip_slashes : (xs : List ℕ) → parts_of xs ≡ parts_of (drop (prefix_len (λ c. c == 47) xs) xs)
skip_slashes [] = refl
skip_slashes (x ∷ xs) = elim (cases_Bool (x == 47)) [
  | inl e ↦
      cond-true (x == 47) (parts_after [] xs) (parts_after (x ∷ []) xs) e ∙ skip_slashes xs
      ∙ sym (ap (λ (n : ℕ). parts_of (drop n (x ∷ xs))) (cond-true (x == 47) (1 + prefix_len (λ c. c == 47) xs) 0 e ∙ one_more (prefix_len (λ c. c == 47) xs)))
  | inr e ↦ sym (ap (λ (n : ℕ). parts_of (drop n (x ∷ xs))) (cond-false (x == 47) (1 + prefix_len (λ c. c == 47) xs) 0 e))
] where
  one_more : (n : ℕ) → 1 + n ≡ suc n
  one_more n = omega arith

-- and where no part follows them, nothing does
nothing_left : (xs : List ℕ) → prefix_len (λ c. not (c == 47)) (drop (prefix_len (λ c. c == 47) xs) xs) ≡ 0 → drop (prefix_len (λ c. c == 47) xs) xs ≡ []
nothing_left [] h = refl
nothing_left (x ∷ xs) h = elim (cases_Bool (x == 47)) [
  | inl e ↦
      let is : drop (prefix_len (λ c. c == 47) (x ∷ xs)) (x ∷ xs) ≡ drop (prefix_len (λ c. c == 47) xs) xs =
      ap (λ (n : ℕ). drop n (x ∷ xs)) (cond-true (x == 47) (1 + prefix_len (λ c. c == 47) xs) 0 e ∙ one_more (prefix_len (λ c. c == 47) xs)) in
      is ∙ nothing_left xs (ap (prefix_len (λ c. not (c == 47))) (sym is) ∙ h)
  | inr e ↦
      let is : drop (prefix_len (λ c. c == 47) (x ∷ xs)) (x ∷ xs) ≡ x ∷ xs = ap (λ (n : ℕ). drop n (x ∷ xs)) (cond-false (x == 47) (1 + prefix_len (λ c. c == 47) xs) 0 e) in
      let some : prefix_len (λ c. not (c == 47)) (x ∷ xs) ≡ 1 + prefix_len (λ c. not (c == 47)) xs =
      ap (λ (b : Bool). if not b then 1 + prefix_len (λ c. not (c == 47)) xs else 0) e in
      let none : prefix_len (λ c. not (c == 47)) (x ∷ xs) ≡ 0 = ap (prefix_len (λ c. not (c == 47))) (sym is) ∙ h in
      absurd (omega (arith, some, none))
] where
  one_more : (n : ℕ) → 1 + n ≡ suc n
  one_more n = omega arith

pub no_part : (xs : List ℕ) → prefix_len (λ c. not (c == 47)) (drop (prefix_len (λ c. c == 47) xs) xs) ≡ 0 → parts_of xs ≡ []
no_part xs h = skip_slashes xs ∙ ap parts_of (nothing_left xs h)

-- a part that has begun goes on to the next slash
pub goes_on : (part : Name) (xs : List ℕ) → 0 < length part + prefix_len (λ c. not (c == 47)) xs
    → parts_after part xs ≡ (part ++ take (prefix_len (λ c. not (c == 47)) xs) xs) ∷ parts_of (drop (prefix_len (λ c. not (c == 47)) xs) xs)
goes_on part [] h =
    cond-false (length part == 0) [] (part ∷ []) (ne_eqb (length part) 0 (λ e. omega (arith, e, h))) ∙ ap (λ (p : Name). p ∷ []) (sym (append-nil part))
goes_on part (x ∷ xs) h = elim (cases_Bool (x == 47)) [
  | inl e ↦
      let none : prefix_len (λ c. not (c == 47)) (x ∷ xs) ≡ 0 = ap (λ (b : Bool). if not b then 1 + prefix_len (λ c. not (c == 47)) xs else 0) e in
      let long : length part ≡ 0 → ⊥ = λ (z : length part ≡ 0). omega (arith, z, h, none) in
      cond-true (x == 47) (if length part == 0 then parts_after [] xs else part ∷ parts_after [] xs) (parts_after (part ++ x ∷ []) xs) e
      ∙ cond-false (length part == 0) (parts_after [] xs) (part ∷ parts_after [] xs) (ne_eqb (length part) 0 long)
      ∙ ap (λ (ps : List Name). part ∷ ps) (sym (cond-true (x == 47) (parts_after [] xs) (parts_after (x ∷ []) xs) e))
      ∙ ap (λ (p : Name). p ∷ parts_of (x ∷ xs)) (sym (append-nil part))
      ∙ sym (ap (λ (n : ℕ). (part ++ take n (x ∷ xs)) ∷ parts_of (drop n (x ∷ xs))) none)
  | inr e ↦
      let more : prefix_len (λ c. not (c == 47)) (x ∷ xs) ≡ suc (prefix_len (λ c. not (c == 47)) xs) =
      ap (λ (b : Bool). if not b then 1 + prefix_len (λ c. not (c == 47)) xs else 0) e ∙ one_more (prefix_len (λ c. not (c == 47)) xs) in
      cond-false (x == 47) (if length part == 0 then parts_after [] xs else part ∷ parts_after [] xs) (parts_after (part ++ x ∷ []) xs) e
      ∙ goes_on (part ++ x ∷ []) xs (omega (arith, length-append part (x ∷ [])))
      ∙ ap (λ (p : Name). p ∷ parts_of (drop (prefix_len (λ c. not (c == 47)) xs) xs)) (append_assoc part (x ∷ []) (take (prefix_len (λ c. not (c == 47)) xs) xs))
      ∙ sym (ap (λ (n : ℕ). (part ++ take n (x ∷ xs)) ∷ parts_of (drop n (x ∷ xs))) more)
] where
  one_more : (n : ℕ) → 1 + n ≡ suc n
  one_more n = omega arith

-- The first part of a path and the rest, behind its slashes.
pub first_part : (xs ys : List ℕ) (end : ℕ) → ys ≡ drop (prefix_len (λ c. c == 47) xs) xs → end ≡ prefix_len (λ c. not (c == 47)) ys → 0 < end
    → parts_of xs ≡ take end ys ∷ parts_of (drop end ys)
first_part xs ys end e f l =
    skip_slashes xs ∙ ap parts_of (sym e) ∙ goes_on [] ys (omega (arith, f, l))
    ∙ sym (ap (λ (n : ℕ). take n ys ∷ parts_of (drop n ys)) f)

-- the last part by reading on
pub last_is : (xs : List Name) → last_after [] xs ≡ last_part xs
last_is [] = refl
last_is (x ∷ xs) = go x xs
  where
    go : (y : Name) (ys : List Name) → last_after y ys ≡ last_part (y ∷ ys)
    go y [] = refl
    go y (z ∷ zs) = go z zs

-- all parts but the last are one fewer
pub fewer : (xs : List Name) → take (length xs - 1) xs ≡ all_but_last xs
fewer [] = refl
fewer (x ∷ []) = refl
fewer (x ∷ y ∷ ys) = ap (λ (n : ℕ). take n (x ∷ y ∷ ys)) (less (length ys)) ∙ ap (λ (ps : List Name). x ∷ ps) (sym (ap (λ (n : ℕ). take n (y ∷ ys)) (same (length ys))) ∙ fewer (y ∷ ys))
  where
    less : (n : ℕ) → suc (suc n) - 1 ≡ suc n
    less n = omega arith

    same : (n : ℕ) → suc n - 1 ≡ n
    same n = omega arith
