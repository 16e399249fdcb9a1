-- The parts of a text before another.
use Rattle.std.proofs.Common.{◌≡◌, ℕ, Bool, List, [], ◌∷◌, ◌++◌, length, true, false, refl, ap, ◌∙◌, sym, inl, inr}
use Rattle.std.specs.Prelude.{◌==◌, if◌then◌else◌}
use Rattle.std.proofs.lemmas.Bool.{cond-true, cond-false, cases_Bool}
use Rattle.tree.specs.Names.{Name}
use Rattle.tree.specs.Walk.{parts_of, parts_after}

-- a part that ends here, or none, and then others
ended : (b : Bool) (part : Name) (rest : List Name) → (if b then rest else part ∷ rest) ≡ (if b then [] else part ∷ []) ++ rest
ended true part rest = refl
ended false part rest = refl

-- the same after a part that has begun
after : (part : Name) (xs ys : List ℕ) → parts_after part (xs ++ 47 ∷ ys) ≡ parts_after part xs ++ parts_of ys
after part [] ys = ended (length part == 0) part (parts_of ys)
after part (x ∷ xs) ys = elim (cases_Bool (x == 47)) [
  | inl e ↦
      cond-true (x == 47) (if length part == 0 then parts_after [] (xs ++ 47 ∷ ys) else part ∷ parts_after [] (xs ++ 47 ∷ ys))
      (parts_after (part ++ x ∷ []) (xs ++ 47 ∷ ys)) e
      ∙ ap (λ (ps : List Name). if length part == 0 then ps else part ∷ ps) (after [] xs ys)
      ∙ both (length part == 0) (parts_after [] xs)
      ∙ sym (ap (λ (ps : List Name). ps ++ parts_of ys) (cond-true (x == 47)
      (if length part == 0 then parts_after [] xs else part ∷ parts_after [] xs) (parts_after (part ++ x ∷ []) xs) e))
  | inr e ↦
      cond-false (x == 47) (if length part == 0 then parts_after [] (xs ++ 47 ∷ ys) else part ∷ parts_after [] (xs ++ 47 ∷ ys))
      (parts_after (part ++ x ∷ []) (xs ++ 47 ∷ ys)) e
      ∙ after (part ++ x ∷ []) xs ys
      ∙ sym (ap (λ (ps : List Name). ps ++ parts_of ys) (cond-false (x == 47)
      (if length part == 0 then parts_after [] xs else part ∷ parts_after [] xs) (parts_after (part ++ x ∷ []) xs) e))
] where
  both : (b : Bool) (ps : List Name) → (if b then ps ++ parts_of ys else part ∷ (ps ++ parts_of ys))
      ≡ (if b then ps else part ∷ ps) ++ parts_of ys
  both true ps = refl
  both false ps = refl

-- The parts of two texts with a slash between are those of the first, and then those of the second: so a link's target stands
-- before the text that is left to walk.
pub joined : (target rest : List ℕ) → parts_of (target ++ 47 ∷ rest) ≡ parts_of target ++ parts_of rest
joined target rest = after [] target rest
