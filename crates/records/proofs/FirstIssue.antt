-- A request is opened by the first issue of its id.
use Rattle.std.specs.Prelude.{◌≡◌, ◌⊎◌, ℕ, ◌+◌, ◌≤◌, List, [], ◌∷◌, ◌++◌, max, Bool, true, false, not, ◌||◌, ◌==◌, nat_lt, is_some, if◌then◌else◌, refl}
use Rattle.std.proofs.Common.{inl, inr, sym, ap, arith}
use Rattle.std.proofs.lemmas.Bool.Decides.{nat_tests}
use Rattle.message.specs.declared.endpoint.Endpoint.{Endpoint}
use Rattle.message.specs.declared.BlockRequest.{BlockRequest}
use Rattle.records.specs.Marks.{Mark, Started, Answered, Flush, GaveUp, Took, Issued, Fault}
use Rattle.records.specs.Open.{IsWellFormed, IsNew, IsAgain, IsIn, without_id, open_requests, greatest, moved_by}
use Rattle.records.specs.Laws.{was_issued}

-- of an issued id, the greatest is at least that
below : (x y id : ℕ) (b : Bool) → (b ≡ true → id ≤ y) → ((x == id) || b) ≡ true → id ≤ max y x
below x y id true ih h = let less : id ≤ y = ih refl in grind arith
below x y id false ih h = let e : x ≡ id = grind (arith, nat_tests) in grind arith

-- no issued id is above the greatest
issued_below : (marks : List Mark) (id : ℕ) → was_issued id marks ≡ true → id ≤ greatest marks
issued_below [] id h = cc
issued_below (Started e ∷ marks) id h = issued_below marks id h
issued_below (Answered a ∷ marks) id h = issued_below marks id h
issued_below (Flush ∷ marks) id h = issued_below marks id h
issued_below (GaveUp ∷ marks) id h = issued_below marks id h
issued_below (Took who now call reply ∷ marks) id h = issued_below marks id h
issued_below (Issued r e ∷ marks) id h = below r.id (greatest marks) id (was_issued id marks) (issued_below marks id) h
issued_below (Fault e cause ∷ marks) id h = issued_below marks id h

-- what is in a list with one more is in the list, or that one
in_and : (r s : BlockRequest) (rs : List BlockRequest) → IsIn r (rs ++ s ∷ []) → IsIn r rs ⊎ (r ≡ s)
in_and r s [] (inl e) = inr e
in_and r s [] (inr h) = absurd h
in_and r s (q ∷ rs) (inl e) = inl (inl e)
in_and r s (q ∷ rs) (inr h) = deeper (in_and r s rs h)
  where
    deeper : IsIn r rs ⊎ (r ≡ s) → IsIn r (q ∷ rs) ⊎ (r ≡ s)
    deeper (inl g) = inl (inr g)
    deeper (inr e) = inr e

-- what is left when one is kept or not was there
in_kept : (b : Bool) (r q : BlockRequest) (rs others : List BlockRequest) → (IsIn r others → IsIn r rs) → IsIn r (if b then rs else q ∷ others) → IsIn r (q ∷ rs)
in_kept true r q rs others more h = inr h
in_kept false r q rs others more (inl e) = inl e
in_kept false r q rs others more (inr h) = inr (more h)

-- what is left when an id is taken out was there
in_without : (id : ℕ) (r : BlockRequest) (rs : List BlockRequest) → IsIn r (without_id id rs) → IsIn r rs
in_without id r [] h = h
in_without id r (q ∷ rs) h = in_kept (q.id == id) r q rs (without_id id rs) (in_without id r rs) h

-- a request is issued under its own id
same_id : (r s : BlockRequest) (b : Bool) → r ≡ s → ((s.id == r.id) || b) ≡ true
same_id r s b e = let same : s.id ≡ r.id = ap (λ (x : BlockRequest). x.id) (sym e) in grind (arith, nat_tests)

-- what is open after an issue was issued
opened : (b : Bool) (r s : BlockRequest) (rs : List BlockRequest) (was : Bool) → (IsIn r rs → was ≡ true) → IsIn r (if b then rs ++ s ∷ [] else rs) → ((s.id == r.id) || was) ≡ true
opened false r s rs was h i = let w : was ≡ true = h i in grind (arith, nat_tests)
opened true r s rs was h i = at (in_and r s rs i)
  where
    at : IsIn r rs ⊎ (r ≡ s) → ((s.id == r.id) || was) ≡ true
    at (inl g) = let w : was ≡ true = h g in grind (arith, nat_tests)
    at (inr e) = same_id r s was e

-- what is open after an answer was open before
answered : (b : Bool) (id : ℕ) (r : BlockRequest) (rs : List BlockRequest) → IsIn r (if b then without_id id rs else rs) → IsIn r rs
answered true id r rs h = in_without id r rs h
answered false id r rs h = h

-- each open request was issued
open_issued : (marks : List Mark) (r : BlockRequest) → IsIn r (open_requests marks) → was_issued r.id marks ≡ true
open_issued [] r h = absurd h
open_issued (Started e ∷ marks) r h = open_issued marks r h
open_issued (Answered a ∷ marks) r h = open_issued marks r (answered (is_some (moved_by a marks)) a.id r (open_requests marks) h)
open_issued (Flush ∷ marks) r h = open_issued marks r h
open_issued (GaveUp ∷ marks) r h = open_issued marks r h
open_issued (Took who now call reply ∷ marks) r h = open_issued marks r h
open_issued (Issued s e ∷ marks) r h = opened (nat_lt (greatest marks) s.id) r s (open_requests marks) (was_issued r.id marks) (open_issued marks r) h
open_issued (Fault e cause ∷ marks) r h = open_issued marks r h

-- a new id was not issued before, and is above the greatest
first_of_new : (id greatest : ℕ) (was : Bool) → (was ≡ true → id ≤ greatest) → id ≡ greatest + 1 → nat_lt greatest id ≡ not was
first_of_new id greatest true h e = let less : id ≤ greatest = h refl in absurd (omega arith)
first_of_new id greatest false h e = grind (arith, nat_tests)

-- one that was issued is not above it
first_of_again : (id greatest : ℕ) (was : Bool) → (was ≡ true → id ≤ greatest) → was ≡ true → nat_lt greatest id ≡ not was
first_of_again id greatest true h e = let less : id ≤ greatest = h refl in grind (arith, nat_tests)
first_of_again id greatest false h e = cc

-- in a well-formed record a request is opened exactly by the first Issued mark with its id
pub opened_by_first_issue : (r : BlockRequest) (e : Endpoint) (marks : List Mark) → IsWellFormed (Issued r e ∷ marks)
    → nat_lt (greatest marks) r.id ≡ not (was_issued r.id marks)
opened_by_first_issue r e marks h = at h.1.1
  where
    at : IsNew marks r ⊎ IsAgain marks r → nat_lt (greatest marks) r.id ≡ not (was_issued r.id marks)
    at (inl new) = first_of_new r.id (greatest marks) (was_issued r.id marks) (issued_below marks r.id) new.next
    at (inr again) = first_of_again r.id (greatest marks) (was_issued r.id marks) (issued_below marks r.id) (open_issued marks r again.same)
