-- The reads that are pending, by their tickets. Lists alone.
use Rattle.std.proofs.Common.{◌≡◌, ◌≢◌, ◌⊎◌, ℕ, suc, ◌+◌, ◌<◌, ◌≤◌, List, [], ◌∷◌, ◌++◌, length, get_or, Bool, true, false, cond, refl, sym, ◌∙◌, ap, subst, inl, inr, arith, Option, Some, None}
use Rattle.std.proofs.lemmas.Bool.{cond-true, cond-false, eq-eqb, ne_eqb, cases_eq}
use Rattle.std.specs.Prelude.{◌==◌, remove, position}
use Rattle.std.specs.List.{position_from}
use Rattle.std.proofs.lemmas.Iterator.Adapters.{position_from-zero}
use Rattle.reissue.specs.Moves.{Begun, put}
use Rattle.reissue.proofs.Maps.{is_put}
use Rattle.volume_reading.specs.declared.sought.Sought.{Sought}
use Rattle.volume_reading.specs.Sought.{is_for, piece, piece_at, piece_size, pieces_of, place_of, without_ticket, AreDistinct, AreBefore}

-- what a search from n on finds
pub record IsFound (t n i : ℕ) (ss : List Sought) : Type 0 where
  pub at : ℕ
  pub is : i ≡ n + at
  pub within : at < length ss
  pub left : without_ticket t ss ≡ remove ss at
  pub place : (d : Sought) → place_of ss t ≡ Some ((get_or ss at d).at)

-- it finds the first with the ticket
found_from : (t n i : ℕ) (ss : List Sought) → position_from (is_for t) n ss ≡ Some i → IsFound t n i ss
found_from t n i [] e = cc
found_from t n i (s ∷ ss) e = by (s.ticket == t) refl (found_from t (n + 1) i ss) e where
  some_same : {a b : ℕ} → Some a ≡ Some b → a ≡ b
  some_same h = cc

  by : (b : Bool) → (s.ticket == t) ≡ b → (position_from (is_for t) (n + 1) ss ≡ Some i → IsFound t (n + 1) i ss)
      → cond b (Some n) (position_from (is_for t) (n + 1) ss) ≡ Some i → IsFound t n i (s ∷ ss)
  by true here rest h = record {
    at = 0;
    is = sym (some_same h) ∙ omega arith;
    within = omega arith;
    left = rw here refl;
    place = λ d. rw here refl;
  }
  by false here rest h =
      let f = rest h in
      record {
        at = suc f.at;
        is = omega (arith, f.is);
        within = omega (arith, f.within);
        left = rw here (ap (λ (l : List Sought). s ∷ l) f.left);
        place = λ d. rw here (f.place d);
      }

-- or none has it
none_from : (t n : ℕ) (ss : List Sought) → position_from (is_for t) n ss ≡ None → (place_of ss t ≡ None) × (without_ticket t ss ≡ ss)
none_from t n [] e = (refl, refl)
none_from t n (s ∷ ss) e = by (s.ticket == t) refl (none_from t (n + 1) ss) e where
  by : (b : Bool) → (s.ticket == t) ≡ b → (position_from (is_for t) (n + 1) ss ≡ None → (place_of ss t ≡ None) × (without_ticket t ss ≡ ss))
      → cond b (Some n) (position_from (is_for t) (n + 1) ss) ≡ None
      → (place_of (s ∷ ss) t ≡ None) × (without_ticket t (s ∷ ss) ≡ s ∷ ss)
  by true here rest h = cc
  by false here rest h = let f = rest h in (rw here f.0, rw here (ap (λ (l : List Sought). s ∷ l) f.1))

-- a search from the front
pub found : (t i : ℕ) (ss : List Sought) → position (is_for t) ss ≡ Some i → IsFound t 0 i ss
found t i ss e = found_from t 0 i ss (sym (position_from-zero (is_for t) ss) ∙ e)

pub none_found : (t : ℕ) (ss : List Sought) → position (is_for t) ss ≡ None → (place_of ss t ≡ None) × (without_ticket t ss ≡ ss)
none_found t ss e = none_from t 0 ss (sym (position_from-zero (is_for t) ss) ∙ e)

-- a ticket that one has
pub place_here : (s : Sought) (ss : List Sought) (t : ℕ) → t ≡ s.ticket → place_of (s ∷ ss) t ≡ Some s.at
place_here s ss t e = cond-true (s.ticket == t) (Some s.at) (place_of ss t) (eq-eqb s.ticket t (sym e))

-- a ticket that the first hasn't
place_there : (s : Sought) (ss : List Sought) (t : ℕ) → s.ticket ≢ t → place_of (s ∷ ss) t ≡ place_of ss t
place_there s ss t h = cond-false (s.ticket == t) (Some s.at) (place_of ss t) (ne_eqb s.ticket t h)

-- where a ticket is found the first has it or the others
place_cases : (s : Sought) (ss : List Sought) (t : ℕ) (o : Option ℕ) → place_of (s ∷ ss) t ≡ o
    → ((s.ticket ≡ t) × (Some s.at ≡ o)) ⊎ ((s.ticket ≢ t) × (place_of ss t ≡ o))
place_cases s ss t o h = elim (cases_eq s.ticket t) [
  | inl e ↦ inl (e, sym (place_here s ss t (sym e)) ∙ h)
  | inr n ↦ inr (n, sym (place_there s ss t n) ∙ h)
]

none_some : {a : ℕ} → Some a ≡ None → ⊥
none_some h = cc

-- one more, with a new ticket
pub place_new : (ss : List Sought) (s : Sought) → place_of ss s.ticket ≡ None → place_of (ss ++ s ∷ []) s.ticket ≡ Some s.at
place_new [] s h = place_here s [] s.ticket refl
place_new (x ∷ ss) s h = elim (place_cases x ss s.ticket None h) [
  | inl e ↦ absurd (none_some e.1)
  | inr n ↦ place_there x (ss ++ s ∷ []) s.ticket n.0 ∙ place_new ss s n.1
]

-- the others stay
pub place_other : (ss : List Sought) (s : Sought) (t : ℕ) → t ≢ s.ticket → place_of (ss ++ s ∷ []) t ≡ place_of ss t
place_other [] s t h = place_there s [] t (λ e. h (sym e))
place_other (x ∷ ss) s t h = ap (λ (o : Option ℕ). cond (x.ticket == t) (Some x.at) o) (place_other ss s t h)

-- a new ticket leaves them distinct
pub distinct_new : (ss : List Sought) (s : Sought) → place_of ss s.ticket ≡ None → AreDistinct ss → AreDistinct (ss ++ s ∷ [])
distinct_new [] s h d = (refl, tt)
distinct_new (x ∷ ss) s h d = elim (place_cases x ss s.ticket None h) [
  | inl e ↦ absurd (none_some e.1)
  | inr n ↦ (place_other ss s x.ticket n.0 ∙ d.0, distinct_new ss s n.1 d.1)
]

-- one out: its ticket is free
pub place_gone : (ss : List Sought) (t : ℕ) → AreDistinct ss → place_of (without_ticket t ss) t ≡ None
place_gone [] t d = refl
place_gone (x ∷ ss) t d = elim (cases_eq x.ticket t) [
  | inl e ↦ ap (λ (l : List Sought). place_of l t) (cond-true (x.ticket == t) ss (x ∷ without_ticket t ss) (eq-eqb x.ticket t e))
      ∙ ap (place_of ss) (sym e) ∙ d.0
  | inr n ↦ ap (λ (l : List Sought). place_of l t) (cond-false (x.ticket == t) ss (x ∷ without_ticket t ss) (ne_eqb x.ticket t n))
      ∙ place_there x (without_ticket t ss) t n ∙ place_gone ss t d.1
]

-- the others stay
pub place_stays : (ss : List Sought) (t m : ℕ) → m ≢ t → place_of (without_ticket t ss) m ≡ place_of ss m
place_stays [] t m h = refl
place_stays (x ∷ ss) t m h = elim (cases_eq x.ticket t) [
  | inl e ↦ ap (λ (l : List Sought). place_of l m) (cond-true (x.ticket == t) ss (x ∷ without_ticket t ss) (eq-eqb x.ticket t e))
      ∙ sym (place_there x ss m (λ same. h (sym same ∙ e)))
  | inr n ↦ ap (λ (l : List Sought). place_of l m) (cond-false (x.ticket == t) ss (x ∷ without_ticket t ss) (ne_eqb x.ticket t n))
      ∙ ap (λ (o : Option ℕ). cond (x.ticket == m) (Some x.at) o) (place_stays ss t m h)
]

-- they stay distinct
pub distinct_gone : (ss : List Sought) (t : ℕ) → AreDistinct ss → AreDistinct (without_ticket t ss)
distinct_gone [] t d = tt
distinct_gone (x ∷ ss) t d = elim (cases_eq x.ticket t) [
  | inl e ↦ subst AreDistinct (sym (cond-true (x.ticket == t) ss (x ∷ without_ticket t ss) (eq-eqb x.ticket t e))) d.1
  | inr n ↦ subst AreDistinct (sym (cond-false (x.ticket == t) ss (x ∷ without_ticket t ss) (ne_eqb x.ticket t n)))
      (place_stays ss t x.ticket n ∙ d.0, distinct_gone ss t d.1)
]

-- and before the same place
pub before_gone : (size next : ℕ) (ss : List Sought) (t : ℕ) → AreBefore size next ss → AreBefore size next (without_ticket t ss)
before_gone size next [] t d = tt
before_gone size next (x ∷ ss) t d = elim (cases_eq x.ticket t) [
  | inl e ↦ subst (AreBefore size next) (sym (cond-true (x.ticket == t) ss (x ∷ without_ticket t ss) (eq-eqb x.ticket t e))) d.2
  | inr n ↦ subst (AreBefore size next) (sym (cond-false (x.ticket == t) ss (x ∷ without_ticket t ss) (ne_eqb x.ticket t n)))
      (d.0, d.1, before_gone size next ss t d.2)
]

-- and before a later one
pub before_later : (size next after : ℕ) (ss : List Sought) → next ≤ after → AreBefore size next ss → AreBefore size after ss
before_later size next after [] le d = tt
before_later size next after (x ∷ ss) le d = (d.0, omega (arith, d.1, le), before_later size next after ss le d.2)

-- with one more
pub before_new : (size next : ℕ) (ss : List Sought) (s : Sought) → AreBefore size next ss → s.at ≤ size → s.at + piece_size size s.at ≤ next
    → AreBefore size next (ss ++ s ∷ [])
before_new size next [] s d a b = (a, b, tt)
before_new size next (x ∷ ss) s d a b = (d.0, d.1, before_new size next ss s d.2 a b)

-- where one is found it lies before that place
pub before_at : (size next : ℕ) (ss : List Sought) (t at : ℕ) → AreBefore size next ss → place_of ss t ≡ Some at
    → (at ≤ size) × (at + piece_size size at ≤ next)
before_at size next [] t at d h = cc
before_at size next (x ∷ ss) t at d h = elim (place_cases x ss t (Some at) h) [
  | inl e ↦ let same : x.at ≡ at = cc in subst (λ (a : ℕ). (a ≤ size) × (a + piece_size size a ≤ next)) same (d.0, d.1)
  | inr n ↦ before_at size next ss t at d.2 n.1
]

-- a piece that is there
pub piece_there : (start size t : ℕ) (r : Begun) (ss : List Sought) → pieces_of start size ss t ≡ Some r
    → (at : ℕ) × (place_of ss t ≡ Some at) × (piece start size at ≡ r)
piece_there start size t r ss h = by (place_of ss t) refl h where
  some_same : {a b : Begun} → Some a ≡ Some b → a ≡ b
  some_same e = cc

  by : (o : Option ℕ) → place_of ss t ≡ o → piece_at start size o ≡ Some r → (at : ℕ) × (place_of ss t ≡ Some at) × (piece start size at ≡ r)
  by None e k = cc
  by (Some at) e k = (at, e, some_same k)

-- no piece, no place
pub no_piece : (start size t : ℕ) (ss : List Sought) → pieces_of start size ss t ≡ None → place_of ss t ≡ None
no_piece start size t ss h = by (place_of ss t) refl h where
  by : (o : Option ℕ) → place_of ss t ≡ o → piece_at start size o ≡ None → place_of ss t ≡ None
  by None e k = e
  by (Some at) e k = cc

-- one more
pub pieces_new : (start size : ℕ) (ss : List Sought) (s : Sought) → place_of ss s.ticket ≡ None
    → pieces_of start size (ss ++ s ∷ []) ≡ put (pieces_of start size ss) s.ticket (Some (piece start size s.at))
pieces_new start size ss s h = is_put (pieces_of start size ss) (pieces_of start size (ss ++ s ∷ [])) s.ticket (Some (piece start size s.at))
    (ap (piece_at start size) (place_new ss s h)) (λ m n. ap (piece_at start size) (place_other ss s m n))

-- one less
pub pieces_gone : (start size : ℕ) (ss : List Sought) (t : ℕ) → AreDistinct ss
    → pieces_of start size (without_ticket t ss) ≡ put (pieces_of start size ss) t None
pieces_gone start size ss t d = is_put (pieces_of start size ss) (pieces_of start size (without_ticket t ss)) t None
    (ap (piece_at start size) (place_gone ss t d)) (λ m n. ap (piece_at start size) (place_stays ss t m n))
