-- The places of a range that lie in marked units, and the pieces that were read there.
use Rattle.std.proofs.Common.{◌≡◌, ℕ, ◌+◌, ◌*◌, ◌/◌, ◌<◌, ◌≤◌, ◌∙◌, ◌⊎◌, List, [], ◌∷◌, ◌++◌, Bool, true, false, sym, ap, subst}
use Rattle.std.proofs.Common.{arith, inl, inr}
use Rattle.std.specs.Prelude.{◌%◌, min}
use Rattle.std.proofs.lemmas.Bool.{cases_lt, false≢true}
use Rattle.changes.specs.Units.{is_marked}
use Rattle.volume_reading.specs.declared.place.Place.{Place}
use Rattle.volume_reading.specs.Pieces.{Piece, ArePieces, IsIn}
use Rattle.volume_reading.specs.Places.{ArePlaces, AreAt}
use Rattle.shared_server.specs.Finishing.{ArePiecesOf, ArePlacesOf, IsAmong, IsPlaceOf}

-- places that reach no further than one byte reach no further than a later one
pub places_to : (from to more : ℕ) (ps : List Place) → to ≤ more → ArePlaces from to ps → ArePlaces from more ps
places_to from to more [] le a = tt
places_to from to more (p ∷ ps) le a = (a.0, a.1, a.2, a.3, omega (arith, le, a.4), places_to (p.start + p.size) to more ps le a.5)

-- one place more, behind them
places_push : (from mid to : ℕ) (ps : List Place) (p : Place) → from ≤ mid → ArePlaces from mid ps → mid ≤ p.start → p.start % 512 ≡ 0
    → p.size % 512 ≡ 0 → p.size ≤ 1048576 → p.start + p.size ≤ to → ArePlaces from to (ps ++ p ∷ [])
places_push from mid to [] p le a behind whole long few within = (omega (arith, le, behind), whole, long, few, within, tt)
places_push from mid to (q ∷ ps) p le a behind whole long few within = (
  a.0,
  a.1,
  a.2,
  a.3,
  omega (arith, a.4, behind, within),
  places_push (q.start + q.size) mid to ps p a.4 a.5 behind whole long few within,
)

-- a byte of the first ones
among_first : (ps more : List Place) (k : ℕ) → IsAmong ps k → IsAmong (ps ++ more) k
among_first [] more k i = absurd i
among_first (p ∷ ps) more k i = elim i [
  | inl h ↦ inl h
  | inr h ↦ inr (among_first ps more k h)
]

-- a byte of the last one
among_last : (ps : List Place) (p : Place) (k : ℕ) → p.start ≤ k → k < p.start + p.size → IsAmong (ps ++ p ∷ []) k
among_last [] p k from to = inl (from, to)
among_last (q ∷ ps) p k from to = inr (among_last ps p k from to)

-- a byte of them all is one of the first or of the last
among_either : (ps : List Place) (p : Place) (k : ℕ) → IsAmong (ps ++ p ∷ []) k → IsAmong ps k ⊎ ((p.start ≤ k) × (k < p.start + p.size))
among_either [] p k i = elim i [
  | inl h ↦ inr h
  | inr h ↦ absurd h
]
among_either (q ∷ ps) p k i = elim i [
  | inl h ↦ inl (inl h)
  | inr h ↦ elim (among_either ps p k h) [
    | inl first ↦ inl (inr first)
    | inr last ↦ inr last
  ]
]

-- the places in the units before this one
pub record AreUpTo (units : List Bool) (size next : ℕ) (places : List Place) : Type 0 where
  pub ordered : ArePlaces 0 (min (4096 * next) size) places
  pub all : (k : ℕ) → k < size → k < 4096 * next → is_marked units (k / 4096) ≡ true → IsAmong places k
  pub only : (k : ℕ) → IsAmong places k → is_marked units (k / 4096) ≡ true
  pub few : next ≤ (size + 4095) / 4096

-- none yet
pub up_to_none : (units : List Bool) (size : ℕ) (places : List Place) → places ≡ [] → AreUpTo units size 0 places
up_to_none units size places none = subst (λ (l : List Place). AreUpTo units size 0 l) (sym none) (record {
  ordered = tt;
  all = λ k low under is. absurd (omega (arith, under));
  only = λ k i. absurd i;
  few = omega arith;
})

-- one unit more, that isn't marked
pub up_to_next : (units : List Bool) (size next : ℕ) (places : List Place) → next < (size + 4095) / 4096 → is_marked units next ≡ false
    → AreUpTo units size next places → AreUpTo units size (next + 1) places
up_to_next units size next places less none a = record {
  ordered = places_to 0 (min (4096 * next) size) (min (4096 * (next + 1)) size) places (omega arith) a.ordered;
  all = λ k low under is. elim (cases_lt k (4096 * next)) [
    | inl before ↦ a.all k low before is
    | inr there ↦
        let same : k / 4096 ≡ next = omega (arith, there, under) in
        absurd (false≢true (sym none ∙ ap (λ (n : ℕ). is_marked units n) (sym same) ∙ is))
  ];
  only = a.only;
  few = omega (arith, less);
}

-- units more, that are marked, 256 at most
pub up_to_end : (units : List Bool) (size next end : ℕ) (places : List Place) (p : Place) → size % 512 ≡ 0 → next < end → end ≤ next + 256
    → end ≤ (size + 4095) / 4096 → IsPlaceOf next end size p → ((n : ℕ) → next ≤ n → n < end → is_marked units n ≡ true)
    → AreUpTo units size next places → AreUpTo units size end (places ++ p ∷ [])
up_to_end units size next end places p whole less most few is each a = record {
  ordered = places_push 0 (min (4096 * next) size) (min (4096 * end) size) places p (omega arith) a.ordered
      (let s = is.start in omega (arith, s)) (let s = is.start in omega (arith, s))
      (let s = is.start in let b = is.behind in omega (arith, s, b, whole, less, few))
      (let s = is.start in let b = is.behind in omega (arith, s, b, most)) (let b = is.behind in omega (arith, b));
  all = λ k low under marked. elim (cases_lt k (4096 * next)) [
    | inl before ↦ among_first places (p ∷ []) k (a.all k low before marked)
    | inr there ↦ among_last places p k (let s = is.start in omega (arith, s, there))
        (let b = is.behind in omega (arith, b, low, under))
  ];
  only = λ k i. elim (among_either places p k i) [
    | inl first ↦ a.only k first
    | inr last ↦
        let s = is.start in
        let b = is.behind in
        each (k / 4096) (omega (arith, s, last.0)) (omega (arith, b, last.1))
  ];
  few = few;
}

-- all of them
pub up_to_all : (units : List Bool) (size next : ℕ) (places : List Place) → (size + 4095) / 4096 ≤ next → AreUpTo units size next places
    → ArePlacesOf units size places
up_to_all units size next places past a = record {
  ordered = places_to 0 (min (4096 * next) size) size places (omega arith) a.ordered;
  all = λ k low marked. a.all k low (omega (arith, past, low)) marked;
  only = a.only;
}

-- pieces at places lie as these do
at_pieces : (from to : ℕ) (places : List Place) (pieces : List Piece) → AreAt places pieces → ArePlaces from to places
    → ArePieces from to pieces
at_pieces from to [] [] at a = tt
at_pieces from to [] (q ∷ qs) at a = absurd at
at_pieces from to (p ∷ ps) [] at a = absurd at
at_pieces from to (p ∷ ps) (q ∷ qs) at a = (
  omega (arith, at.0, a.0),
  omega (arith, at.0, a.1),
  omega (arith, at.1, a.2),
  omega (arith, at.0, at.1, a.4),
  subst (λ (n : ℕ). ArePieces n to qs) (omega (arith, at.0, at.1)) (at_pieces (p.start + p.size) to ps qs at.2 a.5),
)

-- a byte of the places is one of the pieces
at_in : (places : List Place) (pieces : List Piece) (k : ℕ) → AreAt places pieces → IsAmong places k → IsIn pieces k
at_in [] pieces k at i = absurd i
at_in (p ∷ ps) [] k at i = absurd at
at_in (p ∷ ps) (q ∷ qs) k at i = elim i [
  | inl h ↦ inl (omega (arith, at.0, h.0), omega (arith, at.0, at.1, h.1))
  | inr h ↦ inr (at_in ps qs k at.2 h)
]

-- and back
at_back : (places : List Place) (pieces : List Piece) (k : ℕ) → AreAt places pieces → IsIn pieces k → IsAmong places k
at_back [] [] k at i = i
at_back [] (q ∷ qs) k at i = absurd at
at_back (p ∷ ps) [] k at i = absurd i
at_back (p ∷ ps) (q ∷ qs) k at i = elim i [
  | inl h ↦ inl (omega (arith, at.0, h.0), omega (arith, at.0, at.1, h.1))
  | inr h ↦ inr (at_back ps qs k at.2 h)
]

-- so the pieces at the places of marked units are those of these units
pub at_places : (units : List Bool) (size : ℕ) (places : List Place) (pieces : List Piece) → AreAt places pieces
    → ArePlacesOf units size places → ArePiecesOf units size pieces
at_places units size places pieces at of = record {
  ordered = at_pieces 0 size places pieces at of.ordered;
  all = λ k low marked. at_in places pieces k at (of.all k low marked);
  only = λ k i. of.only k (at_back places pieces k at i);
}
