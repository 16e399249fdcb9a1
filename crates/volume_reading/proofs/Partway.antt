-- Places that are read, one after the other.
use Rattle.std.proofs.Common.{◌≡◌, ℕ, ◌+◌, ◌<◌, ◌≤◌, ◌%◌, ◌^◌, List, [], ◌∷◌, ◌++◌, length, get_or, refl, sym, ◌∙◌, ap, subst, inl, inr, append_assoc, append-nil, arith, Result, Ok, Err}
use Rattle.std.specs.Prelude.{OnOk}
use Rattle.std.proofs.Math.ListN.{length-append}
use Rattle.std.proofs.lemmas.List.{length_push}
use Rattle.records.specs.Told.{Told}
use Rattle.reissue.specs.declared.table.Table.{Table}
use Rattle.reissue.specs.Calls.{Truth}
use Rattle.volume_reading.specs.declared.place.Place.{Place}
use Rattle.volume_reading.specs.declared.reading.Stop.{Stop}
use Rattle.volume_reading.specs.declared.reading.Stop.TheVariants.{OutOfMemory}
use Rattle.volume_reading.specs.Pieces.{Piece, IsIn}
use Rattle.volume_reading.specs.Places.{AreAt, ArePlaces, AreTaken}
use Rattle.volume_reading.specs.Reading.{ReadsRange}
use Rattle.volume_reading.specs.ReadBack.{ReadsBack, ReadsPlace}
use Rattle.volume_reading.proofs.Pieces.{ends_at, ends_more, in_more}
use Rattle.volume_reading.proofs.Places.{at_more, taken_more}
use Rattle.volume_reading.proofs.Waiting.{back_cut, back_more}

-- So many places were read, and their pieces taken. What is left of messages and ids is told by two numbers.
pub record Partway {T : Type 0} (takes : T → Piece → T → Type 0) (first taker : T) (minor i : ℕ) (places : List Place) (old new : Table)
    (before after : List Told) (was is : Truth) (had left : ℕ) : Type 0 where
  pub done : List Piece
  pub past : List Place
  pub rest : List Place
  pub both : places ≡ past ++ rest
  pub count : length past ≡ i
  pub there : AreAt past done
  pub taken : AreTaken takes first done taker
  pub follow : ArePlaces (ends_at 0 done) (2 ^ 48) rest
  pub below : (place : ℕ) → IsIn done place → place < ends_at 0 done
  pub reads : ReadsBack (Ok tt) minor done old new before after was is
  pub spent : left ≤ had + ends_at 0 done

-- none was read yet
pub partway_none : {T : Type 0} (takes : T → Piece → T → Type 0) (taker : T) (minor : ℕ) (places : List Place) (t : Table)
    (told : List Told) (was : Truth) (had : ℕ) → ArePlaces 0 (2 ^ 48) places → ReadsBack (Ok tt) minor [] t t told told was was
    → Partway takes taker taker minor 0 places t t told told was was had had
partway_none takes taker minor places t told was had are reads = record {
  done = [];
  past = [];
  rest = places;
  both = refl;
  count = refl;
  there = tt;
  taken = refl;
  follow = are;
  below = λ place i. absurd i;
  reads = reads;
  spent = omega arith;
}

-- the place after some elements
at_seam : (ps : List Place) (p : Place) (more : List Place) (d : Place) → get_or (ps ++ p ∷ more) (length ps) d ≡ p
at_seam [] p more d = refl
at_seam (x ∷ ps) p more d = at_seam ps p more d

-- behind the last place none is read
abbrev none : Place
none = record { start = 0; size = 0 }

module _ {T : Type 0} (takes : T → Piece → T → Type 0) (first taker : T) (minor i : ℕ) (places : List Place) (s t : Table)
    (before between : List Told) (was mid : Truth) (had left : ℕ)
    (m : Partway takes first taker minor i places s t before between was mid had left) where
  module _ (lt : i < length places) where
    -- the next place
    abbrev p : Place
    p = get_or places i none

    -- it is the first of those that are left
    next : (tail : List Place) × (m.rest ≡ p ∷ tail)
    next = by m.rest m.both where
      by : (rest : List Place) → places ≡ m.past ++ rest → (tail : List Place) × (rest ≡ p ∷ tail)
      by [] e = absurd (let l = ap (λ (l : List Place). length l) (e ∙ append-nil m.past) in omega (arith, l, lt, m.count))
      by (x ∷ tail) e =
          let here : p ≡ x = ap (λ (l : List Place). get_or l i none) e ∙ ap (λ (n : ℕ). get_or (m.past ++ x ∷ tail) n none) (sym m.count)
          ∙ at_seam m.past x tail none in
          (tail, ap (λ (y : Place). y ∷ tail) (sym here))

    follows : ArePlaces (ends_at 0 m.done) (2 ^ 48) (p ∷ next.0)
    follows = subst (λ (l : List Place). ArePlaces (ends_at 0 m.done) (2 ^ 48) l) next.1 m.follow

    pub next_start : p.start % 512 ≡ 0
    next_start = follows.1

    pub next_whole : p.size % 512 ≡ 0
    next_whole = follows.2

    pub next_most : p.size ≤ 1048576
    next_most = follows.3

    pub next_bound : p.start + p.size ≤ 2 ^ 48
    next_bound = follows.4

    pub next_enough : left + p.size ≤ had + 2 ^ 48
    next_enough = let f = follows in omega (arith, m.spent, f.0, f.4)

    -- once it was read, and its piece taken
    pub partway_more : (u : Table) (after : List Told) (then : Truth) (more : T) (few : ℕ)
        → ReadsPlace takes (Ok tt) minor p taker more t u between after mid then → few ≤ left + p.size
        → Partway takes first more minor (i + 1) places s u before after was then had few
    partway_more u after then more few x le =
        let q : Piece = record { start = p.start; bytes = x.bytes } in
        let f = follows in
        let e : ends_at 0 (m.done ++ q ∷ []) ≡ p.start + p.size = ends_more 0 m.done q ∙ ap (λ (n : ℕ). p.start + n) x.long in
        record {
          done = m.done ++ q ∷ [];
          past = m.past ++ p ∷ [];
          rest = next.0;
          both = m.both ∙ ap (λ (l : List Place). m.past ++ l) next.1 ∙ sym (append_assoc m.past (p ∷ []) next.0);
          count = length_push m.past p ∙ ap (λ (n : ℕ). n + 1) m.count;
          there = at_more m.past m.done p q m.there refl x.long;
          taken = taken_more takes first m.done taker q more m.taken x.took;
          follow = subst (λ (n : ℕ). ArePlaces n (2 ^ 48) next.0) (sym e) f.5;
          below = λ place here. elim (in_more m.done q place here) [
            | inl k ↦ let b = m.below place k in omega (arith, b, e, f.0)
            | inr k ↦ omega (arith, k.1, e, x.long)
          ];
          reads = back_more minor m.done q s t u before between after was mid then m.reads
              (subst (λ (n : ℕ). ReadsRange (Ok tt) minor p.start n x.bytes t u between after mid then) (sym x.long) x.reads)
              (λ place here. let b = m.below place here in omega (arith, b, f.0));
          spent = omega (arith, e, f.0, m.spent, le);
        }

  -- the next one wasn't read, and its piece not taken
  pub partway_cut : (stop : Stop) (p : Place) (u : Table) (after : List Told) (then : Truth) (more : T)
      → ReadsPlace takes (Err stop) minor p taker more t u between after mid then
      → (◌≡◌ {A = Result (Unit {0}) Stop} (Err stop) (Err OutOfMemory) → ⊥)
      → (pieces : List Piece) × AreTaken takes first pieces more × OnOk {T = Unit {0}} {E = Stop} (Err stop) (AreAt places pieces)
      × ReadsBack (Err stop) minor pieces s u before after was then
  partway_cut stop p u after then more x memory = (
    m.done,
    subst (λ (w : T). AreTaken takes first m.done w) (sym x.stopped) m.taken,
    tt,
    back_cut stop minor p.start p.size x.bytes m.done m.done s t u before between after was mid then m.reads x.reads memory,
  )

  -- all were read
  pub partway_all : length places ≤ i
      → (pieces : List Piece) × AreTaken takes first pieces taker × OnOk {T = Unit {0}} {E = Stop} (Ok tt) (AreAt places pieces)
      × ReadsBack (Ok tt) minor pieces s t before between was mid
  partway_all all = (m.done, m.taken, subst (λ (l : List Place). AreAt l m.done) (by m.rest m.both) m.there, m.reads)
    where
      by : (rest : List Place) → places ≡ m.past ++ rest → m.past ≡ places
      by [] e = sym (e ∙ append-nil m.past)
      by (x ∷ tail) e =
          absurd (let l = ap (λ (l : List Place). length l) e ∙ length-append m.past (x ∷ tail) in omega (arith, l, m.count, all))
