-- Pieces at their places, and pieces that are taken, one more at a time.
use Rattle.std.proofs.Common.{◌≡◌, ℕ, ◌≤◌, List, [], ◌∷◌, ◌++◌, length, take, refl, ◌∙◌, subst, arith, Result}
use Rattle.std.specs.Prelude.{OnOk, OnErr}
use Rattle.std.proofs.lemmas.List.{length-take-le}
use Rattle.records.specs.Told.{Told}
use Rattle.reissue.specs.declared.table.Table.{Table}
use Rattle.reissue.specs.Calls.{Truth}
use Rattle.volume_reading.specs.declared.place.Place.{Place}
use Rattle.volume_reading.specs.declared.reading.Stop.{Stop}
use Rattle.volume_reading.specs.Pieces.{Piece}
use Rattle.volume_reading.specs.Places.{AreAt, AreTaken}
use Rattle.volume_reading.specs.Reading.{ReadsRange}
use Rattle.volume_reading.specs.ReadBack.{ReadsPlace}

-- one more piece at one more place
pub at_more : (ps : List Place) (qs : List Piece) (p : Place) (q : Piece) → AreAt ps qs → q.start ≡ p.start → length q.bytes ≡ p.size
    → AreAt (ps ++ p ∷ []) (qs ++ q ∷ [])
at_more [] [] p q a start size = (start, size, tt)
at_more [] (y ∷ qs) p q a start size = absurd a
at_more (x ∷ ps) [] p q a start size = absurd a
at_more (x ∷ ps) (y ∷ qs) p q a start size = (a.0, a.1, at_more ps qs p q a.2 start size)

-- one more piece was taken
pub taken_more : {T : Type 0} (takes : T → Piece → T → Type 0) (s : T) (qs : List Piece) (t : T) (q : Piece) (u : T) → AreTaken takes s qs t
    → takes t q u → AreTaken takes s (qs ++ q ∷ []) u
taken_more takes s [] t q u a k = (u, subst (λ x. takes x q u) a k, refl)
taken_more takes s (y ∷ qs) t q u a k = (a.0, a.1, taken_more takes a.0 qs t q u a.2 k)

-- the first bytes of a buffer were read into
pub read_there : {T : Type 0} (takes : T → Piece → T → Type 0) (result : Result (Unit {0}) Stop) (minor : ℕ) (p : Place)
    (buffer bytes : List ℕ) (taker more : T) (old new : Table) (before after : List Told) (was is : Truth) → length buffer ≡ 1048576 → p.size ≤ 1048576
    → length bytes ≡ length (take p.size buffer)
    → ReadsRange result minor p.start (length (take p.size buffer)) bytes old new before after was is
    → OnOk result (takes taker (record { start = p.start; bytes = bytes }) more) → OnErr result (more ≡ taker)
    → ReadsPlace takes result minor p taker more old new before after was is
read_there takes result minor p buffer bytes taker more old new before after was is full most many reads took stopped =
    let e : length (take p.size buffer) ≡ p.size = length-take-le p.size buffer (omega (arith, full, most)) in
    record {
      bytes = bytes;
      long = many ∙ e;
      reads = subst (λ (n : ℕ). ReadsRange result minor p.start n bytes old new before after was is) e reads;
      took = took;
      stopped = stopped;
    }
