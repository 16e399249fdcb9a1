-- What one write changes.
use Rattle.std.proofs.Common.{◌≡◌, ◌≢◌, ℕ, ◌<◌, Bool, true, false, List, length, refl, arith, get_or-set_other, get_or-set_same, length-set}
use Rattle.std.specs.Prelude.{slice_set, if◌then◌else◌}
use Rattle.std.proofs.lemmas.Bool.Decides.{nat_tests}
use Rattle.media.specs.Contents.{MediaState, sector, accepts, written}
use Rattle.media.specs.Laws.{ChangesOneSector}

-- an accepted generation is the current one
pub accepts_current : (m : MediaState) (g n : ℕ) → accepts m g n ≡ true → g ≡ m.generation
accepts_current m g n e = grind (arith, nat_tests)

-- an accepted sector exists
pub accepts_exists : (m : MediaState) (g n : ℕ) → accepts m g n ≡ true → n < length m.sectors
accepts_exists m g n e = grind (arith, nat_tests)

-- a sector that exists is accepted under the current generation
pub accepts-true : (m : MediaState) (g n : ℕ) → g ≡ m.generation → n < length m.sectors → accepts m g n ≡ true
accepts-true m g n e less = grind (arith, nat_tests)

-- another generation is not accepted
pub accepts-false : (m : MediaState) (g n : ℕ) → g ≢ m.generation → accepts m g n ≡ false
accepts-false m g n other = grind (arith, nat_tests)

-- the generation stays
pub generation-written : (m : MediaState) (g n : ℕ) (bytes : List ℕ) → (written m g n bytes).generation ≡ m.generation
generation-written m g n bytes = at (accepts m g n)
  where
    at : (b : Bool) → (if b then record m { sectors = slice_set m.sectors n bytes } else m).generation ≡ m.generation
    at true = refl
    at false = refl

-- the number of sectors stays
pub length-written : (m : MediaState) (g n : ℕ) (bytes : List ℕ) → length (written m g n bytes).sectors ≡ length m.sectors
length-written m g n bytes = at (accepts m g n)
  where
    at : (b : Bool) → length (if b then record m { sectors = slice_set m.sectors n bytes } else m).sectors ≡ length m.sectors
    at true = simp length-set
    at false = refl

-- an accepted write sets its sector
pub sector-written_same : (m : MediaState) (g n : ℕ) (bytes : List ℕ) → accepts m g n ≡ true → sector (written m g n bytes) n ≡ bytes
sector-written_same m g n bytes e = let less : n < length m.sectors = accepts_exists m g n e in rw e (rw get_or-set_same refl)

-- the other sectors stay
pub sector-written_other : (m : MediaState) (g n k : ℕ) (bytes : List ℕ) → k ≢ n → sector (written m g n bytes) k ≡ sector m k
sector-written_other m g n k bytes other = at (accepts m g n)
  where
    at : (b : Bool) → sector (if b then record m { sectors = slice_set m.sectors n bytes } else m) k ≡ sector m k
    at true = rw get_or-set_other refl
    at false = refl

-- the four together
pub changes_one_sector : ChangesOneSector
changes_one_sector = record {
  same = sector-written_same;
  others = sector-written_other;
  number = length-written;
  generation = generation-written;
}
