-- What a watch saw of the media, and how what was read back is beside them.
use Rattle.std.specs.Prelude.{◌≡◌, ℕ, ◌<◌, ◌+◌, ◌⊎◌, List, [], length, Option, Some, None, slice_index}
use Rattle.std.specs.List.{concat}
use Rattle.records.specs.Opening.{Opening, opening_range, volume_bytes}
use Rattle.driver_threads.specs.declared.watch.Likeness.{Likeness}
use Rattle.driver_threads.specs.declared.watch.Likeness.TheVariants.{Same, Differs}

-- the sectors as they stood when the watch began, and what came of all comparisons
pub record WatchState : Type 0 where
  pub sectors : List (List ℕ)
  pub likeness : Likeness

-- the sectors of the edition that a seat knows, none where it knows no edition
abbrev pub known_sectors : Option (ℕ × List (List ℕ)) → List (List ℕ)
known_sectors None = []
known_sectors (Some e) = e.1

-- it knows the edition of this number
abbrev pub IsNumbered : Option (ℕ × List (List ℕ)) → ℕ → Type 0
IsNumbered edition number = edition ≡ Some (number, known_sectors edition)

-- a range has these bytes from this place on
abbrev pub IsAt : List ℕ → ℕ → List ℕ → Type 0
IsAt range start bytes = (k : ℕ) → k < length bytes → slice_index range (start + k) ≡ slice_index bytes k

-- the volume's range of sectors has these bytes from this place on
abbrev pub IsThere : Opening → List (List ℕ) → ℕ → List ℕ → Type 0
IsThere v sectors start bytes = IsAt (volume_bytes (opening_range v) (concat sectors)) start bytes

-- bytes were compared with those that the volume's range of the media has from this place on
pub record Compares (v : Opening) (s : WatchState) (start : ℕ) (bytes : List ℕ) (t : WatchState) : Type 0 where
  pub sectors : t.sectors ≡ s.sectors
  pub same : t.likeness ≡ Same → (s.likeness ≡ Same) × IsThere v s.sectors start bytes
  pub differs : t.likeness ≡ Differs → (s.likeness ≡ Differs) ⊎ (IsThere v s.sectors start bytes → ⊥)
