-- Runs of neighbouring units.
use Rattle.std.specs.Prelude.{ℕ, zero, suc, ◌+◌, List, [], ◌∷◌, ◌++◌, map, take, drop}
use Rattle.stable.specs.Disk.{Changes, numbered}

-- neighbouring units: the number of the first, and the bytes of each
abbrev pub Run : Type 0
Run = ℕ × List (List ℕ)

-- a run for each change
abbrev pub singly : Changes → List Run
singly ws = map (λ w. (w.0, w.1 ∷ [])) ws

-- neighbouring units from one on, in so many runs of sixteen, the last of which may have fewer
abbrev pub by_sixteen : ℕ → ℕ → List (List ℕ) → List Run
by_sixteen zero at units = []
by_sixteen (suc k) at units = (at, take 16 units) ∷ by_sixteen k (at + 16) (drop 16 units)

-- the changes that runs are
abbrev pub spread : List Run → Changes
spread [] = []
spread (r ∷ runs) = numbered r.0 r.1 ++ spread runs
