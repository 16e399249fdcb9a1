-- What is said of nodes that were given back.
use Rattle.std.specs.Prelude.{◌≡◌, ℕ, zero, suc, List, ◌++◌, Option, Some, codes, decimal}
use Rattle.output.specs.declared.Told.{Told}
use Rattle.output.specs.Output.{Tells}
use Rattle.release.specs.Released.{Releases}

-- how many there were
abbrev pub released_text : ℕ → List ℕ
released_text count = codes "released " ++ decimal count ++ codes " files without a name"

-- that goes out as a line, where there were any
abbrev pub TellsCount : {E : Type 0} → (E → Option (List ℕ)) → ℕ → E → E → Type 0
TellsCount contents zero before after = after ≡ before
TellsCount contents (suc k) before after = (told : Told) × Tells (Some (released_text (suc k))) told (contents before) (contents after)

-- a program starts on another image in place of one, and tells it
abbrev pub Starts : {E : Type 0} → ℕ → List ℕ → List ℕ → (E → Option (List ℕ)) → E → E → Type 0
Starts minor old new contents before after = (count : ℕ) × Releases minor count old new × TellsCount contents count before after
