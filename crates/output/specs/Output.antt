-- What goes out.
use Rattle.std.specs.Prelude.{◌≡◌, ◌<◌, ℕ, List, ◌++◌, length, Option, IfSome, codes}
use Rattle.std.specs.Io.KnownBytes.{Appends}
use Rattle.output.specs.declared.Told.{Told}
use Rattle.output.specs.declared.Told.TheVariants.{Whole, Partly, NoMemory, NoMemoryPartly}

-- what went out is a beginning of the text, and some of it is left
abbrev pub AppendsPart : Option (List ℕ) → Option (List ℕ) → List ℕ → Type 0
AppendsPart old new text = (part : List ℕ) × (rest : List ℕ) × (text ≡ part ++ rest) × (0 < length rest) × Appends old new part

-- the line of a text
abbrev pub line_of : List ℕ → List ℕ
line_of text = text ++ codes "\n"

-- the line that goes out where there is no memory for another
abbrev pub no_memory_line : List ℕ
no_memory_line = codes "OutOfMemory\n"

-- exactly what went out of a text that is known, by how the telling of it ended
abbrev pub Tells : Option (List ℕ) → Told → Option (List ℕ) → Option (List ℕ) → Type 0
Tells text Whole old new = IfSome text (λ t. Appends old new (line_of t))
Tells text Partly old new = IfSome text (λ t. AppendsPart old new (line_of t))
Tells text NoMemory old new = Appends old new no_memory_line
Tells text NoMemoryPartly old new = AppendsPart old new no_memory_line
