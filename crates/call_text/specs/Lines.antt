-- What the lines of a text say, one after the other.
use Rattle.std.specs.Prelude.{ℕ, ◌+◌, ◌==◌, nat_lt, Bool, List, ◌∷◌, [], length, if◌then◌else◌, Option, Some, None, Result, Ok, Err}
use Rattle.call_text.specs.Words.{lines_of}

-- what a line says before what the lines after it say; a line that says nothing is bad by its number
abbrev pub said_before : {A : Type 0} → Option A → ℕ → Result (List A) ℕ → Result (List A) ℕ
said_before None number later = Err number
said_before (Some said) number (Ok later) = Ok (said ∷ later)
said_before (Some said) number (Err bad) = Err bad

-- what lines say from this number on, each as `said` has it by its number and its bytes, or the number of the first that says nothing;
-- after the last newline nothing may follow
abbrev pub said_by_lines : {A : Type 0} → (ℕ → List ℕ → Option A) → ℕ → List (List ℕ) → Result (List A) ℕ
said_by_lines said number [] = Err number
said_by_lines said number (last ∷ []) = if length last == 0 then Ok [] else Err number
said_by_lines said number (line ∷ next ∷ more) = said_before (said number line) number (said_by_lines said (number + 1) (next ∷ more))

-- what a text's lines say, or the number, from 1, of its first bad one
abbrev pub said_by : {A : Type 0} → (ℕ → List ℕ → Option A) → List ℕ → Result (List A) ℕ
said_by said text = said_by_lines said 1 (lines_of text)

-- whether a first line, of this number, can be read
abbrev pub has_first : {A : Type 0} → ℕ → Result (List A) ℕ → Bool
has_first number (Ok said) = nat_lt 0 (length said)
has_first number (Err bad) = nat_lt number bad
