-- What a text's lines and words are, and which words are numbers.
use Rattle.std.specs.Prelude.{ℕ, ℤ, pos, negsuc, zero, suc, Bool, List, ◌∷◌, [], ◌==◌, ◌&&◌, nat_le, nat_lt, length, if◌then◌else◌, Option, Some, None, option_and_then}
use Rattle.std.specs.List.{slice_split, list_all}
use Rattle.std.specs.Char.{is_digit}
use Rattle.std.specs.Option.{option_map}
use Rattle.std.specs.Str.Parse.{digits_value}

-- the parts of a text before, between and after its separators
abbrev pub parts_of : ℕ → List ℕ → List (List ℕ)
parts_of separator text = slice_split (λ b. b == separator) text

-- the words of a line, a space between two
abbrev pub words_of : List ℕ → List (List ℕ)
words_of line = parts_of 32 line

-- the lines of a text, each ended by a newline, and then the bytes that follow the last newline
abbrev pub lines_of : List ℕ → List (List ℕ)
lines_of text = parts_of 10 text

-- one digit of this radix or more, and nothing else
abbrev pub is_number : ℕ → List ℕ → Bool
is_number radix word = nat_lt 0 (length word) && list_all (λ b. is_digit b radix) word

-- the number that a word writes in this radix, where it is at most `most`
abbrev pub number_in : ℕ → ℕ → List ℕ → Option ℕ
number_in radix most word = if is_number radix word && nat_le (digits_value radix word) most then Some (digits_value radix word) else None

-- the number that a word writes in decimal
abbrev pub number_of : ℕ → List ℕ → Option ℕ
number_of most word = number_in 10 most word

-- the mode that a word writes in octal, at most 177777
abbrev pub mode_of : List ℕ → Option ℕ
mode_of word = number_in 8 65535 word

-- the number below zero of this size: none for zero, which isn't below it
abbrev pub negative : ℕ → Option ℤ
negative zero = None
negative (suc n) = Some (negsuc n)

-- the offset that a word writes in decimal, with `-` before a negative one: 64 bits with a sign
abbrev pub offset_of : List ℕ → Option ℤ
offset_of [] = None
offset_of (b ∷ word) =
    if b == 45 then option_and_then negative (number_of 9223372036854775808 word)
    else option_map pos (number_of 9223372036854775807 (b ∷ word))

-- a path: any bytes, one at least
abbrev pub path_of : List ℕ → Option (List ℕ)
path_of [] = None
path_of (b ∷ word) = Some (b ∷ word)
