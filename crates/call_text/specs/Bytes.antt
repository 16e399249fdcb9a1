-- Bytes in hexadecimal, and the letters of open's flags.
use Rattle.std.specs.Prelude.{ℕ, ◌+◌, ◌*◌, ◌-◌, ◌%◌, Bool, List, ◌∷◌, [], ◌==◌, ◌&&◌, ◌||◌, nat_le, nat_lt, length, if◌then◌else◌, Option, Some, None, codes, count_ones}
use Rattle.std.specs.List.{list_all, list_any}
use Rattle.std.specs.Str.{bytes_eq}
use Rattle.tree.specs.declared.OpenFlags.{OpenFlags}

-- 0 to 9, a to f
abbrev pub is_hex_digit : ℕ → Bool
is_hex_digit b = (nat_le 48 b && nat_le b 57) || (nat_le 97 b && nat_le b 102)

-- pairs of lower-case hexadecimal digits
abbrev pub is_hex : List ℕ → Bool
is_hex text = list_all is_hex_digit text && (length text % 2 == 0)

-- the number of a digit: 0 for `0`, 10 for `a`; 0 for a byte that is none
abbrev pub hex_digit : ℕ → ℕ
hex_digit b =
    if nat_le 48 b && nat_le b 57 then b - 48
    else if nat_le 97 b && nat_le b 102 then b - 87 else 0

-- the byte of two digits
abbrev pub hex_pair : ℕ → ℕ → ℕ
hex_pair high low = 16 * hex_digit high + hex_digit low

-- the bytes that pairs of digits write
abbrev pub hex_bytes : List ℕ → List ℕ
hex_bytes [] = []
hex_bytes (high ∷ []) = []
hex_bytes (high ∷ low ∷ more) = hex_pair high low ∷ hex_bytes more

-- the byte that a word of two digits writes
abbrev pub byte_of : List ℕ → Option ℕ
byte_of (high ∷ low ∷ []) = if is_hex_digit high && is_hex_digit low then Some (hex_pair high low) else None
byte_of _ = None

-- the digits of a word's bytes: none of the word `-`
abbrev pub digits_in : List ℕ → Option (List ℕ)
digits_in word =
    if bytes_eq word (codes "-") then Some [] else if nat_lt 0 (length word) && is_hex word then Some word else None

-- a flag's bit where a word has its letter
abbrev pub bit_of : List ℕ → ℕ → ℕ → ℕ
bit_of word letter bit = if list_any (λ b. b == letter) word then bit else 0

-- the bits of the flags whose letters r, w, a, c, x and t a word has
abbrev pub flag_bits : List ℕ → ℕ
flag_bits word =
    bit_of word 114 1 + bit_of word 119 2 + bit_of word 97 4 + bit_of word 99 8 + bit_of word 120 16 + bit_of word 116 32

-- flags by their bits
abbrev pub flags : ℕ → OpenFlags
flags bits = record { 0 = bits }

-- the flags that a word names: `-` none; else it is no longer than the flags that it names are many, so that each of its bytes is the
-- letter of a flag, and no two are one
abbrev pub flags_of : List ℕ → Option OpenFlags
flags_of word =
    if bytes_eq word (codes "-") then Some (flags 0)
    else if nat_lt 0 (length word) && (count_ones (flag_bits word) == length word) then Some (flags (flag_bits word)) else None
