-- Which words are a call.
use Rattle.std.specs.Prelude.{ℕ, List, [], ◌∷◌, if◌then◌else◌, Option, Some, None, codes, replicate}
use Rattle.std.specs.Option.{option_map, option_zip}
use Rattle.std.specs.Str.{bytes_eq}
use Rattle.tree.specs.declared.Call.{Call}
use Rattle.tree.specs.declared.Call.TheVariants.{Open, Write, Seek, Chown, Utime}
use Rattle.tree.specs.declared.Whence.{Whence}
use Rattle.tree.specs.declared.Whence.TheVariants.{Set, Cur, End}
use Rattle.call_text.specs.Words.{number_of, mode_of, offset_of, path_of}
use Rattle.call_text.specs.Bytes.{byte_of, flags_of}
use Rattle.call_text.specs.WrittenCalls.{at, from_root, call_of_none, call_of_one, call_of_two, count, word}

-- a user or a group
abbrev pub id : List ℕ → Option ℕ
id w = number_of 65535 w

-- where a seek counts from
abbrev pub whence_of : List ℕ → Option Whence
whence_of w =
    if bytes_eq w (codes "set") then Some Set
    else if bytes_eq w (codes "cur") then Some Cur
    else if bytes_eq w (codes "end") then Some End else None

-- three words that all can be read
abbrev pub all : {A B C : Type 0} → (A → B → C → Call) → Option A → Option B → Option C → Option Call
all make a b c = option_map (λ p. make p.0 p.1.0 p.1.1) (option_zip a (option_zip b c))

-- a call of three words
abbrev pub call_of_three : List ℕ → List ℕ → List ℕ → List ℕ → Option Call
call_of_three name a b c =
    if bytes_eq name (codes "open") then all (λ p flags mode. Open (from_root p) flags mode) (path_of a) (flags_of b) (mode_of c)
    else if bytes_eq name (codes "fill") then all (λ fd n byte. Write fd (at (replicate n byte))) (word a) (count b) (byte_of c)
    else if bytes_eq name (codes "seek") then all Seek (word a) (whence_of b) (offset_of c)
    else if bytes_eq name (codes "chown") then all (λ p uid gid. Chown (from_root p) uid gid) (path_of a) (id b) (id c)
    else if bytes_eq name (codes "utime") then all (λ p atime mtime. Utime (from_root p) atime mtime) (path_of a) (word b) (word c) else None

-- the call that words name
abbrev pub call_of : List (List ℕ) → Option Call
call_of (name ∷ []) = call_of_none name
call_of (name ∷ a ∷ []) = call_of_one name a
call_of (name ∷ a ∷ b ∷ []) = call_of_two name a b
call_of (name ∷ a ∷ b ∷ c ∷ []) = call_of_three name a b c
call_of _ = None
