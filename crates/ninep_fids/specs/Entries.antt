-- The entries of a directory, as they are told.
use Rattle.std.specs.Prelude.{ℕ, suc, ◌+◌, ◌-◌, nat_lt, Bool, List, [], ◌∷◌, ◌++◌, length, take, drop}
use Rattle.std.specs.Prelude.{if◌then◌else◌, ◌||◌, false, true, ◌≡◌, ◌⊎◌, ◌<◌, ◌≤◌, Result, MatchResult}
use Rattle.std.specs.Global.{Vec}
use Rattle.std.specs.List.{AllByRecursion, concat}
use Rattle.errno.specs.declared.Errno.TheVariants.{ENOMEM}
use Rattle.ninep.specs.Fields.{One, Eight, Number, Text, fields_bytes}
use Rattle.ninep.specs.Replies.{qid_fields}
use Rattle.talks.specs.Hearing.{eio}
use Rattle.talks.specs.declared.refused.Refused.{Refused}
use Rattle.talks.specs.declared.refused.Refused.TheVariants.{By}
use Rattle.ninep_fids.specs.declared.entries.Entries.{Entries}

-- The bytes of an entry: a qid that has the number of its inode alone, the offset of the next entry, no type (the client asks for
-- attributes), and its name.
abbrev pub entry_bytes : ℕ → ℕ → List ℕ → List ℕ
entry_bytes inode next name = fields_bytes (qid_fields (record { kind = 0; version = 0; path = inode })
    ++ Number Eight next ∷ Number One 0 ∷ Text name ∷ [])

-- those of each entry, where the first of them stands at this offset
abbrev pub bytes_each : ℕ → List (ℕ × List ℕ) → List (List ℕ)
bytes_each offset [] = []
bytes_each offset (e ∷ es) = entry_bytes e.0 (offset + 1) e.1 ∷ bytes_each (offset + 1) es

-- the longest beginning of these, each of them whole, that has at most so many bytes
abbrev pub fitting : ℕ → List (List ℕ) → List ℕ
fitting room [] = []
fitting room (e ∷ es) = if nat_lt room (length e) then [] else e ++ fitting (room - length e) es

-- What fits is the first so many of these, whole, and no answer with room for so many bytes cuts them: either these are all, or with one
-- more there are too many bytes.
abbrev pub EntriesStandWhole : Type 0
EntriesStandWhole = (limit most : ℕ) (es : List (List ℕ)) → limit ≤ most → (n : ℕ) × (take most (fitting limit es) ≡ concat (take n es))
    × (length (fitting limit es) ≤ limit) × ((n ≡ length es) ⊎ (limit < length (concat (take (n + 1) es))))

-- how many of these fit
abbrev pub how_many : ℕ → List (List ℕ) → ℕ
how_many room [] = 0
how_many room (e ∷ es) = if nat_lt room (length e) then 0 else suc (how_many (room - length e) es)

-- What is told of these entries, the first of which stands at this offset, by one answer after the other, each with its room, and each from
-- the offset on that the last entry of the one before it has for the next.
abbrev pub told_in_turn : List ℕ → ℕ → List (ℕ × List ℕ) → List ℕ
told_in_turn [] offset es = []
told_in_turn (room ∷ rooms) offset es =
    let n = how_many room (bytes_each offset es) in
    fitting room (bytes_each offset es) ++ told_in_turn rooms (offset + n) (drop n es)

-- whether one has a longer name than names of the server are
abbrev pub any_long : List (ℕ × List ℕ) → Bool
any_long [] = false
any_long (e ∷ es) = nat_lt 60 (length e.1) || any_long es

-- Where each answer has room for the longest entry, as many answers as there are entries tell each entry, once.
abbrev pub EachIsToldOnce : Type 0
EachIsToldOnce = (rooms : List ℕ) (es : List (ℕ × List ℕ)) → AllByRecursion (λ room. 84 ≤ room) rooms → any_long es ≡ false
    → length es ≤ length rooms → told_in_turn rooms 0 es ≡ concat (bytes_each 0 es)

-- what stands at the end, where these entries come behind those that a row has
abbrev pub stands : Entries → List (List ℕ) → List ℕ
stands row es = row.bytes.items ++ (if row.full then [] else fitting (row.limit - length row.bytes.items) es)

-- the bytes that tell these entries, or why they aren't told
abbrev pub AreTold : ℕ → ℕ → List (ℕ × List ℕ) → Result (Vec ℕ) Refused → Type 0
AreTold offset limit es r = MatchResult r
    (λ bytes. (any_long es ≡ false) × (bytes.items ≡ fitting limit (bytes_each offset es)))
    (λ e. ((e ≡ eio) × (any_long es ≡ true)) ⊎ (e ≡ By ENOMEM))
