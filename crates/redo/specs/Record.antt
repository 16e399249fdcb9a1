-- What the log's units say.
use Rattle.std.specs.Prelude.{ℕ, zero, suc, ◌+◌, ◌-◌, ◌*◌, ◌/◌, List, [], ◌∷◌, ◌++◌, length, map, take, drop, replicate, Bool, ◌==◌, ◌&&◌, if◌then◌else◌, Option, Some, None, codes}
use Rattle.std.specs.Int.{to_be_bytes, from_be_bytes, w32, w64}
use Rattle.std.specs.List.{flat_map, zip}
use Rattle.std.specs.Str.{bytes_eq}
use Rattle.stable.specs.Disk.{Contents, Changes, put}

-- The log: records from unit 0 on, one behind the other, and a closed gate behind the last one. A record: its first unit is its gate, the
-- second its head, and then its directory, the changed units' numbers in four bytes each, 1024 in a unit, and then those units' bytes. The
-- gate is open where its bytes are those of the head.

-- a head: the name of the image that it is for, and how many units have changed
abbrev pub head : ℕ → ℕ → List ℕ
head name count = codes "MFSREDO1" ++ to_be_bytes w64 name ++ to_be_bytes w32 count ++ replicate 4076 0

-- a gate that isn't open
abbrev pub closed : List ℕ
closed = replicate 4096 0

abbrev pub name_in : List ℕ → ℕ
name_in bytes = from_be_bytes w64 (take 8 (drop 8 bytes))

abbrev pub count_in : List ℕ → ℕ
count_in bytes = from_be_bytes w32 (take 4 (drop 16 bytes))

-- whether these bytes are some head
abbrev pub is_head : List ℕ → Bool
is_head bytes = bytes_eq bytes (head (name_in bytes) (count_in bytes))

-- how many units hold so many numbers
abbrev pub directory_units : ℕ → ℕ
directory_units count = (count + 1023) / 1024

-- where the first changed unit's bytes lie
abbrev pub first_data : ℕ → ℕ
first_data count = 2 + directory_units count

-- numbers in a unit
abbrev pub numbers_unit : List ℕ → List ℕ
numbers_unit ns = flat_map (to_be_bytes w32) ns ++ replicate (4096 - 4 * length ns) 0

-- numbers in so many units
abbrev pub directory : ℕ → List ℕ → List (List ℕ)
directory zero ns = []
directory (suc k) ns = numbers_unit (take 1024 ns) ∷ directory k (drop 1024 ns)

-- the numbers that bytes hold
abbrev pub numbers_in : List ℕ → List ℕ
numbers_in (a ∷ b ∷ c ∷ d ∷ rest) = from_be_bytes w32 (a ∷ b ∷ c ∷ d ∷ []) ∷ numbers_in rest
numbers_in _ = []

-- how many units a record of so many changes has
abbrev pub record_units : ℕ → ℕ
record_units count = first_data count + count

-- the units of a record behind its gate, for these changes
abbrev pub body : ℕ → Changes → List (List ℕ)
body name changes =
    head name (length changes) ∷ directory (directory_units (length changes)) (map (λ w. w.0) changes) ++ map (λ w. w.1) changes

-- so many units from one on
abbrev pub window : Contents → ℕ → ℕ → List (List ℕ)
window c at zero = []
window c at (suc k) = c at ∷ window c (at + 1) k

-- the numbers that a record's directory holds
abbrev pub numbers_of : Contents → ℕ → List ℕ
numbers_of log count = take count (flat_map numbers_in (window log 2 (directory_units count)))

-- the changes that a record says
abbrev pub changes_in : Contents → ℕ → Changes
changes_in log count = zip (numbers_of log count) (window log (first_data count) count)

-- It asks for nothing, it says changes to be done, or it is for another image.
pub data Standing : Type 0 where
  Nothing : Standing
  Redo : List (ℕ × List ℕ) → Standing
  Foreign : Standing

abbrev pub record_open : ℕ → Contents → Standing
record_open name log = if name_in (log 1) == name then Redo (changes_in log (count_in (log 1))) else Foreign

-- how a log stands by its first record alone
abbrev pub record_standing : ℕ → Contents → Standing
record_standing name log = if bytes_eq (log 0) (log 1) && is_head (log 1) then record_open name log else Nothing

-- the units of a log from one on
abbrev pub from : ℕ → Contents → Contents
from at log n = log (at + n)

-- where the record behind the one at this place begins
abbrev pub next_place : Contents → ℕ → ℕ
next_place log at = at + record_units (count_in (log (at + 1)))

-- a record's changes, and those behind it; none where it isn't open for this image
abbrev pub with_rest : Standing → Changes → Changes
with_rest Nothing rest = []
with_rest (Redo changes) rest = changes ++ rest
with_rest Foreign rest = []

-- the changes of a record that is open for this image
abbrev pub says_of : Standing → Changes
says_of Nothing = []
says_of (Redo changes) = changes
says_of Foreign = []

-- what records say from a place on, so many at most: those up to the first gate that isn't open
unfoldable pub said_from : ℕ → ℕ → Contents → ℕ → Changes
said_from zero name log at = []
said_from (suc k) name log at = with_rest (record_standing name (from at log)) (said_from k name log (next_place log at))

-- the most records that a log has
abbrev pub most : ℕ
most = 4096

-- how a log stands, by its first record and what all say
abbrev pub all_said : Standing → Changes → Standing
all_said Nothing said = Nothing
all_said (Redo changes) said = Redo said
all_said Foreign said = Foreign

-- how a log stands
abbrev pub standing : ℕ → Contents → Standing
standing name log = all_said (record_standing name (from 0 log)) (said_from most name log 0)

-- the image that is to be found, by how the log stands; none where the log is for another one
abbrev pub redone : Standing → Contents → Option Contents
redone Nothing image = Some image
redone (Redo changes) image = Some (put changes image)
redone Foreign image = None

-- what a recovery finds
abbrev pub recovered : ℕ → Contents → Contents → Option Contents
recovered name log image = redone (standing name log) image
