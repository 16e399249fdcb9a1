-- The entries of a directory, as they are put one behind the other.
use Rattle.std.proofs.Common.{◌≡◌, ◌<◌, ◌≤◌, ◌+◌, ◌-◌, ◌∙◌, ◌⊎◌, inl, inr, min, ℕ, zero, suc, Bool, true, false, List, [], ◌∷◌, ◌++◌, length, map, drop, take}
use Rattle.std.proofs.Common.{if◌then◌else◌, ◌||◌, nat_lt, slice_index_or, refl, sym, ap, subst, append_assoc, arith}
use Rattle.std.proofs.lemmas.Bool.{cases_lt}
use Rattle.std.proofs.lemmas.Bool.Decides.{nat_tests}
use Rattle.std.proofs.lemmas.List.{append-nil, drop_all, length-append, length-drop, length-map, take_all}
use Rattle.std.specs.List.{AllByRecursion, concat}
use Rattle.ninep.specs.Fields.{One, Two, Four, Eight, number_bytes}
use Rattle.ninep.proofs.FieldLaws.{number_length}
use Rattle.tree.specs.declared.Entry.{Entry}
use Rattle.ninep_fids.specs.Directories.{entries_of}
use Rattle.ninep_fids.specs.Entries.{any_long, bytes_each, entry_bytes, fitting, how_many, stands, told_in_turn}
use Rattle.ninep_fids.specs.Entries.{EntriesStandWhole, EachIsToldOnce}
use Rattle.ninep_fids.specs.declared.entries.Entries.{Entries}

-- how many bytes an entry has
entry_length : (inode next : ℕ) (name : List ℕ) → length (entry_bytes inode next name) ≡ 24 + length name
entry_length inode next name =
    let n1 = number_bytes One 0 in
    let n4 = number_bytes Four 0 in
    let i8 = number_bytes Eight inode in
    let x8 = number_bytes Eight next in
    let n2 = number_bytes Two (length name) in
    omega (
      arith,
      length-append n1 (n4 ++ (i8 ++ (x8 ++ (n1 ++ ((n2 ++ name) ++ []))))),
      length-append n4 (i8 ++ (x8 ++ (n1 ++ ((n2 ++ name) ++ [])))),
      length-append i8 (x8 ++ (n1 ++ ((n2 ++ name) ++ []))),
      length-append x8 (n1 ++ ((n2 ++ name) ++ [])),
      length-append n1 ((n2 ++ name) ++ []),
      length-append (n2 ++ name) [],
      length-append n2 name,
      number_length One 0,
      number_length Four 0,
      number_length Eight inode,
      number_length Eight next,
      number_length Two (length name),
    )

-- an entry that has no room isn't told
no_room : (row : Entries) (e : List ℕ) (rest : List (List ℕ)) → row.limit < length row.bytes.items + length e → 0 < length e
    → stands (record row { full = true }) rest ≡ stands row (e ∷ rest)
no_room row e rest less some =
    let none : nat_lt (row.limit - length row.bytes.items) (length e) ≡ true = grind (arith, nat_tests) in
    rw none (either row.full) where
      either : (b : Bool) → row.bytes.items ++ [] ≡ row.bytes.items ++ (if b then [] else [])
      either true = refl
      either false = refl

pub entry_too_long : (row : Entries) (inode next len : ℕ) (name : List ℕ) (rest : List (List ℕ)) → len ≡ length row.bytes.items
    → row.limit < len + 24 + length name
    → stands (record row { full = true }) rest ≡ stands row (entry_bytes inode next name ∷ rest)
entry_too_long row inode next len name rest is less = no_room row (entry_bytes inode next name) rest
    (omega (arith, is, less, entry_length inode next name)) (omega (arith, entry_length inode next name))

-- one that has room stands behind the others
one_more : (row new : Entries) (e : List ℕ) (rest : List (List ℕ)) → row.full ≡ false → length row.bytes.items + length e ≤ row.limit
    → new.bytes.items ≡ row.bytes.items ++ e → new.limit ≡ row.limit → new.full ≡ row.full → stands new rest ≡ stands row (e ∷ rest)
one_more row new e rest unfull fits bytes limit full =
    let some : nat_lt (row.limit - length row.bytes.items) (length e) ≡ false = grind (arith, nat_tests) in
    let left : row.limit - length (row.bytes.items ++ e) ≡ row.limit - length row.bytes.items - length e =
    omega (arith, length-append row.bytes.items e) in
    rw (full, unfull, bytes, limit, some, left) (append_assoc row.bytes.items e _)

pub entry_put : (row new : Entries) (inode next len number : ℕ) (name : List ℕ) (rest : List (List ℕ)) → row.full ≡ false
    → len ≡ length row.bytes.items → len + 24 + length name ≤ row.limit → number ≡ inode
    → new.bytes.items ≡ row.bytes.items ++ entry_bytes number next name → new.limit ≡ row.limit → new.full ≡ row.full
    → stands new rest ≡ stands row (entry_bytes inode next name ∷ rest)
entry_put row new inode next len number name rest unfull is fits same bytes limit full = one_more row new (entry_bytes inode next name) rest
    unfull (omega (arith, is, fits, entry_length inode next name))
    (subst (λ (n : ℕ). new.bytes.items ≡ row.bytes.items ++ entry_bytes n next name) same bytes) limit full

-- the entry that stands at an offset
mapped : {A B : Type 0} (f : A → B) (xs : List A) (i : ℕ) (x : A) → i < length xs → x ≡ slice_index_or xs i x
    → drop i (map f xs) ≡ f x ∷ drop (suc i) (map f xs)
mapped f [] i x less is = absurd (omega (arith, less))
mapped f (y ∷ ys) zero x less is = ap (λ z. f z ∷ map f ys) (sym is)
mapped f (y ∷ ys) (suc i) x less is = mapped f ys i x (omega (arith, less)) is

pub entry_there : (own above : ℕ) (names : List Entry) (at i : ℕ) (e : Entry) → at ≡ suc (suc i) → i < length names
    → e ≡ slice_index_or names i e
    → drop at (entries_of own above names) ≡ (e.inode, e.name.items) ∷ drop (at + 1) (entries_of own above names)
entry_there own above names at i e same less is =
    let next : at + 1 ≡ suc (suc (suc i)) = omega (arith, same) in
    rw (next, same) (mapped (λ (e : Entry). (e.inode, e.name.items)) names i e less is)

-- the entries from an offset on, or from the end where the offset lies behind it
from_there : {X : Type 0} (F : ℕ → List (ℕ × List ℕ) → X) → ((i j : ℕ) → F i [] ≡ F j []) → (es : List (ℕ × List ℕ)) (offset first len : ℕ)
    → first ≡ min offset len → len ≡ length es → F first (drop first es) ≡ F offset (drop offset es)
from_there F none es offset first len least long = either (cases_lt len offset) where
  either : (len < offset) ⊎ (offset ≤ len) → F first (drop first es) ≡ F offset (drop offset es)
  either (inr h) =
      let same : first ≡ offset = omega (arith, least, h) in
      ap (λ i. F i (drop i es)) same
  either (inl h) =
      let end : first ≡ length es = omega (arith, least, long, h) in
      let past : length es ≤ offset = omega (arith, long, h) in
      rw (end, drop_all (length es) es (omega arith), drop_all offset es past) (none (length es) offset)

-- where nothing stands yet, all that will stand is what fits
none_yet : (row : Entries) (limit : ℕ) (es : List (List ℕ)) → row.bytes.items ≡ [] → row.full ≡ false → row.limit ≡ limit
    → stands row es ≡ fitting limit es
none_yet row limit es bytes full same =
    let all : limit - 0 ≡ limit = omega arith in
    rw (bytes, full, same, all) refl

-- where no entry is left, what stands is all
all_stand : (row : Entries) → stands row [] ≡ row.bytes.items
all_stand row = either row.full where
  either : (b : Bool) → row.bytes.items ++ (if b then [] else []) ≡ row.bytes.items
  either true = append-nil row.bytes.items
  either false = append-nil row.bytes.items

-- an entry more is put
pub goes_on : (row new : Entries) (es : List (ℕ × List ℕ)) (i inode : ℕ) (name told : List ℕ)
    → drop i es ≡ (inode, name) ∷ drop (i + 1) es → stands row (bytes_each i (drop i es)) ≡ told
    → ((rest : List (List ℕ)) → stands new rest ≡ stands row (entry_bytes inode (i + 1) name ∷ rest))
    → stands new (bytes_each (i + 1) (drop (i + 1) es)) ≡ told
goes_on row new es i inode name told is before put =
    put (bytes_each (i + 1) (drop (i + 1) es)) ∙ ap (λ l. stands row (bytes_each i l)) (sym is) ∙ before

pub none_longer : (es : List (ℕ × List ℕ)) (i inode : ℕ) (name : List ℕ) (long : Bool) → drop i es ≡ (inode, name) ∷ drop (i + 1) es
    → any_long (drop i es) ≡ long → nat_lt 60 (length name) ≡ false → any_long (drop (i + 1) es) ≡ long
none_longer es i inode name long is before short =
    let one : any_long ((inode, name) ∷ drop (i + 1) es) ≡ any_long (drop (i + 1) es) = rw short refl in
    sym one ∙ ap any_long (sym is) ∙ before

-- all of them were put
all_told : (row : Entries) (es : List (ℕ × List ℕ)) (i offset limit : ℕ) → length es ≤ i
    → stands row (bytes_each i (drop i es)) ≡ fitting limit (bytes_each offset (drop offset es))
    → any_long (drop i es) ≡ any_long (drop offset es)
    → (any_long (drop offset es) ≡ false) × (row.bytes.items ≡ fitting limit (bytes_each offset (drop offset es)))
all_told row es i offset limit past told long =
    let none = drop_all i es past in (
      sym long ∙ ap any_long none,
      sym (all_stand row) ∙ ap (λ l. stands row (bytes_each i l)) (sym none) ∙ told,
    )

entries_length : (own above : ℕ) (names : List Entry) → length names + 2 ≡ length (entries_of own above names)
entries_length own above names = omega (arith, length-map {B = ℕ × List ℕ} names (λ (e : Entry). (e.inode, e.name.items)))

-- where the first one is put, nothing stands
pub begins_there : (own above : ℕ) (names : List Entry) (row : Entries) (offset first limit : ℕ) → first ≡ min offset (length names + 2)
    → row.bytes.items ≡ [] → row.full ≡ false → row.limit ≡ limit
    → stands row (bytes_each first (drop first (entries_of own above names)))
    ≡ fitting limit (bytes_each offset (drop offset (entries_of own above names)))
begins_there own above names row offset first limit least none unfull same =
    none_yet row limit (bytes_each first (drop first (entries_of own above names))) none unfull same
    ∙ ap (fitting limit) (from_there bytes_each (λ i j. refl) (entries_of own above names) offset first (length names + 2) least
    (entries_length own above names))

pub long_there : (own above : ℕ) (names : List Entry) (offset first : ℕ) → first ≡ min offset (length names + 2)
    → any_long (drop first (entries_of own above names)) ≡ any_long (drop offset (entries_of own above names))
long_there own above names offset first least =
    from_there (λ i es. any_long es) (λ i j. refl) (entries_of own above names) offset first (length names + 2) least
    (entries_length own above names)

pub ends_there : (own above : ℕ) (names : List Entry) (row : Entries) (i offset limit : ℕ) → length names + 2 ≤ i
    → stands row (bytes_each i (drop i (entries_of own above names)))
    ≡ fitting limit (bytes_each offset (drop offset (entries_of own above names)))
    → any_long (drop i (entries_of own above names)) ≡ any_long (drop offset (entries_of own above names))
    → (any_long (drop offset (entries_of own above names)) ≡ false)
    × (row.bytes.items ≡ fitting limit (bytes_each offset (drop offset (entries_of own above names))))
ends_there own above names row i offset limit past told long = all_told row (entries_of own above names) i offset limit
    (omega (arith, past, entries_length own above names)) told long

-- what fits is the first so many of them: either these are all, or with one more there are too many bytes
abbrev FirstFit : ℕ → List (List ℕ) → Type 0
FirstFit limit es = (n : ℕ) × (fitting limit es ≡ concat (take n es)) × (length (fitting limit es) ≤ limit)
    × ((n ≡ length es) ⊎ (limit < length (concat (take (n + 1) es))))

one_more_fits : (limit n : ℕ) (e : List ℕ) (es : List (List ℕ)) → length e ≤ limit
    → (n ≡ length es) ⊎ (limit - length e < length (concat (take (n + 1) es)))
    → (suc n ≡ length (e ∷ es)) ⊎ (limit < length (concat (take (suc n + 1) (e ∷ es))))
one_more_fits limit n e es h (inl all) = inl (omega (arith, all))
one_more_fits limit n e es h (inr some) =
    let next : suc n + 1 ≡ suc (n + 1) = omega arith in
    let more : limit < length (e ++ concat (take (n + 1) es)) = omega (arith, h, some, length-append e (concat (take (n + 1) es))) in
    inr (rw next more)

fits_first : (limit : ℕ) (e : List ℕ) (es : List (List ℕ)) → (limit < length e) ⊎ (length e ≤ limit) → FirstFit (limit - length e) es
    → FirstFit limit (e ∷ es)
fits_first limit e es (inl h) rest =
    let none : nat_lt limit (length e) ≡ true = grind (arith, nat_tests) in
    let too_many : limit < length (e ++ []) = omega (arith, h, length-append e []) in
    rw none (0, refl, omega arith, inr too_many)
fits_first limit e es (inr h) (n, is, few, or) =
    let some : nat_lt limit (length e) ≡ false = grind (arith, nat_tests) in
    let fits : length (e ++ fitting (limit - length e) es) ≤ limit =
    omega (arith, h, few, length-append e (fitting (limit - length e) es)) in
    rw some (suc n, ap (λ l. e ++ l) is, fits, one_more_fits limit n e es h or)

first_fit : (limit : ℕ) (es : List (List ℕ)) → FirstFit limit es
first_fit limit [] = (0, refl, omega arith, inl refl)
first_fit limit (e ∷ es) = fits_first limit e es (cases_lt limit (length e)) (first_fit (limit - length e) es)

pub entries_stand_whole : EntriesStandWhole
entries_stand_whole limit most es less =
    let it = first_fit limit es in
    let few : length (fitting limit es) ≤ most = omega (arith, it.2, less) in
    (it.0, take_all most (fitting limit es) few ∙ it.1, it.2, it.3)

-- what one answer tells, and then all that are left, are all: where one entry stands before others for which that is so
one_more_told : (b : Bool) (left offset : ℕ) (x : List ℕ) (e : ℕ × List ℕ) (es : List (ℕ × List ℕ)) → entry_bytes e.0 (offset + 1) e.1 ≡ x
    → fitting left (bytes_each (offset + 1) es) ++ concat (bytes_each (offset + 1 + how_many left (bytes_each (offset + 1) es))
    (drop (how_many left (bytes_each (offset + 1) es)) es)) ≡ concat (bytes_each (offset + 1) es)
    → (if b then [] else x ++ fitting left (bytes_each (offset + 1) es))
    ++ concat (bytes_each (offset + (if b then 0 else suc (how_many left (bytes_each (offset + 1) es))))
    (drop (if b then 0 else suc (how_many left (bytes_each (offset + 1) es))) (e ∷ es)))
    ≡ x ++ concat (bytes_each (offset + 1) es)
one_more_told true left offset x e es is rest =
    let same : offset + 0 ≡ offset = omega arith in
    rw (same, is) refl
one_more_told false left offset x e es is rest =
    let n = how_many left (bytes_each (offset + 1) es) in
    let same : offset + suc n ≡ offset + 1 + n = omega arith in
    rw same (append_assoc x (fitting left (bytes_each (offset + 1) es)) _ ∙ ap (λ l. x ++ l) rest)

one_told : (room offset : ℕ) (es : List (ℕ × List ℕ))
    → fitting room (bytes_each offset es)
    ++ concat (bytes_each (offset + how_many room (bytes_each offset es)) (drop (how_many room (bytes_each offset es)) es))
    ≡ concat (bytes_each offset es)
one_told room offset [] = refl
one_told room offset (e ∷ es) =
    let x = entry_bytes e.0 (offset + 1) e.1 in
    one_more_told (nat_lt room (length x)) (room - length x) offset x e es refl (one_told (room - length x) (offset + 1) es)

-- an answer with room for the longest entry tells one at least
some_told : (room offset : ℕ) (e : ℕ × List ℕ) (es : List (ℕ × List ℕ)) → 84 ≤ room → nat_lt 60 (length e.1) ≡ false
    → 1 ≤ how_many room (bytes_each offset (e ∷ es))
some_told room offset e es least short =
    let few : length e.1 ≤ 60 = grind (arith, nat_tests) in
    let fits : length (entry_bytes e.0 (offset + 1) e.1) ≤ room = omega (arith, least, few, entry_length e.0 (offset + 1) e.1) in
    let no : nat_lt room (length (entry_bytes e.0 (offset + 1) e.1)) ≡ false = grind (arith, nat_tests) in
    rw no (omega arith)

none_long_behind : (n : ℕ) (es : List (ℕ × List ℕ)) → any_long es ≡ false → any_long (drop n es) ≡ false
none_long_behind zero es h = h
none_long_behind (suc n) [] h = refl
none_long_behind (suc n) (e ∷ es) h = none_long_behind n es (second (nat_lt 60 (length e.1)) (any_long es) h) where
  second : (a b : Bool) → a || b ≡ false → b ≡ false
  second true b h = absurd (no h) where
    no : true ≡ false → ⊥
    no e = cc
  second false b h = h

turns_tell_all : (rooms : List ℕ) (offset : ℕ) (es : List (ℕ × List ℕ)) → AllByRecursion (λ room. 84 ≤ room) rooms
    → any_long es ≡ false → length es ≤ length rooms → told_in_turn rooms offset es ≡ concat (bytes_each offset es)
turns_tell_all [] offset [] least short few = refl
turns_tell_all [] offset (e ∷ es) least short few = absurd (omega (arith, few))
turns_tell_all (room ∷ rooms) offset [] least short few = turns_tell_all rooms (offset + 0) [] least.1 short (omega arith)
turns_tell_all (room ∷ rooms) offset (e ∷ es) least short few =
    let n = how_many room (bytes_each offset (e ∷ es)) in
    let one : 1 ≤ n = some_told room offset e es least.0 (first (nat_lt 60 (length e.1)) (any_long es) short) in
    let fewer : length (drop n (e ∷ es)) ≤ length rooms = omega (arith, few, one, length-drop n (e ∷ es)) in
    ap (λ l. fitting room (bytes_each offset (e ∷ es)) ++ l)
    (turns_tell_all rooms (offset + n) (drop n (e ∷ es)) least.1 (none_long_behind n (e ∷ es) short) fewer)
    ∙ one_told room offset (e ∷ es) where
      first : (a b : Bool) → a || b ≡ false → a ≡ false
      first true b h = h
      first false b h = refl

pub each_is_told_once : EachIsToldOnce
each_is_told_once rooms es least short few = turns_tell_all rooms 0 es least short few
