-- The last part of a path that is read, where it is a name, is one that a directory can have.
use Rattle.std.proofs.Common.{◌≡◌, ◌≤◌, ◌<◌, ℕ, List, Bool, true, false, refl, sym, ap, ◌∙◌, arith, [], ◌∷◌, ◌++◌, length}
use mathlib.Core.Logic.{inl, inr}
use Rattle.std.specs.Prelude.{Result, Ok, not, ◌&&◌, ◌||◌, ◌==◌, nat_lt, nat_le, if◌then◌else◌}
use Rattle.std.specs.List.{All, list_any}
use Rattle.std.proofs.lemmas.List.Folds.{list_any_none, list_any-append}
use Rattle.std.proofs.lemmas.Bool.{cases_Bool, cond_both, and_from, and_parts, or_from, or_parts, ltb-true, ltb-false, le-leb, eqb-false, not-true, not_from_false}
use Rattle.errno.specs.declared.Errno.{Errno}
use Rattle.errno.specs.declared.Errno.TheVariants.{ENOENT, EINVAL, ENAMETOOLONG}
use Rattle.tree.specs.declared.PathFrom.{PathFrom}
use Rattle.tree.specs.declared.Start.TheVariants.{Root}
use Rattle.tree.specs.Names.{Name, is_name, is_dots, most_name}
use Rattle.tree.specs.Refusals.{◌>>=◌, refuse_if}
use Rattle.tree.specs.Walk.{Way, is_root, has_long_part, read_path, parts_of, parts_after, begins_with_slash, has_last_name, last_part, most_path}
use Rattle.tree.proofs.Steps.{passed, both_steps, ok_is}

-- a byte that no name has
abbrev is_bad : ℕ → Bool
is_bad c = (c == 47) || (c == 0) || nat_lt 255 c

-- no byte is above 255
below_256 : (bytes : List ℕ) → All (λ b. b < 256) bytes → list_any (λ c. nat_lt 255 c) bytes ≡ false
below_256 bytes h = list_any_none (λ c. nat_lt 255 c) bytes (λ k d l. not_above _ (h k d l))
  where
    not_above : (c : ℕ) → c < 256 → nat_lt 255 c ≡ false
    not_above c l = elim (cases_Bool (nat_lt 255 c)) [ inl t ↦ let above = ltb-true 255 c t in absurd (omega (arith, l, above)) | inr f ↦ f ]

-- the parts of a path have no bad byte
parts_clean : (part cs : List ℕ) → list_any is_bad part ≡ false → list_any (λ c. c == 0) cs ≡ false → list_any (λ c. nat_lt 255 c) cs ≡ false
    → list_any (λ x. list_any is_bad x) (parts_after part cs) ≡ false
parts_clean part [] p z b = cond_both (length part == 0) [] (part ∷ []) (λ xs. list_any (λ x. list_any is_bad x) xs ≡ false) (λ _. refl) (λ _. or_from (list_any is_bad part) false p refl)
parts_clean part (c ∷ cs) p z b =
    let no_zero = or_parts (c == 0) (list_any (λ x. x == 0) cs) z in
    let byte = or_parts (nat_lt 255 c) (list_any (λ x. nat_lt 255 x) cs) b in
    let rest = parts_clean [] cs refl no_zero.1 byte.1 in
    cond_both (c == 47)
    (if length part == 0 then parts_after [] cs else part ∷ parts_after [] cs)
    (parts_after (part ++ c ∷ []) cs)
    (λ xs. list_any (λ x. list_any is_bad x) xs ≡ false)
    (λ _. cond_both (length part == 0) (parts_after [] cs) (part ∷ parts_after [] cs) (λ xs. list_any (λ x. list_any is_bad x) xs ≡ false) (λ _. rest) (λ _. or_from (list_any is_bad part) _ p rest))
    (λ other. parts_clean (part ++ c ∷ []) cs
    (list_any-append is_bad part (c ∷ []) ∙ or_from (list_any is_bad part) (list_any is_bad (c ∷ [])) p (or_from (is_bad c) false (or_from ((c == 47) || (c == 0)) (nat_lt 255 c) (or_from (c == 47) (c == 0) other no_zero.0) byte.0) refl))
    no_zero.1 byte.1)

-- what no part has, the last one hasn't
last_clean : (q : Name → Bool) (parts : List Name) → q [] ≡ false → list_any q parts ≡ false → q (last_part parts) ≡ false
last_clean q [] none h = none
last_clean q (x ∷ []) none h = (or_parts (q x) false h).0
last_clean q (x ∷ y ∷ ys) none h = last_clean q (y ∷ ys) none (or_parts (q x) (list_any q (y ∷ ys)) h).1

-- what a path that is read has told
record IsRead (bytes : List ℕ) (parts : List Name) : Type 0 where
  are_parts : parts_of bytes ≡ parts
  no_zero : list_any (λ c. c == 0) bytes ≡ false
  short : list_any (λ part. nat_lt most_name (length part)) parts ≡ false

-- a path that is read
is_read : (path : PathFrom) (way : Way) → read_path path ≡ Ok way → IsRead path.bytes.now way.parts
is_read path way h =
    let some = both_steps (refuse_if (is_root path.start && (length path.bytes.now == 0)) ENOENT) (λ _. from_some) way h in
    let fits = both_steps (refuse_if (nat_lt most_path (length path.bytes.now)) ENAMETOOLONG) (λ _. from_fitting) way some.2 in
    let clean = both_steps (refuse_if ((is_root path.start && not (begins_with_slash path.bytes.now)) || list_any (λ c. c == 0) path.bytes.now) EINVAL) (λ _. from_clean) way fits.2 in
    let short = both_steps (refuse_if (has_long_part path.bytes.now) ENAMETOOLONG) (λ _. Ok from_short) way clean.2 in
    let are : parts_of path.bytes.now ≡ way.parts = ap (λ w. w.parts) (ok_is from_short way (Ok from_short) refl short.2) in
    record {
      are_parts = are;
      no_zero = (or_parts (is_root path.start && not (begins_with_slash path.bytes.now)) (list_any (λ c. c == 0) path.bytes.now) (passed _ _ clean.0 clean.1)).1;
      short = ap (λ ps. list_any (λ part. nat_lt most_name (length part)) ps) (sym are) ∙ passed _ _ short.0 short.1;
    }
  where
    from_short : Way
    from_short = record { start = if begins_with_slash path.bytes.now then Root else path.start; parts = parts_of path.bytes.now }

    from_clean : Result Way Errno
    from_clean = refuse_if (has_long_part path.bytes.now) ENAMETOOLONG >>= λ _. Ok from_short

    from_fitting : Result Way Errno
    from_fitting = refuse_if ((is_root path.start && not (begins_with_slash path.bytes.now)) || list_any (λ c. c == 0) path.bytes.now) EINVAL >>= λ _. from_clean

    from_some : Result Way Errno
    from_some = refuse_if (nat_lt most_path (length path.bytes.now)) ENAMETOOLONG >>= λ _. from_fitting

-- its last part is a name
pub last_is_name : (path : PathFrom) (way : Way) → All (λ b. b < 256) path.bytes.now → read_path path ≡ Ok way → has_last_name way ≡ true
    → is_name (last_part way.parts) ≡ true
last_is_name path way bytes h named =
    let parts = way.parts in
    let read = is_read path way h in
    let last = last_part parts in
    let has = and_parts (not (length last == 0)) (not (is_dots last)) named in
    let some : 1 ≤ length last = let d = eqb-false (length last) 0 (not-true _ has.0) in omega (arith, d) in
    let within : length last ≤ most_name = ltb-false most_name (length last) (last_clean (λ part. nat_lt most_name (length part)) parts refl read.short) in
    let clean : list_any is_bad last ≡ false =
    last_clean (λ x. list_any is_bad x) parts refl
    (ap (λ ps. list_any (λ x. list_any is_bad x) ps) (sym read.are_parts) ∙ parts_clean [] path.bytes.now refl read.no_zero (below_256 path.bytes.now bytes)) in
    and_from _ (not (is_dots last))
    (and_from _ (not (list_any is_bad last))
    (and_from (nat_le 1 (length last)) (nat_le (length last) most_name) (le-leb 1 (length last) some) (le-leb (length last) most_name within))
    (not_from_false _ clean))
    has.1
