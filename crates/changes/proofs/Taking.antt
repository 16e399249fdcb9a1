-- Changes that were taken make contents the image.
use Rattle.std.proofs.Common.{◌≡◌, ℕ, zero, suc, ◌+◌, List, [], ◌∷◌, map, Bool, true, false, get_or, refl, arith}
use Rattle.std.specs.List.{zip}
use Rattle.std.proofs.lemmas.Bool.Decides.{nat_tests}
use Rattle.stable.specs.Disk.{Contents, set, put}
use Rattle.changes.specs.Units.{unit_of, marked, marked_from, is_marked}
use Rattle.changes.specs.Laws.{TakenIsAll}

-- a unit that is as it is to be stays so where one more is set as it is to be
set_keeps : (f c : Contents) (m n : ℕ) → c n ≡ f n → set c (m, f m) n ≡ f n
set_keeps f c m n is = grind (arith, nat_tests)

-- the unit that is set
set_there : (f c : Contents) (m n : ℕ) → n ≡ m → set c (m, f m) n ≡ f n
set_there f c m n is = grind (arith, nat_tests)

put_keeps : (ns : List ℕ) (f c : Contents) (n : ℕ) → c n ≡ f n → put (zip ns (map f ns)) c n ≡ f n
put_keeps [] f c n is = is
put_keeps (m ∷ ns) f c n is = put_keeps ns f (set c (m, f m)) n (set_keeps f c m n is)

-- each marked unit is put
put_marked : (marks : List Bool) (first i n : ℕ) (f c : Contents) → n ≡ first + i → get_or marks i false ≡ true
    → put (zip (marked_from first marks) (map f (marked_from first marks))) c n ≡ f n
put_marked [] first i n f c is on = cc
put_marked (true ∷ marks) first zero n f c is on =
    put_keeps (marked_from (first + 1) marks) f (set c (first, f first)) n (set_there f c first n (omega arith))
put_marked (true ∷ marks) first (suc i) n f c is on = put_marked marks (first + 1) i n f (set c (first, f first)) (omega arith) on
put_marked (false ∷ marks) first zero n f c is on = cc
put_marked (false ∷ marks) first (suc i) n f c is on = put_marked marks (first + 1) i n f c (omega arith) on

put_each : (marks : List Bool) (f c : Contents) (n : ℕ) (b : Bool) → is_marked marks n ≡ b → (is_marked marks n ≡ false → c n ≡ f n)
    → put (zip (marked marks) (map f (marked marks))) c n ≡ f n
put_each marks f c n true is agrees = put_marked marks 0 n n f c (omega arith) is
put_each marks f c n false is agrees = put_keeps (marked marks) f c n (agrees is)

pub taken_is_all : TakenIsAll
taken_is_all marks image changes contents taken agrees n =
    rw (taken.numbers, taken.units) (put_each marks (unit_of image) contents n (is_marked marks n) refl (agrees n))
