-- Both ways to count a file's zones agree.
use Rattle.std.proofs.Common.{◌≡◌, ◌+◌, ◌*◌, ℕ, zero, suc, Bool, true, false, refl, sym, ap, ◌∙◌, arith}
use Rattle.std.specs.Prelude.{◌||◌, if◌then◌else◌}
use Rattle.lemmas.proofs.Bools.{false_not_true}
use Rattle.lemmas.specs.Sums.{sum_below, some_below, count_below, one_if}
use Rattle.tree.specs.ZonesNeeded.{zones_needed, from_page, quotients, double_blocks, triple_blocks}
use Rattle.tree.specs.ZonesNeededByPlace.{last_needed, second_needed, third_needed, zones_needed_by_place, ZonesNeededIsByPlace}

-- or groups either way
or_assoc : (a b c : Bool) → (a || b) || c ≡ a || (b || c)
or_assoc true b c = refl
or_assoc false b c = refl

-- or with false is nothing
or_false : (a : Bool) → a ≡ a || false
or_false true = refl
or_false false = refl

-- a row of tests in two parts
pub some_add : (p : ℕ → Bool) (a b : ℕ) → some_below p (a + b) ≡ some_below p a || some_below (λ j. p (a + j)) b
unfolding some_below
some_add p a zero = ap (some_below p) (let e : a + 0 ≡ a = omega arith in e) ∙ or_false (some_below p a)
some_add p a (suc b) =
    ap (some_below p) (let e : a + suc b ≡ suc (a + b) = omega arith in e)
    ∙ ap (λ x. x || p (a + b)) (some_add p a b) ∙ or_assoc (some_below p a) (some_below (λ j. p (a + j)) b) (p (a + b))

-- a sum in two parts
pub sum_add : (f : ℕ → ℕ) (a b : ℕ) → sum_below f (a + b) ≡ sum_below f a + sum_below (λ j. f (a + j)) b
unfolding sum_below
sum_add f a zero = let e : sum_below f (a + 0) ≡ sum_below f a = ap (sum_below f) (let z : a + 0 ≡ a = omega arith in z) in omega arith
sum_add f a (suc b) =
    let e : sum_below f (a + suc b) ≡ sum_below f (a + b) + f (a + b) = ap (sum_below f) (let s : a + suc b ≡ suc (a + b) = omega arith in s) in
    let front = sum_add f a b in
    omega arith

-- a row of a groups of b
in_groups : (p : ℕ → Bool) (a b : ℕ) → some_below p (a * b) ≡ some_below (λ k. some_below (λ j. p (k * b + j)) b) a
unfolding some_below
in_groups p zero b = ap (some_below p) (let e : 0 * b ≡ 0 = omega arith in e)
in_groups p (suc a) b =
    ap (some_below p) (let e : suc a * b ≡ a * b + b = omega arith in e)
    ∙ some_add p (a * b) b ∙ ap (λ x. x || some_below (λ j. p (a * b + j)) b) (in_groups p a b)

-- where none passes, none is counted
pub none_counted : (p : ℕ → Bool) (n : ℕ) → some_below p n ≡ false → count_below p n ≡ 0
unfolding some_below sum_below
none_counted p zero h = refl
none_counted p (suc n) h = both (some_below p n) (p n) h (none_counted p n)
  where
    both : (a b : Bool) → a || b ≡ false → (a ≡ false → count_below p n ≡ 0) → count_below p n + one_if b ≡ 0
    both true b h old = absurd (false_not_true (sym h))
    both false true h old = absurd (false_not_true (sym h))
    both false false h old = let e = old refl in omega arith

-- the top block, and x below it, which is 0 where there is none
top_and : (b : Bool) (x : ℕ) → (b ≡ false → x ≡ 0) → (if b then 1 + x else 0) ≡ one_if b + x
top_and true x h = refl
top_and false x h = let e = h refl in omega arith

module _ (n : ℕ) (held : ℕ → Bool) where
  -- the double range, and the triple one, counted from their starts
  abbrev in_double : ℕ → Bool
  in_double = from_page (7 + n) held

  abbrev in_triple : ℕ → Bool
  in_triple = from_page (7 + n + n * n) held

  -- block 0 that names pages is the single range's
  single : last_needed n held 0 ≡ some_below (from_page 7 held) n
  single = ap (λ f. some_below f n) (λ i j. held ((let e : 7 + (0 * n + j) ≡ 7 + j = omega arith in e) i))

  -- the next n are the double range's
  last_double : (k : ℕ) → last_needed n held (1 + k) ≡ some_below (λ j. in_double (k * n + j)) n
  last_double k = ap (λ f. some_below f n) (λ i j. held ((let e : 7 + ((1 + k) * n + j) ≡ 7 + n + (k * n + j) = omega arith in e) i))

  -- and the n * n after them the triple range's
  last_triple : (k : ℕ) → last_needed n held (1 + n + k) ≡ some_below (λ j. in_triple (k * n + j)) n
  last_triple k = ap (λ f. some_below f n) (λ i j. held ((let e : 7 + ((1 + n + k) * n + j) ≡ 7 + n + n * n + (k * n + j) = omega arith in e) i))

  -- block 0 that names such blocks is the double range's
  second_double : second_needed n held 0 ≡ some_below in_double (n * n)
  second_double =
      ap (λ f. some_below f n) (λ i j. last_needed n held ((let e : 1 + (0 * n + j) ≡ 1 + j = omega arith in e) i))
      ∙ ap (λ f. some_below f n) (λ i j. last_double j i) ∙ sym (in_groups in_double n n)

  -- the n after it are the triple range's
  second_triple : (m : ℕ) → second_needed n held (1 + m) ≡ some_below (λ q. in_triple (m * (n * n) + q)) (n * n)
  second_triple m =
      ap (λ f. some_below f n) (λ i j. last_needed n held ((let e : 1 + ((1 + m) * n + j) ≡ 1 + n + (m * n + j) = omega arith in e) i))
      ∙ ap (λ f. some_below f n) (λ i j. last_triple (m * n + j) i)
      ∙ ap (λ f. some_below f n) (λ i j. some_below (λ a. in_triple ((let e : (m * n + j) * n + a ≡ m * (n * n) + (j * n + a) = omega arith in e) i)) n)
      ∙ sym (in_groups (λ q. in_triple (m * (n * n) + q)) n n)

  -- the triple block is needed where the triple range holds a page
  third_triple : third_needed n held ≡ some_below in_triple (n * n * n)
  third_triple =
      ap (λ f. some_below f n) (λ i m. second_triple m i) ∙ sym (in_groups in_triple n (n * n))
      ∙ ap (some_below in_triple) (let e : n * (n * n) ≡ n * n * n = omega arith in e)

  -- the blocks that name pages, by range
  count_last : count_below (last_needed n held) (1 + n + n * n)
      ≡ one_if (some_below (from_page 7 held) n) + quotients in_double n n + quotients in_triple n (n * n)
  unfolding sum_below
  count_last =
      let f : ℕ → ℕ = λ k. one_if (last_needed n held k) in
      let parts = sum_add f (1 + n) (n * n) in
      let front = sum_add f 1 n in
      let one : sum_below f 1 ≡ f 0 = omega arith in
      let s : f 0 ≡ one_if (some_below (from_page 7 held) n) = ap one_if single in
      let d : sum_below (λ j. f (1 + j)) n ≡ quotients in_double n n = ap (λ h. sum_below h n) (λ i j. one_if (last_double j i)) in
      let t : sum_below (λ j. f (1 + n + j)) (n * n) ≡ quotients in_triple n (n * n) = ap (λ h. sum_below h (n * n)) (λ i j. one_if (last_triple j i)) in
      omega arith

  -- the blocks that name such blocks, by range
  count_second : count_below (second_needed n held) (1 + n) ≡ one_if (some_below in_double (n * n)) + quotients in_triple (n * n) n
  unfolding sum_below
  count_second =
      let f : ℕ → ℕ = λ m. one_if (second_needed n held m) in
      let parts = sum_add f 1 n in
      let one : sum_below f 1 ≡ f 0 = omega arith in
      let d : f 0 ≡ one_if (some_below in_double (n * n)) = ap one_if second_double in
      let t : sum_below (λ j. f (1 + j)) n ≡ quotients in_triple (n * n) n = ap (λ h. sum_below h n) (λ i j. one_if (second_triple j i)) in
      omega arith

  -- the double range counts its top block and those below it
  double : double_blocks n in_double ≡ one_if (some_below in_double (n * n)) + quotients in_double n n
  double = top_and _ _ (λ h. none_counted _ n (sym (in_groups in_double n n) ∙ h))

  -- and so does the triple range
  triple : triple_blocks n in_triple ≡ one_if (some_below in_triple (n * n * n)) + (quotients in_triple (n * n) n + quotients in_triple n (n * n))
  triple =
      let grouped : 1 + quotients in_triple (n * n) n + quotients in_triple n (n * n) ≡ 1 + (quotients in_triple (n * n) n + quotients in_triple n (n * n)) = omega arith in
      ap (λ x. if some_below in_triple (n * n * n) then x else 0) grouped
      ∙ top_and _ _ (λ h.
      let wide = none_counted (λ k. some_below (λ j. in_triple (k * (n * n) + j)) (n * n)) n
      (sym (in_groups in_triple n (n * n)) ∙ ap (some_below in_triple) (let e : n * (n * n) ≡ n * n * n = omega arith in e) ∙ h) in
      let narrow = none_counted (λ k. some_below (λ j. in_triple (k * n + j)) n) (n * n) (sym (in_groups in_triple (n * n) n) ∙ h) in
      omega arith)

  -- the two counts are one
  both_ways : zones_needed n held ≡ zones_needed_by_place n held
  both_ways =
      let l = count_last in
      let s = count_second in
      let d = double in
      let t = triple in
      let top : one_if (third_needed n held) ≡ one_if (some_below in_triple (n * n * n)) = ap one_if third_triple in
      omega arith

-- the law
pub zones_needed_is_by_place : ZonesNeededIsByPlace
zones_needed_is_by_place n held = both_ways n held
