-- The zones that a file needs are those to which its ten numbers lead.
use Rattle.std.proofs.Common.{◌≡◌, ◌<◌, ◌+◌, ◌*◌, ◌/◌, ℕ, zero, suc, refl, sym, ap, ◌∙◌, arith}
use mathlib.Core.Logic.{inl, inr}
use Rattle.std.specs.Prelude.{Bool, not, ◌==◌}
use Rattle.std.proofs.lemmas.Bool.{cases_eq, cond-true, cond-false, eq-eqb, ne_eqb}
use Rattle.layout.specs.declared.Geometry.{Geometry}
use Rattle.lemmas.specs.Sums.{sum_below, count_below, one_if}
use Rattle.lemmas.proofs.Maps.{same_sum}
use Rattle.tree.proofs.Needs.{sum_add}
use Rattle.volume.specs.Pieces.{Pieces}
use Rattle.volume.specs.Nodes.{number, slot, page_byte}
use Rattle.volume.proofs.Naming.{Naming, room, front, named, spot}
use Rattle.volume.proofs.Spots.{spot_top, spot_slot, spot_word}
use Rattle.volume.proofs.Bridge.{limit_at, naming}
use Rattle.volume.proofs.Levels.{taken, hole_below}
use Rattle.image.specs.Entered.{level_of}
use Rattle.migrate.specs.Pages.{Pages, zones_under}
use Rattle.migrate.specs.Used.{zones_in}

-- a sum over rows of the same length
sum_times : (f : ℕ → ℕ) (a w : ℕ) → sum_below f (a * w) ≡ sum_below (λ i. sum_below (λ j. f (i * w + j)) w) a
unfolding sum_below
sum_times f zero w = let none : zero * w ≡ 0 = omega arith in ap (sum_below f) none
sum_times f (suc a) w =
    let before = sum_times f a w in
    let turn : suc a * w ≡ a * w + w = grind arith in
    ap (sum_below f) turn ∙ sum_add f (a * w) w ∙ ap (λ s. s + sum_below (λ j. f (a * w + j)) w) before

-- two sums as one
sum_plus : (f h : ℕ → ℕ) (n : ℕ) → sum_below f n + sum_below h n ≡ sum_below (λ k. f k + h k) n
unfolding sum_below
sum_plus f h zero = refl
sum_plus f h (suc n) = let before = sum_plus f h n in omega arith

-- short sums, written out
one_part : (f : ℕ → ℕ) → sum_below f 1 ≡ f 0
unfolding sum_below
one_part f = omega arith

four_parts : (f : ℕ → ℕ) → sum_below f 4 ≡ f 0 + f 1 + f 2 + f 3
unfolding sum_below
four_parts f = omega arith

ten_parts : (f : ℕ → ℕ) → sum_below f 10 ≡ sum_below f 7 + f 7 + f 8 + f 9
unfolding sum_below
ten_parts f = omega arith

-- the numbers of a volume for which a test holds
abbrev pub passed_in : (ℕ → Bool) → Pieces → Pages
passed_in q v = record { some = q; below = λ l z j. number v z j; byte = page_byte v }

-- how many of them stand at a number of a level and below it, over plain functions
abbrev passed_under : (ℕ → Bool) → Naming → ℕ → ℕ → ℕ
passed_under q m zero z = one_if (q z)
passed_under q m (suc l) z = one_if (q z) + sum_below (λ j. passed_under q m l (named m z j)) m.width

-- eleven sums put together
joined : (t0 t1 t2 t3 in2 u2 v2 in1 u1 v1 in0 u0 v0 s9 s7 s8 p : ℕ) → t3 ≡ in2 + u2 → t2 + u2 ≡ v2 → v2 ≡ in1 + u1 → t1 + u1 ≡ v1
    → v1 ≡ in0 + u0
    → t0 + u0 ≡ v0 → v0 ≡ s9 → in1 ≡ s7 → in0 ≡ s8 → in2 ≡ p → t0 + t1 + t2 + t3 ≡ p + s7 + s8 + s9
joined t0 t1 t2 t3 in2 u2 v2 in1 u1 v1 in0 u0 v0 s9 s7 s8 p a b c d e g h i j k = omega arith

module _ (q : ℕ → Bool) (m : Naming) (n : ℕ) where
  -- what stands at the places below a place
  pub spot_named : (h i j : ℕ) → j < m.width → spot m n (suc h) (room h + (i * m.width + j)) ≡ named m (spot m n h i) j
  spot_named h i j l = elim (cases_eq (spot m n h i) 0) [
    | inl e ↦ hole_below m n h i j l e ∙ sym (cond-true (spot m n h i == 0) 0 _ (eq-eqb _ 0 e))
    | inr some ↦ spot_word m n h i j (spot m n h i) l refl some ∙ sym (cond-false (spot m n h i == 0) 0 _ (ne_eqb _ 0 some))
  ]

  -- a sum over the places of a height
  abbrev over : (ℕ → ℕ) → ℕ → ℕ
  over f h = sum_below (λ i. f (spot m n h i)) (limit_at m.width h)

  -- and over those in the inode
  abbrev inside : (ℕ → ℕ) → ℕ → ℕ
  inside f h = sum_below (λ i. f (m.slot n (front h + i))) (room h)

  -- and over what stands below a zone
  abbrev below : (ℕ → ℕ) → ℕ → ℕ
  below f z = sum_below (λ j. f (named m z j)) m.width

  -- the places of a height stand in the inode, or below those of the height above
  next_height : (f : ℕ → ℕ) (h : ℕ) → over f (suc h) ≡ inside f h + over (below f) h
  unfolding limit_at
  next_height f h =
      let g : ℕ → ℕ = λ i. f (spot m n (suc h) i) in
      let w = m.width in
      let many = limit_at w h in
      let first : sum_below g (room h) ≡ inside f h = same_sum _ _ (room h) (λ i l. ap f (spot_slot m n h i l)) in
      let rest : sum_below (λ i. g (room h + i)) (many * w) ≡ over (below f) h
      = sum_times (λ i. g (room h + i)) many w ∙ same_sum _ _ many (λ i _. same_sum _ _ w (λ j l. ap f (spot_named h i j l))) in
      sum_add g (room h) (many * w) ∙ (λ i. first i + rest i)

  -- the places of a height, and those below it
  both_heights : (l h : ℕ) → over (passed_under q m 0) h + over (below (passed_under q m l)) h ≡ over (passed_under q m (suc l)) h
  both_heights l h = sum_plus (λ i. passed_under q m 0 (spot m n h i)) (λ i. below (passed_under q m l) (spot m n h i)) (limit_at m.width h)

  -- the triple's
  top_height : (f : ℕ → ℕ) → over f 0 ≡ f (m.slot n 9)
  unfolding limit_at
  top_height f = one_part (λ i. f (spot m n 0 i)) ∙ ap f (spot_top m n 0)

  -- the slots of pages
  seven : inside (passed_under q m 0) 2 ≡ sum_below (λ s. passed_under q m (level_of s) (m.slot n s)) 7
  unfolding sum_below
  seven = refl

  -- all heights
  pub by_slots : sum_below (λ h. count_below (λ i. q (spot m n h i)) (limit_at m.width h)) 4
      ≡ sum_below (λ s. passed_under q m (level_of s) (m.slot n s)) 10
  by_slots =
      let f = passed_under q m in
      let parts = four_parts (λ h. over (f 0) h) in
      let slots = ten_parts (λ s. f (level_of s) (m.slot n s)) in
      let pages : inside (f 0) 2 ≡ sum_below (λ s. f (level_of s) (m.slot n s)) 7 = seven in
      let a : over (f 0) 3 ≡ inside (f 0) 2 + over (below (f 0)) 2 = next_height (f 0) 2 in
      let b : over (f 0) 2 + over (below (f 0)) 2 ≡ over (f 1) 2 = both_heights 0 2 in
      let c : over (f 1) 2 ≡ inside (f 1) 1 + over (below (f 1)) 1 = next_height (f 1) 1 in
      let d : over (f 0) 1 + over (below (f 1)) 1 ≡ over (f 2) 1 = both_heights 1 1 in
      let e : over (f 2) 1 ≡ inside (f 2) 0 + over (below (f 2)) 0 = next_height (f 2) 0 in
      let g : over (f 0) 0 + over (below (f 2)) 0 ≡ over (f 3) 0 = both_heights 2 0 in
      let last : over (f 3) 0 ≡ f 3 (m.slot n 9) = top_height (f 3) in
      let single : inside (f 1) 1 ≡ f 1 (m.slot n 7) = one_part (λ i. f 1 (m.slot n (front 1 + i))) in
      let double : inside (f 2) 0 ≡ f 2 (m.slot n 8) = one_part (λ i. f 2 (m.slot n (front 0 + i))) in
      parts ∙ joined (over (f 0) 0) (over (f 0) 1) (over (f 0) 2) (over (f 0) 3) _ _ _ _ _ _ _ _ _ _ _ _ _ a b c d e g last single double
      pages ∙ sym slots

module _ (q : ℕ → Bool) (g : Geometry) (v : Pieces) (block : g.block_size ≡ 1024) where
  -- a block holds 256 numbers
  width : (naming g v).width ≡ 256
  width = ap (λ b. b / 4) block

  -- the volume's are the plain ones
  same_passed : (l z : ℕ) → passed_under q (naming g v) l z ≡ zones_under (passed_in q v) l z
  same_passed zero z = refl
  same_passed (suc l) z =
      let many = (naming g v).width in
      ap (λ s. one_if (q z) + s)
      (same_sum _ _ many (λ j _. same_passed l (number v z j))
      ∙ ap (sum_below (λ j. zones_under (passed_in q v) l (number v z j))) width)

  -- all places of an inode
  pub passed_by_slots : (n : ℕ) → sum_below (λ h. count_below (λ i. q (spot (naming g v) n h i)) (limit_at (naming g v).width h)) 4
      ≡ sum_below (λ s. zones_under (passed_in q v) (level_of s) (slot (v.inodes n) s)) 10
  passed_by_slots n = by_slots q (naming g v) n ∙ same_sum _ _ 10 (λ s _. same_passed (level_of s) (slot (v.inodes n) s))

-- all zones of an inode
pub zones_by_slots : (g : Geometry) (v : Pieces) → g.block_size ≡ 1024 → (n : ℕ)
    → sum_below (λ h. count_below (taken (naming g v) n h) (limit_at (naming g v).width h)) 4 ≡ zones_in v (v.inodes n)
zones_by_slots g v block n = passed_by_slots (λ z. not (z == 0)) g v block n
