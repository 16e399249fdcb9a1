-- Counts of uses against places: a zone is used at most once exactly where it has at most one place.
use Rattle.std.proofs.Common.{◌≡◌, ◌⊎◌, ◌<◌, ◌+◌, ℕ, zero, suc, Bool, true, false, refl, sym, ap, ◌∙◌, cond, arith}
use mathlib.Core.Logic.{inl, inr}
use Rattle.std.specs.Prelude.{◌&&◌, ◌==◌, if◌then◌else◌}
use Rattle.std.proofs.lemmas.Bool.{cases_eq, and_parts, and_from, cond-true, cond-false, eq-eqb, ne_eqb, eqb-true}
use Rattle.lemmas.specs.Sums.{sum_below, count_below}
use Rattle.volume.proofs.Naming.{Naming, entered, uses}
use Rattle.lemmas.proofs.Maps.{same_sum}
use Rattle.volume.proofs.Cube.{cube, Point}

-- One row of numbers for each (k, y): row y of k = 3 is inode y, of k < 3 the zone y entered at height k.
module _ (m : Naming) where
  -- row y of kind k is there: inode y is marked, or zone y is entered
  abbrev pub there : ℕ → ℕ → Bool
  there k y = if k == 3 then m.marked y else entered m k y

  -- number j of the row
  abbrev pub cell : ℕ → ℕ → ℕ → ℕ
  cell k y j = if k == 3 then m.slot y j else m.word y j

  -- how many rows there are
  abbrev pub rows : ℕ → ℕ
  rows k = if k == 3 then m.inodes else m.zones

  -- how many numbers a row has
  abbrev pub cells : ℕ → ℕ
  cells k = if k == 3 then 10 else m.width

  -- the row is there, and its number j is z
  abbrev pub test : ℕ → ℕ → ℕ → ℕ → Bool
  test z k y j = there k y && (cell k y j == z)

  -- a test that is never true counts 0
  none_counted : (n : ℕ) → count_below (λ _. false) n ≡ 0
  unfolding sum_below
  none_counted zero = refl
  none_counted (suc n) = let before = none_counted n in omega arith

  -- a count under a guard
  guard_count : (b : Bool) (p : ℕ → Bool) (n : ℕ) → count_below (λ j. b && p j) n ≡ cond b (count_below p n) 0
  guard_count true p n = refl
  guard_count false p n = none_counted n

  -- a sum of four by its last
  three_and_one : (f : ℕ → ℕ) → sum_below f 4 ≡ f 3 + sum_below f 3
  unfolding sum_below
  three_and_one f = omega arith

  -- the uses of a number are the points of the rows where it stands
  pub uses_cube : (z : ℕ) → uses m z ≡ cube (test z) 4 rows cells
  uses_cube z =
      let f : ℕ → ℕ = λ k. sum_below (λ y. count_below (test z k y) (cells k)) (rows k) in
      let split = three_and_one f in
      let inodes : sum_below (λ n. cond (m.marked n) (count_below (λ s. m.slot n s == z) 10) 0) m.inodes ≡ f 3
      = same_sum _ _ m.inodes (λ n _. sym (guard_count (m.marked n) (λ s. m.slot n s == z) 10)) in
      let zones : sum_below (λ h. sum_below (λ above. cond (entered m h above) (count_below (λ j. m.word above j == z) m.width) 0) m.zones) 3 ≡ sum_below f 3
      = same_sum _ f 3 (λ h l. level z h l) in
      omega arith
    where
      level : (z h : ℕ) → h < 3 → sum_below (λ above. cond (entered m h above) (count_below (λ j. m.word above j == z) m.width) 0) m.zones
          ≡ sum_below (λ y. count_below (test z h y) (cells h)) (rows h)
      level z h l = same_sum _ _ m.zones (λ y _. sym (guard_count (entered m h y) (λ j. m.word y j == z) m.width))
          ∙ sym (ap (λ (b : Bool). sum_below (λ y. count_below (λ j. (cond b (m.marked y) (entered m h y)) && (cond b (m.slot y j) (m.word y j) == z)) (cond b 10 m.width)) (cond b m.inodes m.zones)) (ne_eqb h 3 (λ e. absurd (omega arith))))

  -- a mention of a zone: a number of such a row
  abbrev pub Mention : ℕ → Type 0
  Mention z = Point (test z) 4 rows cells

  -- the mention in a slot of an inode
  abbrev pub in_slot : (n s z : ℕ) → n < m.inodes → s < 10 → m.marked n ≡ true → m.slot n s ≡ z → Mention z
  in_slot n s z hn hs is e = record { k = 3; y = n; j = s; in_k = omega arith; in_y = hn; in_j = hs; is = and_from (m.marked n) (m.slot n s == z) is (eq-eqb (m.slot n s) z e) }

  -- the mention in an entered zone
  abbrev pub in_word : (k y j z : ℕ) → k < 3 → y < m.zones → j < m.width → entered m k y ≡ true → m.word y j ≡ z → Mention z
  in_word k y j z hk hy hj is e =
      let no = ne_eqb k 3 (λ e. absurd (omega arith)) in
      record {
        k = k;
        y = y;
        j = j;
        in_k = omega arith;
        in_y = omega (arith, cond-false (k == 3) m.inodes m.zones no);
        in_j = omega (arith, cond-false (k == 3) 10 m.width no);
        is = and_from (there k y) (cell k y j == z) (cond-false (k == 3) (m.marked y) (entered m k y) no ∙ is)
            (eq-eqb (cell k y j) z (cond-false (k == 3) (m.slot y j) (m.word y j) no ∙ e));
      }

  -- a mention in an inode
  pub record Direct (z : ℕ) (s : Mention z) : Type 0 where
    pub level : s.k ≡ 3
    pub in_y : s.y < m.inodes
    pub in_j : s.j < 10
    pub marked : m.marked s.y ≡ true
    pub names : m.slot s.y s.j ≡ z

  -- a mention in an entered zone
  pub record Below (z : ℕ) (s : Mention z) : Type 0 where
    pub level : s.k < 3
    pub in_y : s.y < m.zones
    pub in_j : s.j < m.width
    pub is_entered : entered m s.k s.y ≡ true
    pub names : m.word s.y s.j ≡ z

  -- each mention is one of the two
  pub kinds : (z : ℕ) (s : Mention z) → Direct z s ⊎ Below z s
  kinds z s =
      let parts = and_parts (there s.k s.y) (cell s.k s.y s.j == z) s.is in
      let at = eqb-true (cell s.k s.y s.j) z parts.1 in
      elim (cases_eq s.k 3) [
        | inl e ↦
            let yes = eq-eqb s.k 3 e in
            inl (record {
              level = e;
              in_y = omega (arith, cond-true (s.k == 3) m.inodes m.zones yes, s.in_y);
              in_j = omega (arith, cond-true (s.k == 3) 10 m.width yes, s.in_j);
              marked = sym (cond-true (s.k == 3) (m.marked s.y) (entered m s.k s.y) yes) ∙ parts.0;
              names = sym (cond-true (s.k == 3) (m.slot s.y s.j) (m.word s.y s.j) yes) ∙ at;
            })
        | inr d ↦
            let no = ne_eqb s.k 3 d in
            inr (record {
              level = omega (arith, s.in_k, d);
              in_y = omega (arith, cond-false (s.k == 3) m.inodes m.zones no, s.in_y);
              in_j = omega (arith, cond-false (s.k == 3) 10 m.width no, s.in_j);
              is_entered = sym (cond-false (s.k == 3) (m.marked s.y) (entered m s.k s.y) no) ∙ parts.0;
              names = sym (cond-false (s.k == 3) (m.slot s.y s.j) (m.word s.y s.j) no) ∙ at;
            })
      ]
