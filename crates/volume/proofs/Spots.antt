-- The places at each height, one level at a time.
use Rattle.std.proofs.Common.{◌≡◌, ◌≢◌, ◌⊎◌, ◌<◌, ◌≤◌, ◌+◌, ◌-◌, ◌*◌, ◌/◌, ◌%◌, ℕ, zero, suc, true, refl, sym, ap, ◌∙◌, cond, arith}
use mathlib.Core.Logic.{inl, inr}
use Rattle.std.specs.Prelude.{not, ◌&&◌, ◌||◌, ◌==◌, nat_lt}
use Rattle.std.proofs.lemmas.Bool.{cases_eq, cases_lt, or_cases, or_left, or_right, and_parts, and_from, cond-true, cond-false, eq-eqb, ne_eqb, eqb-true, lt-ltb, le-ltb, not-true, not_from_false}
use Rattle.std.proofs.lemmas.Nat.{div-mul-add, mod-mul-add}
use Rattle.lemmas.specs.Sums.{some_below}
use Rattle.volume.proofs.Naming.{Naming, room, front, spot, is_in_slot, entered}
use Rattle.volume.proofs.Sums.{some_from, some_witness}

-- the pages stand in slots 0 to 6, each block in a slot of its own
pub room_front : (h : ℕ) → h < 3 → ((h ≡ 2) × (room h ≡ 7) × (front h ≡ 0)) ⊎ ((h < 2) × (room h ≡ 1) × (front h ≡ 8 - h))
room_front h l = elim (cases_eq h 2) [
  | inl e ↦ let t = eq-eqb h 2 e in inl (e, cond-true (h == 2) 7 1 t, cond-true (h == 2) 0 (8 - h) t)
  | inr d ↦ let t = ne_eqb h 2 d in inr (omega arith, cond-false (h == 2) 7 1 t, cond-false (h == 2) 0 (8 - h) t)
]

-- those slots are below 9
pub front_below : (h i : ℕ) → h < 3 → i < room h → front h + i < 9
front_below h i l r = elim (room_front h l) [
  | inl e ↦ omega (arith, e.1, e.2)
  | inr e ↦ omega (arith, e.1, e.2, e.0)
]

-- and no two places share one
pub front_same : (a b i j : ℕ) → a < 3 → b < 3 → i < room a → j < room b → front a + i ≡ front b + j → (a ≡ b) × (i ≡ j)
front_same a b i j ha hb hi hj e = elim (room_front a ha) [
  | inl p ↦ elim (room_front b hb) [
    | inl q ↦ (omega (arith, p.0, q.0), omega (arith, p.2, q.2))
    | inr q ↦ absurd (omega (arith, p.0, p.1, p.2, q.0, q.1, q.2))
  ]
  | inr p ↦ elim (room_front b hb) [
    | inl q ↦ absurd (omega (arith, p.0, p.1, p.2, q.0, q.1, q.2))
    | inr q ↦ (omega (arith, p.0, p.1, p.2, q.0, q.1, q.2), omega (arith, p.0, p.1, p.2, q.0, q.1, q.2))
  ]
]

module _ (m : Naming) where
  -- the place of the block that names a place
  abbrev pub under : ℕ → ℕ → ℕ
  under h i = (i - room h) / m.width

  -- which of the block's numbers that is
  abbrev pub beside : ℕ → ℕ → ℕ
  beside h i = (i - room h) % m.width

  -- the triple's block
  pub spot_top : (n i : ℕ) → spot m n 0 i ≡ cond (i == 0) (m.slot n 9) 0
  unfolding spot
  spot_top n i = refl

  -- a place below height 0: in a slot, or in the block that names it
  pub spot_next : (n h i : ℕ) → spot m n (suc h) i ≡ cond (nat_lt i (room h)) (m.slot n (front h + i)) (cond (spot m n h (under h i) == 0) 0 (m.word (spot m n h (under h i)) (beside h i)))
  unfolding spot
  spot_next n h i = refl

  -- a zone at height 0 stands in slot 9
  pub seen_top : (n i z : ℕ) → spot m n 0 i ≡ z → z ≢ 0 → (i ≡ 0) × (m.slot n 9 ≡ z)
  seen_top n i z e some = elim (cases_eq i 0) [
    | inl o ↦ (o, sym (cond-true (i == 0) (m.slot n 9) 0 (eq-eqb i 0 o)) ∙ sym (spot_top n i) ∙ e)
    | inr d ↦ absurd (some (sym e ∙ spot_top n i ∙ cond-false (i == 0) (m.slot n 9) 0 (ne_eqb i 0 d)))
  ]

  -- a zone that stands in the inode
  pub record Inner (n h i z : ℕ) : Type 0 where
    pub low : i < room h
    pub names : m.slot n (front h + i) ≡ z

  -- a zone that stands in the block above
  pub record Outer (n h i z : ℕ) : Type 0 where
    pub high : room h ≤ i
    pub some : spot m n h (under h i) ≢ 0
    pub names : m.word (spot m n h (under h i)) (beside h i) ≡ z

  -- each zone below height 0 is one of the two
  pub seen_next : (n h i z : ℕ) → spot m n (suc h) i ≡ z → z ≢ 0 → Inner n h i z ⊎ Outer n h i z
  seen_next n h i z e some = elim (cases_lt i (room h)) [
    | inl low ↦ inl (record { low = low; names = sym (cond-true (nat_lt i (room h)) _ _ (lt-ltb i (room h) low)) ∙ sym (spot_next n h i) ∙ e })
    | inr high ↦
        let rest : cond (spot m n h (under h i) == 0) 0 (m.word (spot m n h (under h i)) (beside h i)) ≡ z
        = sym (cond-false (nat_lt i (room h)) _ _ (le-ltb i (room h) high)) ∙ sym (spot_next n h i) ∙ e in
        elim (cases_eq (spot m n h (under h i)) 0) [
          | inl o ↦ absurd (some (sym rest ∙ cond-true (spot m n h (under h i) == 0) 0 _ (eq-eqb _ 0 o)))
          | inr d ↦ inr (record { high = high; some = d; names = sym (cond-false (spot m n h (under h i) == 0) 0 _ (ne_eqb _ 0 d)) ∙ rest })
        ]
  ]

  -- what stands at the first places of a height
  pub spot_slot : (n h i : ℕ) → i < room h → spot m n (suc h) i ≡ m.slot n (front h + i)
  spot_slot n h i low = spot_next n h i ∙ cond-true (nat_lt i (room h)) _ _ (lt-ltb i (room h) low)

  -- what stands at the places of a block
  pub spot_word : (n h i j y : ℕ) → j < m.width → spot m n h i ≡ y → y ≢ 0 → spot m n (suc h) (room h + (i * m.width + j)) ≡ m.word y j
  spot_word n h i j y l e some =
      let p = room h + (i * m.width + j) in
      let less : p - room h ≡ i * m.width + j = omega arith in
      let d : under h p ≡ i = ap (λ a. a / m.width) less ∙ div-mul-add i m.width j l in
      let r : beside h p ≡ j = ap (λ a. a % m.width) less ∙ mod-mul-add i m.width j l in
      let y_is : spot m n h (under h p) ≡ y = ap (spot m n h) d ∙ e in
      spot_next n h p
      ∙ cond-false (nat_lt p (room h)) _ _ (le-ltb p (room h) (omega arith))
      ∙ ap (λ q. cond (q == 0) 0 (m.word q (beside h p))) y_is
      ∙ cond-false (y == 0) 0 _ (ne_eqb y 0 some)
      ∙ ap (m.word y) r

  -- entered at height 0
  pub entered_top : (z : ℕ) → entered m 0 z ≡ (not (z == 0) && is_in_slot m 9 z)
  unfolding entered
  entered_top z = refl

  -- entered below height 0
  pub entered_next : (h z : ℕ) → entered m (suc h) z
      ≡ (not (z == 0) && (is_in_slot m (8 - h) z || some_below (λ above. entered m h above && some_below (λ j. m.word above j == z) m.width) m.zones))
  unfolding entered
  entered_next h z = refl

  -- An entered zone is named at a place of its height.
  pub record Named (h z : ℕ) : Type 0 where
    pub inode : ℕ
    pub index : ℕ
    pub marked : m.marked inode ≡ true
    pub names : spot m inode h index ≡ z
    pub some : z ≢ 0

  -- what is not 0 by its test is not 0
  not_zero : (z : ℕ) → not (z == 0) ≡ true → z ≢ 0
  not_zero z e o = let t = eq-eqb z 0 o in let f = not-true (z == 0) e in absurd (cc)

  -- each entered zone is so named
  pub entered_named : (h z : ℕ) → h < 3 → entered m h z ≡ true → Named h z
  entered_named zero z l is =
      let parts = and_parts (not (z == 0)) (is_in_slot m 9 z) (sym (entered_top z) ∙ is) in
      let w = some_witness (λ n. m.marked n && (m.slot n 9 == z)) m.inodes parts.1 in
      let at = and_parts (m.marked w.0) (m.slot w.0 9 == z) w.2 in
      record { inode = w.0; index = 0; marked = at.0; names = spot_top w.0 0 ∙ eqb-true (m.slot w.0 9) z at.1; some = not_zero z parts.0 }
  entered_named (suc h) z l is =
      let parts = and_parts (not (z == 0)) _ (sym (entered_next h z) ∙ is) in
      elim (or_cases (is_in_slot m (8 - h) z) _ parts.1) [
        | inl s ↦
            let w = some_witness (λ n. m.marked n && (m.slot n (8 - h) == z)) m.inodes s in
            let at = and_parts (m.marked w.0) (m.slot w.0 (8 - h) == z) w.2 in
            let small : (h ≡ 2 → ⊥) = λ e. absurd (omega arith) in
            let one : room h ≡ 1 = cond-false (h == 2) 7 1 (ne_eqb h 2 small) in
            let at_front : front h ≡ 8 - h = cond-false (h == 2) 0 (8 - h) (ne_eqb h 2 small) in
            let place : front h + 0 ≡ 8 - h = omega arith in
            record { inode = w.0; index = 0; marked = at.0; names = spot_slot w.0 h 0 (omega arith) ∙ ap (m.slot w.0) place ∙ eqb-true (m.slot w.0 (8 - h)) z at.1; some = not_zero z parts.0 }
        | inr s ↦
            let w = some_witness (λ above. entered m h above && some_below (λ j. m.word above j == z) m.width) m.zones s in
            let at = and_parts (entered m h w.0) (some_below (λ j. m.word w.0 j == z) m.width) w.2 in
            let up = entered_named h w.0 (omega arith) at.0 in
            let x = some_witness (λ j. m.word w.0 j == z) m.width at.1 in
            record {
              inode = up.inode;
              index = room h + (up.index * m.width + x.0);
              marked = up.marked;
              names = spot_word up.inode h up.index x.0 w.0 x.1 up.names up.some ∙ eqb-true (m.word w.0 x.0) z x.2;
              some = not_zero z parts.0;
            }
      ]

  module _ (sized : 0 < m.width)
      (inside : (n : ℕ) → m.marked n ≡ true → n < m.inodes)
      (bounded : (y j : ℕ) → m.word y j ≢ 0 → y < m.zones) where
    -- what stands in a slot of a marked inode stands in some slot
    is_some_slot : (s n z : ℕ) → m.marked n ≡ true → m.slot n s ≡ z → is_in_slot m s z ≡ true
    is_some_slot s n z is e = some_from _ m.inodes n (inside n is) (and_from (m.marked n) (m.slot n s == z) is (eq-eqb (m.slot n s) z e))

    -- A zone that is named at a place of height 0, 1 or 2 is entered there.
    pub named_entered : (h n i z : ℕ) → h < 3 → m.marked n ≡ true → spot m n h i ≡ z → z ≢ 0 → entered m h z ≡ true
    named_entered zero n i z l is e some =
        let at = seen_top n i z e some in
        entered_top z ∙ and_from (not (z == 0)) (is_in_slot m 9 z) (not_from_false (z == 0) (ne_eqb z 0 some)) (is_some_slot 9 n z is at.1)
    named_entered (suc h) n i z l is e some =
        entered_next h z ∙ and_from (not (z == 0)) _ (not_from_false (z == 0) (ne_eqb z 0 some)) (elim (seen_next n h i z e some) [
          | inl low ↦
              let small : (h ≡ 2 → ⊥) = λ e. absurd (omega arith) in
              let one : room h ≡ 1 = cond-false (h == 2) 7 1 (ne_eqb h 2 small) in
              let at_front : front h ≡ 8 - h = cond-false (h == 2) 0 (8 - h) (ne_eqb h 2 small) in
              let place : front h + i ≡ 8 - h = omega (arith, low.low) in
              or_left (is_in_slot m (8 - h) z) _ (is_some_slot (8 - h) n z is (ap (m.slot n) (sym place) ∙ low.names))
          | inr up ↦
              let y = spot m n h (under h i) in
              let before = named_entered h n (under h i) y (omega arith) is refl up.some in
              let room_j : beside h i < m.width = omega arith in
              or_right (is_in_slot m (8 - h) z) _ (some_from _ m.zones y (bounded y (beside h i) (λ e. some (sym up.names ∙ e)))
              (and_from (entered m h y) _ before (some_from _ m.width (beside h i) room_j (eq-eqb (m.word y (beside h i)) z up.names))))
        ])
