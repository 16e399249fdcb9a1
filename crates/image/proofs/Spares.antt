-- Spare zones, level by level.
use Rattle.std.proofs.Common.{◌≡◌, ◌≢◌, ◌⊎◌, ◌<◌, ◌≤◌, ◌+◌, ◌-◌, ◌*◌, ◌/◌, ◌%◌, ◌^◌, ℕ, zero, suc, Bool, true, false, refl, sym, ap, subst, ◌∙◌, cond, arith}
use mathlib.Core.Logic.{inl, inr}
use Rattle.std.specs.Prelude.{not, ◌&&◌, ◌||◌, ◌==◌, nat_lt, nat_le}
use Rattle.std.proofs.lemmas.Bool.{cases_eq, cases_lt, cases_Bool, cond-true, cond-false, eq-eqb, ne_eqb, lt-ltb, le-ltb, and_from, and_parts, and_left, and_right, or_cases, or_left, or_right, or_from, not-true, both_ways}
use Rattle.std.proofs.lemmas.Nat.{div-add-mod'}
use Rattle.std.proofs.Math.Nat.{mod-lt, mul-le-mul_left}
use Rattle.lemmas.specs.Sums.{some_below}
use Rattle.tree.specs.Space.{pages_of, numbers_in_zone}
use Rattle.tree.specs.ZonesNeeded.{page_limit}
use Rattle.volume.specs.Nodes.{slot, word, is_marked}
use Rattle.volume.specs.Places.{zone_at, has_number}
use Rattle.volume.specs.Findings.{is_past_end, is_empty_block, has_spare_zone}
use Rattle.volume.proofs.Naming.{room, spot}
use Rattle.volume.proofs.Spots.{under, beside, Inner, Outer, seen_top, seen_next}
use Rattle.volume.proofs.Sums.{some_from, some_witness, none_from}
use Rattle.volume.proofs.Bridge.{no_index, zone_spot}
use Rattle.volume.proofs.Levels.{hole_below}
use Rattle.image.specs.declared.Image.{Image}
use Rattle.image.specs.Entered.{level_of}
use Rattle.image.specs.Spare.{first_place, index_of, is_spare}
use Rattle.image.proofs.Contents.{g, v, m, sized, child}

module _ (i : Image) (n : ℕ) where
  -- how many numbers a zone holds
  abbrev w : ℕ
  w = numbers_in_zone (g i)

  -- the number at a place
  abbrev at : ℕ → ℕ → ℕ
  at level k = zone_at (g i) (v i) ((v i).inodes n) level k

  -- a page
  pub spare_page : (k : ℕ) → is_spare i n 0 k ≡ is_past_end (g i) (v i) n k
  unfolding is_spare
  spare_page k = refl

  -- a block
  pub spare_block : (level k : ℕ) → is_spare i n (suc level) k
      ≡ (is_empty_block (g i) (v i) (at (suc level) k) || some_below (λ j. is_spare i n level (first_place level + (k * w + j))) w)
  unfolding is_spare
  spare_block level k = refl

  -- below a hole are holes
  hole : (level k j : ℕ) → level < 3 → j < w → at (suc level) k ≡ 0 → at level (first_place level + (k * w + j)) ≡ 0
  hole zero k j h l e = zone_spot (g i) (v i) (sized i) n 0 _ (omega arith) ∙ hole_below (m i) n 2 k j l (sym (zone_spot (g i) (v i) (sized i) n 1 k (omega arith)) ∙ e)
  hole (suc zero) k j h l e = zone_spot (g i) (v i) (sized i) n 1 _ (omega arith) ∙ hole_below (m i) n 1 k j l (sym (zone_spot (g i) (v i) (sized i) n 2 k (omega arith)) ∙ e)
  hole (suc (suc zero)) k j h l e = zone_spot (g i) (v i) (sized i) n 2 _ (omega arith) ∙ hole_below (m i) n 0 k j l (sym (zone_spot (g i) (v i) (sized i) n 3 k (omega arith)) ∙ e)
  hole (suc (suc (suc level))) k j h l e = absurd (omega arith)

  -- nothing is spare at a hole
  pub hole_spares : (level k : ℕ) → level < 4 → at level k ≡ 0 → is_spare i n level k ≡ false
  hole_spares zero k h e = spare_page k ∙ and_right (nat_le (pages_of (g i) ((v i).inodes n).size) k) _ (ap not (eq-eqb (at 0 k) 0 e))
  hole_spares (suc level) k h e =
      spare_block level k
      ∙ or_from (is_empty_block (g i) (v i) (at (suc level) k)) _ (and_left (not (at (suc level) k == 0)) _ (ap not (eq-eqb (at (suc level) k) 0 e)))
      (none_from _ w (λ j l. hole_spares level (first_place level + (k * w + j)) (omega arith) (hole level k j (omega arith) l e)))

  -- a spare place is no hole
  spare_some : (level k : ℕ) → level < 4 → is_spare i n level k ≡ true → at level k ≢ 0
  spare_some level k h is e = both_ways _ (hole_spares level k h e) is

  -- a slot at which something is spare
  record SpareSlot : Type 0 where
    s : ℕ
    low : s < 10
    is : is_spare i n (level_of s) (index_of s) ≡ true

  -- the slot of a place in the inode
  in_slot : (level k s : ℕ) → s < 10 → level_of s ≡ level → index_of s ≡ k → is_spare i n level k ≡ true → SpareSlot
  in_slot level k s h l e is = record { s = s; low = h; is = ap (λ a. is_spare i n a (index_of s)) l ∙ ap (is_spare i n level) e ∙ is }

  -- the block above a place in a block
  in_block : (level k h : ℕ) → level < 3 → first_place level ≡ room h → room h ≤ k → is_spare i n level k ≡ true → is_spare i n (suc level) ((k - room h) / w) ≡ true
  in_block level k h l first high is =
      let u = (k - room h) / w in
      let b = (k - room h) % w in
      let whole = div-add-mod' (k - room h) w in
      let place : first_place level + (u * w + b) ≡ k = omega arith in
      spare_block level u
      ∙ or_right (is_empty_block (g i) (v i) (at (suc level) u)) _ (some_from (λ j. is_spare i n level (first_place level + (u * w + j))) w b (mod-lt (k - room h) (sized i))
      (ap (is_spare i n level) place ∙ is))

  -- each spare place is at or below a slot
  under_3 : (k : ℕ) → is_spare i n 3 k ≡ true → SpareSlot
  under_3 k is =
      let top = seen_top (m i) n k (at 3 k) (sym (zone_spot (g i) (v i) (sized i) n 3 k (omega arith))) (spare_some 3 k (omega arith) is) in
      in_slot 3 k 9 (omega arith) refl (sym top.0) is

  under_2 : (k : ℕ) → is_spare i n 2 k ≡ true → SpareSlot
  under_2 k is = elim (seen_next (m i) n 0 k (at 2 k) (sym (zone_spot (g i) (v i) (sized i) n 2 k (omega arith))) (spare_some 2 k (omega arith) is)) [
    | inl inner ↦ let first : 0 ≡ k = omega (arith, inner.low) in in_slot 2 k 8 (omega arith) refl first is
    | inr outer ↦ under_3 ((k - room 0) / w) (in_block 2 k 0 (omega arith) refl outer.high is)
  ]

  under_1 : (k : ℕ) → is_spare i n 1 k ≡ true → SpareSlot
  under_1 k is = elim (seen_next (m i) n 1 k (at 1 k) (sym (zone_spot (g i) (v i) (sized i) n 1 k (omega arith))) (spare_some 1 k (omega arith) is)) [
    | inl inner ↦ let first : 0 ≡ k = omega (arith, inner.low) in in_slot 1 k 7 (omega arith) refl first is
    | inr outer ↦ under_2 ((k - room 1) / w) (in_block 1 k 1 (omega arith) refl outer.high is)
  ]

  under_0 : (k : ℕ) → is_spare i n 0 k ≡ true → SpareSlot
  under_0 k is = elim (seen_next (m i) n 2 k (at 0 k) (sym (zone_spot (g i) (v i) (sized i) n 0 k (omega arith))) (spare_some 0 k (omega arith) is)) [
    | inl inner ↦
        let low : k < 7 = inner.low in
        let t = lt-ltb k 7 low in
        in_slot 0 k k (omega arith) (cond-true (nat_lt k 7) 0 (k - 6) t) (cond-true (nat_lt k 7) k 0 t) is
    | inr outer ↦ under_1 ((k - room 2) / w) (in_block 0 k 2 (omega arith) refl outer.high is)
  ]

  under_slot : (level k : ℕ) → level < 4 → is_spare i n level k ≡ true → SpareSlot
  under_slot zero k h is = under_0 k is
  under_slot (suc zero) k h is = under_1 k is
  under_slot (suc (suc zero)) k h is = under_2 k is
  under_slot (suc (suc (suc zero))) k h is = under_3 k is
  under_slot (suc (suc (suc (suc level)))) k h is = absurd (omega arith)

  -- where nothing is spare at the slots, the inode has no spare zone
  pub no_spare : ((s : ℕ) → s < 10 → is_spare i n (level_of s) (index_of s) ≡ false) → has_spare_zone (g i) (v i) n ≡ false
  no_spare none =
      let limit = page_limit w in
      and_right (is_marked (g i) (v i) n) _ (or_from (some_below (is_past_end (g i) (v i) n) limit) _
      (none_from (is_past_end (g i) (v i) n) limit (λ k _. nowhere 0 k (omega arith) (is_past_end (g i) (v i) n k) (λ is. spare_page k ∙ is)))
      (none_from (λ l. some_below (λ k. is_empty_block (g i) (v i) (at (suc l) k)) limit) 3
      (λ l h. none_from (λ k. is_empty_block (g i) (v i) (at (suc l) k)) limit
      (λ k _. nowhere (suc l) k (omega arith) (is_empty_block (g i) (v i) (at (suc l) k)) (λ is. spare_block l k ∙ or_left _ _ is)))))
    where
      nowhere : (level k : ℕ) → level < 4 → (b : Bool) → (b ≡ true → is_spare i n level k ≡ true) → b ≡ false
      nowhere level k h b some = elim (cases_Bool b) [
        | inl is ↦ let slot = under_slot level k h (some is) in absurd (both_ways _ (none slot.s slot.low) slot.is)
        | inr out ↦ out
      ]

  -- no hole is an empty block
  block_some : (z : ℕ) → is_empty_block (g i) (v i) z ≡ true → z ≢ 0
  block_some z is e = both_ways _ (not-true _ (and_parts (not (z == 0)) _ is).0) (eq-eqb z 0 e)

  -- a place that is no hole is below the limit
  below_limit : (level k : ℕ) → level < 4 → at level k ≢ 0 → k < page_limit w
  below_limit level k h some = elim (cases_lt k (page_limit w)) [
    | inl low ↦ low
    | inr far ↦ absurd (some (no_index (g i) (v i) (sized i) n level k h far))
  ]

  module _ (marked : is_marked (g i) (v i) n ≡ true) where
    -- a spare zone at a place, or below it, is one of the inode
    pub some_spare : (level k : ℕ) → level < 4 → is_spare i n level k ≡ true → has_spare_zone (g i) (v i) n ≡ true
    some_spare zero k h is =
        let past = sym (spare_page k) ∙ is in
        and_from (is_marked (g i) (v i) n) _ marked
        (or_left (some_below (is_past_end (g i) (v i) n) (page_limit w)) _ (some_from (is_past_end (g i) (v i) n) (page_limit w) k (below_limit 0 k h (spare_some 0 k h is)) past))
    some_spare (suc level) k h is = elim (or_cases (is_empty_block (g i) (v i) (at (suc level) k)) _ (sym (spare_block level k) ∙ is)) [
      | inl empty ↦
          and_from (is_marked (g i) (v i) n) _ marked
          (or_right (some_below (is_past_end (g i) (v i) n) (page_limit w)) _
          (some_from (λ l. some_below (λ k. is_empty_block (g i) (v i) (at (suc l) k)) (page_limit w)) 3 level (omega arith)
          (some_from (λ k. is_empty_block (g i) (v i) (at (suc level) k)) (page_limit w) k (below_limit (suc level) k h (block_some (at (suc level) k) empty)) empty)))
      | inr below ↦
          let j = some_witness (λ j. is_spare i n level (first_place level + (k * w + j))) w below in
          some_spare level (first_place level + (k * w + j.0)) (omega arith) j.2
    ]

  -- an inode that isn't marked has none
  pub unmarked_spare : is_marked (g i) (v i) n ≡ false → has_spare_zone (g i) (v i) n ≡ false
  unmarked_spare out = and_left (is_marked (g i) (v i) n) _ out

  -- a block by its level
  block_level : (level k : ℕ) → 0 < level → is_spare i n level k
      ≡ (is_empty_block (g i) (v i) (at level k) || some_below (λ j. is_spare i n (level - 1) (first_place (level - 1) + (k * w + j))) w)
  block_level zero k s = absurd (omega arith)
  block_level (suc level) k s =
      let less : level ≡ suc level - 1 = omega arith in
      spare_block level k
      ∙ ap (λ l. is_empty_block (g i) (v i) (at (suc level) k) || some_below (λ j. is_spare i n l (first_place l + (k * w + j))) w) less

  -- what a block names stands below it
  pub child_at : (level k j z : ℕ) → 0 < level → level < 4 → j < w → at level k ≡ z → z ≢ 0 → at (level - 1) (first_place (level - 1) + (k * w + j)) ≡ word (v i) z j
  child_at zero k j z s h l e some = absurd (omega arith)
  child_at (suc zero) k j z s h l e some = child i n 0 k j z (omega arith) l e some
  child_at (suc (suc zero)) k j z s h l e some = child i n 1 k j z (omega arith) l e some
  child_at (suc (suc (suc zero))) k j z s h l e some = child i n 2 k j z (omega arith) l e some
  child_at (suc (suc (suc (suc level)))) k j z s h l e some = absurd (omega arith)

  module _ (level k z : ℕ) (low : level < 4) (zone : z ≡ at level k) (some : z ≢ 0) where
    -- a page
    pub page_read : level ≡ 0 → nat_le (pages_of (g i) ((v i).inodes n).size) k ≡ is_spare i n level k
    page_read e =
        let held : not (at 0 k == 0) ≡ true = ap not (ne_eqb (at 0 k) 0 (λ o. some (zone ∙ ap (λ l. at l k) e ∙ o))) in
        let both : (b : Bool) → b ≡ (b && true) = λ b. elim b as (λ b. b ≡ (b && true)) [ true ↦ refl | false ↦ refl ] in
        both (nat_le (pages_of (g i) ((v i).inodes n).size) k) ∙ ap (λ b. nat_le (pages_of (g i) ((v i).inodes n).size) k && b) (sym held)
        ∙ sym (spare_page k) ∙ ap (λ l. is_spare i n l k) (sym e)

    module _ (block : 0 < level) where
      -- a block without numbers
      pub empty_spare : has_number (g i) (v i) z ≡ false → true ≡ is_spare i n level k
      empty_spare out =
          let empty : is_empty_block (g i) (v i) z ≡ true = and_from (not (z == 0)) _ (ap not (ne_eqb z 0 some)) (ap not out) in
          sym (block_level level k block ∙ or_left _ _ (ap (is_empty_block (g i) (v i)) (sym zone) ∙ empty))

      -- one with something spare below
      pub below_spare : (j : ℕ) → j < w → is_spare i n (level - 1) (first_place (level - 1) + (k * w + j)) ≡ true → true ≡ is_spare i n level k
      below_spare j h is = sym (block_level level k block ∙ or_right (is_empty_block (g i) (v i) (at level k)) _ (some_from (λ j. is_spare i n (level - 1) (first_place (level - 1) + (k * w + j))) w j h is))

      -- any other
      pub none_spare : has_number (g i) (v i) z ≡ true → ((j : ℕ) → j < w → is_spare i n (level - 1) (first_place (level - 1) + (k * w + j)) ≡ false) → false ≡ is_spare i n level k
      none_spare is none =
          let full : is_empty_block (g i) (v i) z ≡ false = and_right (not (z == 0)) _ (ap not is) in
          sym (block_level level k block ∙ or_from _ _ (ap (is_empty_block (g i) (v i)) (sym zone) ∙ full) (none_from (λ j. is_spare i n (level - 1) (first_place (level - 1) + (k * w + j))) w none))

-- the places of the slots are small
pub slot_near : (s : ℕ) → s < 10 → (level_of s < 4) × (index_of s + 8 ≤ 1024 ^ (4 - level_of s))
slot_near s h = elim (cases_lt s 7) [
  | inl low ↦
      let t = lt-ltb s 7 low in
      let l : level_of s ≡ 0 = cond-true (nat_lt s 7) 0 (s - 6) t in
      let k : index_of s ≡ s = cond-true (nat_lt s 7) s 0 t in
      let P : ℕ → Type 0 = λ a. (a < 4) × (index_of s + 8 ≤ 1024 ^ (4 - a)) in
      let here : P 0 = (omega arith, omega arith) in
      subst P (sym l) here
  | inr high ↦
      let t = le-ltb s 7 high in
      let l : level_of s ≡ s - 6 = cond-false (nat_lt s 7) 0 (s - 6) t in
      let k : index_of s ≡ 0 = cond-false (nat_lt s 7) s 0 t in
      let P : ℕ → Type 0 = λ a. (a < 4) × (index_of s + 8 ≤ 1024 ^ (4 - a)) in
      let one : P 1 = (omega arith, omega arith) in
      let two : P 2 = (omega arith, omega arith) in
      let three : P 3 = (omega arith, omega arith) in
      elim (cases_eq s 7) [
        | inl e ↦ let is : 1 ≡ level_of s = omega arith in subst P is one
        | inr d ↦ elim (cases_eq s 8) [
          | inl e ↦ let is : 2 ≡ level_of s = omega arith in subst P is two
          | inr d' ↦ let is : 3 ≡ level_of s = omega arith in subst P is three
        ]
      ]
]

-- the places of a block below another stay small
pub deeper : (level k w j : ℕ) → 0 < level → level < 4 → w ≤ 1024 → j < w → k + 8 ≤ 1024 ^ (4 - level) → first_place (level - 1) + (k * w + j) + 8 ≤ 1024 ^ (4 - (level - 1))
deeper zero k w j s h l m near = absurd (omega arith)
deeper (suc zero) k w j s h l m near = let p = mul-le-mul_left k l in omega arith
deeper (suc (suc zero)) k w j s h l m near = let p = mul-le-mul_left k l in omega arith
deeper (suc (suc (suc zero))) k w j s h l m near = let p = mul-le-mul_left k l in omega arith
deeper (suc (suc (suc (suc level)))) k w j s h l m near = absurd (omega arith)

-- they fit a number
pub small_place : (level k w j : ℕ) → 0 < level → level < 4 → w ≤ 1024 → k + 8 ≤ 1024 ^ (4 - level) → k * w ≤ 1024 ^ 4
small_place zero k w j s h l near = absurd (omega arith)
small_place (suc zero) k w j s h l near = let p = mul-le-mul_left k l in omega arith
small_place (suc (suc zero)) k w j s h l near = let p = mul-le-mul_left k l in omega arith
small_place (suc (suc (suc zero))) k w j s h l near = let p = mul-le-mul_left k l in omega arith
small_place (suc (suc (suc (suc level)))) k w j s h l near = absurd (omega arith)

-- so does where they begin
pub first_small : (level : ℕ) → first_place level ≤ 7
first_small level = elim (cases_eq level 0) [
  | inl e ↦ let is : first_place level ≡ 7 = cond-true (level == 0) 7 1 (eq-eqb level 0 e) in omega arith
  | inr d ↦ let is : first_place level ≡ 1 = cond-false (level == 0) 7 1 (ne_eqb level 0 d) in omega arith
]
