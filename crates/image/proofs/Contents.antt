-- The numbers of an image's inodes and zones.
use Rattle.std.proofs.Common.{◌≡◌, ◌≢◌, ◌<◌, ◌≤◌, ◌+◌, ◌-◌, ◌*◌, ℕ, zero, suc, true, false, refl, sym, ap, ◌∙◌, cond, arith}
use mathlib.Core.Logic.{inl, inr}
use Rattle.std.specs.Prelude.{◌==◌, nat_lt, nat_le}
use Rattle.std.proofs.lemmas.Bool.{cases_eq, cases_lt, cases_Bool, cond-true, cond-false, and_parts, and_left, and_right, leb-true, lt-leb}
use Rattle.std.proofs.lemmas.Bool.{lt-ltb, eq-eqb, ne_eqb}
use Rattle.layout.specs.declared.Geometry.{Geometry}
use Rattle.layout.specs.Places.{IsGeometry}
use Rattle.tree.specs.Space.{numbers_in_zone}
use Rattle.volume.specs.declared.Inode.{Inode}
use Rattle.volume.specs.Reading.{is_inode, is_data_zone}
use Rattle.volume.specs.Pieces.{Pieces}
use Rattle.volume.specs.Nodes.{word, number, slot, page_zone, file_byte, is_marked}
use Rattle.volume.specs.Places.{zone_at}
use Rattle.volume.proofs.Naming.{Naming, room}
use Rattle.volume.proofs.Spots.{spot_word}
use Rattle.volume.proofs.Bridge.{naming, zone_spot}
use Rattle.image.specs.declared.Image.{Image}
use Rattle.image.specs.Contents.{contents}
use Rattle.image.proofs.Places as places
use Rattle.image.specs.Entered.{level_of, numbers_at}

module _ (i : Image) where
  -- the volume's sizes
  abbrev pub g : Geometry
  g = i.geometry

  -- its pieces
  abbrev pub v : Pieces
  v = contents i

  -- its numbers
  abbrev pub m : Naming
  m = naming g v

  -- they are in their ranges
  pub is_geometry : IsGeometry g
  is_geometry = places.is_geometry i.bytes.now g i.parsed

  -- a zone holds some
  pub sized : 0 < numbers_in_zone g
  sized = places.some_numbers i.bytes.now g i.parsed

  -- a marked inode is one of the volume's
  pub inside : (n : ℕ) → is_marked g v n ≡ true → n < g.inodes + 1
  inside n is =
      let marked = and_parts (is_inode g n) (v.inode_map n) is in
      let range = and_parts (nat_le 1 n) (nat_le n g.inodes) marked.0 in
      let most = leb-true n g.inodes range.1 in
      omega arith

  -- a number that isn't 0 stands in a data zone
  pub in_data : (y j : ℕ) → word v y j ≢ 0 → is_data_zone g y ≡ true
  unfolding contents
  in_data y j some = elim (cases_Bool (is_data_zone g y)) [
    | inl is ↦ is
    | inr out ↦ absurd (some (places.blank_word i.bytes.now g i.parsed y j out))
  ]

  -- which is below the last
  pub bounded : (y j : ℕ) → word v y j ≢ 0 → y < g.zones
  bounded y j some = (places.data_some i.bytes.now g i.parsed y (in_data y j some)).1

  -- a data zone is below the last
  pub data_some : (z : ℕ) → is_data_zone g z ≡ true → z < g.zones
  data_some z is = (places.data_some i.bytes.now g i.parsed z is).1

  -- and isn't zone 0
  pub zone_some : (z : ℕ) → is_data_zone g z ≡ true → z ≢ 0
  zone_some z is = (places.data_some i.bytes.now g i.parsed z is).0

  -- no number past the last is a marked inode's
  pub out_of_range : (n : ℕ) → g.inodes + 1 ≤ n → is_marked g v n ≡ false
  out_of_range n far = and_left (is_inode g n) (v.inode_map n) (and_right (nat_le 1 n) (nat_le n g.inodes) (lt-leb n g.inodes (omega arith)))

  -- nor is 0
  pub zero_unmarked : (n : ℕ) → n < 1 → is_marked g v n ≡ false
  zero_unmarked n h = and_left (is_inode g n) (v.inode_map n) (and_left (nat_le 1 n) (nat_le n g.inodes) (lt-leb 1 n h))

  -- a number below another block
  pub child : (n level k j z : ℕ) → level < 3 → j < numbers_in_zone g → zone_at g v (v.inodes n) (suc level) k ≡ z → z ≢ 0
      → zone_at g v (v.inodes n) level (room (2 - level) + (k * numbers_in_zone g + j)) ≡ word v z j
  child n zero k j z h l e some = zone_spot g v sized n 0 _ (omega arith) ∙ spot_word m n 2 k j z l (sym (zone_spot g v sized n 1 k (omega arith)) ∙ e) some
  child n (suc zero) k j z h l e some = zone_spot g v sized n 1 _ (omega arith) ∙ spot_word m n 1 k j z l (sym (zone_spot g v sized n 2 k (omega arith)) ∙ e) some
  child n (suc (suc zero)) k j z h l e some = zone_spot g v sized n 2 _ (omega arith) ∙ spot_word m n 0 k j z l (sym (zone_spot g v sized n 3 k (omega arith)) ∙ e) some
  child n (suc (suc (suc level))) k j z h l e some = absurd (omega arith)

  -- the same, from the block's level
  pub child_of : (n level k j z : ℕ) → 0 < level → level < 4 → j < numbers_in_zone g → zone_at g v (v.inodes n) level k ≡ z → z ≢ 0
      → zone_at g v (v.inodes n) (level - 1) (room (3 - level) + (k * numbers_in_zone g + j)) ≡ word v z j
  child_of n zero k j z s h l e some = absurd (omega arith)
  child_of n (suc zero) k j z s h l e some = child n 0 k j z (omega arith) l e some
  child_of n (suc (suc zero)) k j z s h l e some = child n 1 k j z (omega arith) l e some
  child_of n (suc (suc (suc zero))) k j z s h l e some = child n 2 k j z (omega arith) l e some
  child_of n (suc (suc (suc (suc level)))) k j z s h l e some = absurd (omega arith)

  -- what is read of a zone but 0 is its number
  pub number_is : (z j : ℕ) → z ≢ 0 → number v z j ≡ word v z j
  number_is z j some = cond-false (z == 0) 0 (word v z j) (ne_eqb z 0 some)

  -- of zone 0 too, since none stands there
  pub number_word : (z j : ℕ) → number v z j ≡ word v z j
  unfolding contents
  number_word z j = elim (cases_Bool (is_data_zone g z)) [
    | inl is ↦ number_is z j (zone_some z is)
    | inr out ↦ sym (places.no_word i.bytes.now g i.parsed z j out) ∙ sym (places.blank_word i.bytes.now g i.parsed z j out)
  ]

  -- byte 0 of a file is 0 where no data zone lies
  pub blank_first : (x : Inode) → 0 < x.size → is_data_zone g (page_zone g v x 0) ≡ false → file_byte g v x 0 ≡ 0
  unfolding contents
  blank_first x some out = places.first_blank i.bytes.now g i.parsed x some out

  -- a page has no numbers
  pub numbers_low : (level j : ℕ) → j < numbers_at i level → (0 < level) × (j < numbers_in_zone g)
  numbers_low level j h = elim (cases_eq level 0) [
    | inl e ↦ let none : numbers_at i level ≡ 0 = cond-true (level == 0) 0 (numbers_in_zone g) (eq-eqb level 0 e) in absurd (omega arith)
    | inr d ↦ let all : numbers_at i level ≡ numbers_in_zone g = cond-false (level == 0) 0 (numbers_in_zone g) (ne_eqb level 0 d) in (omega arith, omega arith)
  ]

  -- the place of a slot at its level
  abbrev pub index_of : ℕ → ℕ
  index_of s = cond (nat_lt s 7) s 0

  -- the number of a slot stands there
  pub slot_place : (n s : ℕ) → s < 10 → zone_at g v (v.inodes n) (level_of s) (index_of s) ≡ slot (v.inodes n) s
  slot_place n s h = elim (cases_lt s 7) [
    | inl low ↦
        let t = lt-ltb s 7 low in
        (λ k. zone_at g v (v.inodes n) (cond-true (nat_lt s 7) 0 (s - 6) t k) (cond-true (nat_lt s 7) s 0 t k))
        ∙ cond-true (nat_lt s 7) (slot (v.inodes n) s) _ t
    | inr high ↦ elim (cases_eq s 7) [
      | inl e ↦ at 7 e refl
      | inr d ↦ elim (cases_eq s 8) [
        | inl e ↦ at 8 e refl
        | inr d' ↦ let e : s ≡ 9 = omega arith in at 9 e refl
      ]
    ]
  ]
    where
      at : (t : ℕ) → s ≡ t → zone_at g v (v.inodes n) (level_of t) (index_of t) ≡ slot (v.inodes n) t → zone_at g v (v.inodes n) (level_of s) (index_of s) ≡ slot (v.inodes n) s
      at t e there = ap (λ s. zone_at g v (v.inodes n) (level_of s) (index_of s)) e ∙ there ∙ sym (ap (slot (v.inodes n)) e)
