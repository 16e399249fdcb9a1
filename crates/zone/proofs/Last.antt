-- The last page that has a zone.
use Rattle.std.proofs.Common.{◌≡◌, ◌≢◌, ◌<◌, ◌≤◌, ◌+◌, ◌*◌, ◌-◌, ◌/◌, ◌%◌, ℕ, zero, suc, refl, sym, ap, subst, ◌∙◌, arith}
use mathlib.Core.Logic.{inl, inr}
use Rattle.std.specs.Prelude.{◌==◌, not, Option, None, Some, IfSome}
use Rattle.std.proofs.lemmas.Bool.{cases_eq, cases_lt, cond-false, ne_eqb, eq-eqb, not-true}
use Rattle.std.proofs.lemmas.Nat.{div-add-mod', div-mul-add, mod-mul-add, mul-add-lt}
use Rattle.std.proofs.Math.Nat.{mul_comm}
use Rattle.layout.specs.declared.Geometry.{Geometry}
use Rattle.layout.specs.Places.{IsGeometry}
use Rattle.layout.proofs.Parsed.{block_sizes}
use Rattle.tree.specs.Space.{numbers_in_zone}
use Rattle.tree.specs.ZonesNeeded.{page_limit}
use Rattle.volume.specs.declared.Inode.{Inode}
use Rattle.volume.specs.Pieces.{Pieces}
use Rattle.volume.specs.Nodes.{slot, word, number}
use Rattle.volume.specs.Places.{zone_at}
use Rattle.volume.proofs.Sums.{some_witness}
use Rattle.zone.specs.ZoneSteps.{first_places, slot_of, above, beside}
use Rattle.zone.specs.PlaceParts.{IsLastNumber}
use Rattle.zone.specs.Pages.{child_at, place_count}
use Rattle.zone.specs.Slots.{IsLastSlot}
use Rattle.zone.specs.CutFiles.{IsLastAt, IsFull, IsLastHeld, IsLastBefore, HasNoneFrom}
use Rattle.zone.proofs.Levels.{zone_inner, zone_outer, zone_top}

-- a child of a level's place is a place of the next level
pub child_within : (g : Geometry) (l k j : ℕ) → l < 3 → k < place_count g (l + 1) → j < numbers_in_zone g → child_at g l k j < place_count g l
child_within g zero k j low under small =
    let w = numbers_in_zone g in
    let e : w * (1 + w + w * w) ≡ w + w * w + w * w * w = grind arith in
    let t = mul-add-lt k w j (1 + w + w * w) under small in
    omega (arith, e, t)
child_within g (suc zero) k j low under small =
    let w = numbers_in_zone g in
    let e : w * (1 + w) ≡ w + w * w = grind arith in
    let t = mul-add-lt k w j (1 + w) under small in
    omega (arith, e, t)
child_within g (suc (suc zero)) k j low under small =
    let w = numbers_in_zone g in
    let e : w * 1 ≡ w = omega arith in
    let t = mul-add-lt k w j 1 under small in
    omega (arith, e, t)
child_within g (suc (suc (suc l))) k j low under small = absurd (omega arith)

-- the places fit 32 bits
pub places_fit : (g : Geometry) (l : ℕ) → IsGeometry g → l < 4 → place_count g l < 4294967296
places_fit g l ok low = by l low (elim (block_sizes g.block_size ok.block_size) [
  | inl e ↦ subst (λ x. page_limit (x / 4) < 4294967296) (sym e) (let t : page_limit 256 < 4294967296 = omega arith in t)
  | inr (inl e) ↦ subst (λ x. page_limit (x / 4) < 4294967296) (sym e) (let t : page_limit 512 < 4294967296 = omega arith in t)
  | inr (inr e) ↦ subst (λ x. page_limit (x / 4) < 4294967296) (sym e) (let t : page_limit 1024 < 4294967296 = omega arith in t)
])
  where
    by : (l : ℕ) → l < 4 → page_limit (numbers_in_zone g) < 4294967296 → place_count g l < 4294967296
    by zero low h = h
    by (suc zero) low h = omega arith
    by (suc (suc zero)) low h = omega arith
    by (suc (suc (suc l))) low h = omega arith

module _ (g : Geometry) (sized : 0 < numbers_in_zone g) (v : Pieces) (i : Inode) where
  -- a child's place
  child_first : (l k j : ℕ) → first_places l ≤ child_at g l k j
  child_first l k j = omega arith

  pub child_up : (l k j : ℕ) → j < numbers_in_zone g → (above g l (child_at g l k j) ≡ k) × (beside g l (child_at g l k j) ≡ j)
  child_up l k j h =
      let less : child_at g l k j - first_places l ≡ k * numbers_in_zone g + j = omega arith in
      (ap (λ x. x / numbers_in_zone g) less ∙ div-mul-add k (numbers_in_zone g) j h, ap (λ x. x % numbers_in_zone g) less ∙ mod-mul-add k (numbers_in_zone g) j h)

  pub child_zone : (l k j : ℕ) → l < 3 → j < numbers_in_zone g → zone_at g v i l (child_at g l k j) ≡ number v (zone_at g v i (suc l) k) j
  child_zone l k j low h =
      let up = child_up l k j h in
      zone_outer g v i l (child_at g l k j) sized low (child_first l k j) ∙ (λ t. number v (zone_at g v i (suc l) (up.0 t)) (up.1 t))

  -- below the last place of a level stands the last place of the next
  pub last_child : (l k j : ℕ) → l < 3 → IsLastAt g v i (suc l) k → IsLastNumber v (zone_at g v i (suc l) k) (numbers_in_zone g) (Some j) → IsLastAt g v i l (child_at g l k j)
  last_child l k j low at last = record {
    held = λ none. last.1 (sym (child_zone l k j low last.0) ∙ none);
    last = λ m far.
        let w = numbers_in_zone g in
        let past : first_places l ≤ m = omega arith in
        let whole = div-add-mod' (m - first_places l) w in
        let under : beside g l m < w = omega arith in
        zone_outer g v i l m sized low past
        ∙ elim (cases_lt k (above g l m)) [
          | inl more ↦ ap (λ z. number v z (beside g l m)) (at.last (above g l m) more)
          | inr less ↦ elim (cases_eq (above g l m) k) [
            | inl same ↦
                let q : above g l m * w ≡ k * w = ap (λ x. x * w) same in
                ap (λ x. number v (zone_at g v i (suc l) x) (beside g l m)) same ∙ last.2 (beside g l m) (omega arith) under
            | inr differ ↦
                let t = mul-add-lt (above g l m) w (beside g l m) k (omega arith) under in
                let c = mul_comm w k in
                absurd (omega (arith, whole, t, c))
          ]
        ];
  }

  -- a full volume has no bare block
  pub not_bare : (l k : ℕ) → IsFull g v i → IsLastAt g v i (suc l) k → IsLastNumber v (zone_at g v i (suc l) k) (numbers_in_zone g) None → ⊥
  not_bare l k full at none =
      let z : ℕ = zone_at g v i (suc l) k in
      let x = some_witness (λ j. not (word v z j == 0)) (numbers_in_zone g) (full l k at.held) in
      let o : word v z x.0 ≡ 0 = sym (cond-false (z == 0) 0 (word v z x.0) (ne_eqb z 0 at.held)) ∙ none x.0 x.1 in
      let t = not-true (word v z x.0 == 0) x.2 in
      let f = eq-eqb (word v z x.0) 0 o in
      absurd cc

  -- where the slots of higher levels are 0, so are all places there
  pub none_at : (l : ℕ) → ((s : ℕ) → 7 + l ≤ s → s < 10 → slot i s ≡ 0) → (a k : ℕ) → l < a → a < 4 → zone_at g v i a k ≡ 0
  none_at l zeros a k more low = elim (cases_lt k (first_places a)) [
    | inl near ↦ zone_inner g v i a k low near ∙ ap (slot i) (let e : slot_of a k ≡ 6 + a = cond-false (a == 0) k (6 + a) (ne_eqb a 0 (λ o. absurd (omega arith))) in e) ∙ zeros (6 + a) (omega arith) (omega arith)
    | inr far ↦ outer a k more low far
  ]
    where
      outer : (a k : ℕ) → l < a → a < 4 → first_places a ≤ k → zone_at g v i a k ≡ 0
      outer zero k more low far = absurd (omega arith)
      outer (suc zero) k more low far = zone_outer g v i 1 k sized (omega arith) far ∙ ap (λ z. number v z (beside g 1 k)) (second (above g 1 k))
        where
          third : (k : ℕ) → zone_at g v i 3 k ≡ 0
          third k = elim (cases_lt k 1) [
            | inl near ↦ zone_inner g v i 3 k (omega arith) near ∙ zeros 9 (omega arith) (omega arith)
            | inr past ↦ zone_top g v i k past
          ]

          second : (k : ℕ) → zone_at g v i 2 k ≡ 0
          second k = elim (cases_lt k 1) [
            | inl near ↦ zone_inner g v i 2 k (omega arith) near ∙ zeros 8 (omega arith) (omega arith)
            | inr past ↦ zone_outer g v i 2 k sized (omega arith) past ∙ ap (λ z. number v z (beside g 2 k)) (third (above g 2 k))
          ]
      outer (suc (suc zero)) k more low far = zone_outer g v i 2 k sized (omega arith) far ∙ ap (λ z. number v z (beside g 2 k)) (third (above g 2 k))
        where
          third : (k : ℕ) → zone_at g v i 3 k ≡ 0
          third k = elim (cases_lt k 1) [
            | inl near ↦ zone_inner g v i 3 k (omega arith) near ∙ zeros 9 (omega arith) (omega arith)
            | inr past ↦ zone_top g v i k past
          ]
      outer (suc (suc (suc zero))) k more low far = zone_top g v i k far
      outer (suc (suc (suc (suc a)))) k more low far = absurd (omega arith)

  -- without a slot that isn't 0 no page is held
  pub no_page : IsLastSlot i None → (p : ℕ) → zone_at g v i 0 p ≡ 0
  no_page none p = elim (cases_lt p 7) [
    | inl near ↦ zone_inner g v i 0 p (omega arith) near ∙ none p (omega arith)
    | inr far ↦ zone_outer g v i 0 p sized (omega arith) far ∙ ap (λ z. number v z (beside g 0 p)) (none_at 0 (λ s low high. none s high) 1 (above g 0 p) (omega arith) (omega arith))
  ]

  -- the last slot of the pages is the last page
  pub slot_page : (s : ℕ) → s < 7 → IsLastSlot i (Some s) → IsLastAt g v i 0 s
  slot_page s near last = record {
    held = λ none. last.1 (sym (zone_inner g v i 0 s (omega arith) near) ∙ none);
    last = λ m more. elim (cases_lt m 7) [
      | inl close ↦ zone_inner g v i 0 m (omega arith) close ∙ last.2 m more (omega arith)
      | inr far ↦ zone_outer g v i 0 m sized (omega arith) far
          ∙ ap (λ z. number v z (beside g 0 m)) (none_at 0 (λ t low high. last.2 t (omega arith) high) 1 (above g 0 m) (omega arith) (omega arith))
    ];
  }

  -- the last slot of the blocks is the last place of its level
  pub slot_block : (a : ℕ) → 0 < a → a < 4 → IsLastSlot i (Some (6 + a)) → IsLastAt g v i a 0
  slot_block zero some low last = absurd (omega arith)
  slot_block (suc zero) some low last = record {
    held = λ none. last.1 (sym (zone_inner g v i 1 0 (omega arith) (omega arith)) ∙ none);
    last = λ m more. zone_outer g v i 1 m sized (omega arith) (omega arith)
        ∙ ap (λ z. number v z (beside g 1 m)) (none_at 1 (λ t from to. last.2 t (omega arith) to) 2 (above g 1 m) (omega arith) (omega arith));
  }
  slot_block (suc (suc zero)) some low last = record {
    held = λ none. last.1 (sym (zone_inner g v i 2 0 (omega arith) (omega arith)) ∙ none);
    last = λ m more. zone_outer g v i 2 m sized (omega arith) (omega arith)
        ∙ ap (λ z. number v z (beside g 2 m)) (none_at 2 (λ t from to. last.2 t (omega arith) to) 3 (above g 2 m) (omega arith) (omega arith));
  }
  slot_block (suc (suc (suc zero))) some low last = record {
    held = λ none. last.1 (sym (zone_inner g v i 3 0 (omega arith) (omega arith)) ∙ none);
    last = λ m more. zone_top g v i m (omega arith);
  }
  slot_block (suc (suc (suc (suc a)))) some low last = absurd (omega arith)

-- one level down, as the code goes
pub last_down : (g : Geometry) (v : Pieces) (i : Inode) (l k b j c w : ℕ) (x : Option ℕ) → 0 < numbers_in_zone g → l < 4 → l ≢ 0 → b ≡ zone_at g v i l k → w ≡ numbers_in_zone g → x ≡ Some j → IsLastNumber v b w x
    → c ≡ child_at g (l - 1) k j → IsLastAt g v i l k → IsLastAt g v i (l - 1) c
last_down g v i zero k b j c w x sized low some at wide is last down h = absurd (some refl)
last_down g v i (suc l) k b j c w x sized low some at wide is last down h =
    let less : suc l - 1 ≡ l = omega arith in
    let n = subst (λ (y : ℕ × ℕ × Option ℕ). IsLastNumber v y.0 y.1 y.2) (λ t. (at t, wide t, is t)) last in
    subst (λ (y : ℕ × ℕ). IsLastAt g v i y.0 y.1) (λ t. (sym less t, (let e : child_at g l k j ≡ c = ap (λ z. child_at g z k j) (sym less) ∙ sym down in e) t))
    (last_child g sized v i l k j (omega arith) h n)

pub bare_down : (g : Geometry) (v : Pieces) (i : Inode) (l k b w : ℕ) (x : Option ℕ) → 0 < numbers_in_zone g → l ≢ 0 → b ≡ zone_at g v i l k → w ≡ numbers_in_zone g → x ≡ None → IsLastNumber v b w x
    → IsLastAt g v i l k × IsFull g v i → ⊥
bare_down g v i zero k b w x sized some at wide is last h = absurd (some refl)
bare_down g v i (suc l) k b w x sized some at wide is last h =
    not_bare g sized v i l k h.1 h.0 (subst (λ (y : ℕ × ℕ × Option ℕ). IsLastNumber v y.0 y.1 y.2) (λ t. (at t, wide t, is t)) last)

-- where a slot stands
pub slot_stands : (g : Geometry) (v : Pieces) (i : Inode) (s l k : ℕ) → 0 < numbers_in_zone g → (s < 7 → (l ≡ 0) × (k ≡ s)) → (7 ≤ s → (l ≡ s - 6) × (k ≡ 0)) → IsLastSlot i (Some s) → IsLastAt g v i l k
slot_stands g v i s l k sized page block last = elim (cases_lt s 7) [
  | inl near ↦ let p = page near in subst (λ (y : ℕ × ℕ). IsLastAt g v i y.0 y.1) (λ t. (sym p.0 t, sym p.1 t)) (slot_page g sized v i s near last)
  | inr far ↦
      let p = block far in
      let b = last.0 in
      subst (λ (y : ℕ × ℕ). IsLastAt g v i y.0 y.1) (λ t. (sym p.0 t, sym p.1 t))
      (slot_block g sized v i (s - 6) (omega arith) (omega arith) (subst (λ (y : ℕ). IsLastSlot i (Some y)) (let e : s ≡ 6 + (s - 6) = omega arith in e) last))
]

-- the last page of an inode, as its slots say
pub held_last : (g : Geometry) (v : Pieces) (i j : Inode) (p : ℕ) → i ≡ j → IsLastAt g v i 0 p → IsLastHeld g v j (Some p)
held_last g v i j p is at = subst (λ (x : Inode). IsLastAt g v x 0 p) is at

pub none_held : (g : Geometry) (v : Pieces) (i j : Inode) (x : Option ℕ) → 0 < numbers_in_zone g → i ≡ j → IsLastSlot i x → x ≡ None → IsLastHeld g v j None
none_held g v i j x sized is last none = subst (λ (y : Inode). IsLastHeld g v y None) is (no_page g sized v i (subst (λ (y : Option ℕ). IsLastSlot i y) none last))

-- the last page before an end, as the block tells it that names the page before the end
pub beside_last : (g : Geometry) (v : Pieces) (i : Inode) (end first w past row b j : ℕ) (x : Option ℕ) → 0 < numbers_in_zone g → first ≡ 7 → first < end → w ≡ numbers_in_zone g
    → past ≡ end - 1 - first → row ≡ past / w → b ≡ zone_at g v i 1 row → x ≡ Some j → IsLastNumber v b (past % w + 1) x
    → IsLastBefore g v i end (first + row * w + j)
beside_last g v i end first w past row b j x sized seven more wide less nth at is last = (
  omega (arith, seven, whole, less, h.0, more),
  λ none. h.1 (sym (stands j (omega (arith, h.0, under, wide))) ∙ ap (zone_at g v i 0) (sym place) ∙ none),
  λ q low high.
      let m : ℕ = q - (first + row * w) in
      let t : (j < m) × (m < past % w + 1) × (m < numbers_in_zone g) = (omega (arith, whole, less, low, high), omega (arith, whole, less, low, high), omega (arith, whole, less, low, high, wide, under)) in
      let e : q ≡ child_at g 0 row m = omega (arith, low, seven, span) in
      ap (zone_at g v i 0) e ∙ stands m t.2 ∙ h.2 m t.0 t.1,
)
  where
    h : IsLastNumber v b (past % w + 1) (Some j)
    h = subst (λ (y : Option ℕ). IsLastNumber v b (past % w + 1) y) is last

    whole : past ≡ row * w + past % w
    whole = sym (ap (λ n. n * w + past % w) nth ∙ div-add-mod' past w)

    under : past % w < w
    under = let s : 0 < w = omega (arith, sized, wide) in omega (arith, s)

    span : row * w ≡ row * numbers_in_zone g
    span = ap (λ n. row * n) wide

    stands : (m : ℕ) → m < numbers_in_zone g → zone_at g v i 0 (child_at g 0 row m) ≡ number v b m
    stands m low = child_zone g sized v i 0 row m (omega arith) low ∙ ap (λ z. number v z m) (sym at)

    place : first + row * w + j ≡ child_at g 0 row j
    place = omega (arith, seven, span)

-- it is the last one, where no page from the end on has a zone
pub before_held : (g : Geometry) (v : Pieces) (i j : Inode) (end p : ℕ) (x : Option ℕ) → i ≡ j → x ≡ Some p → IfSome x (λ q. IsLastBefore g v i end q)
    → HasNoneFrom g v j end → IsLastHeld g v j (Some p)
before_held g v i j end p x is told some none = record {
  held = λ o. h.1 (ap (λ (x : Inode). zone_at g v x 0 p) is ∙ o);
  last = λ q low. elim (cases_lt q end) [
    | inl near ↦ ap (λ (x : Inode). zone_at g v x 0 q) (sym is) ∙ h.2 q low near
    | inr far ↦ none q far
  ];
}
  where
    h : IsLastBefore g v i end p
    h = subst (λ (y : Option ℕ). IfSome y (λ q. IsLastBefore g v i end q)) told some
