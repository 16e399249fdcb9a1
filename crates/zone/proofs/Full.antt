-- Which blocks have a number, before and after a number changes.
use Rattle.std.proofs.Common.{◌≡◌, ◌≢◌, ◌⊎◌, ◌<◌, ◌≤◌, ◌+◌, ◌-◌, ◌*◌, ◌/◌, ◌%◌, ℕ, zero, suc, Bool, true, false, refl, sym, ap, ◌∙◌, cond, arith}
use mathlib.Core.Logic.{inl, inr}
use Rattle.std.specs.Prelude.{not, ◌==◌, nat_lt, IsTrue}
use Rattle.std.proofs.lemmas.Bool.{cases_eq, cases_lt, cond-true, cond-false, eq-eqb, ne_eqb, lt-ltb, le-ltb, not-true, not_from_false}
use Rattle.std.proofs.lemmas.Nat.{div-add-mod', div-mul-add, mod-mul-add}
use Rattle.lemmas.proofs.Numbers.{not_zero}
use Rattle.layout.specs.declared.Geometry.{Geometry}
use Rattle.layout.specs.Places.{IsGeometry}
use Rattle.lemmas.specs.Sums.{some_below}
use Rattle.tree.specs.Space.{numbers_in_zone}
use Rattle.volume.specs.Pieces.{Pieces}
use Rattle.volume.specs.Nodes.{word, number, is_marked}
use Rattle.volume.specs.Places.{zone_at, has_number}
use Rattle.volume.proofs.Naming.{room, spot}
use Rattle.volume.proofs.Spots.{spot_word, spot_next}
use Rattle.volume.proofs.Sums.{some_from, some_witness}
use Rattle.volume.proofs.Bridge.{naming, zone_spot, no_level}
use Rattle.volume.proofs.Ranges.{data_some}
use Rattle.volume.proofs.Volumes.{numbers_sized}
use Rattle.zone.specs.ZoneSteps.{Same, first_places, above, beside, above_level, OnePlace, Links, Unlinks, IsSoundBut}
use Rattle.zone.proofs.Change.{same_or_not}
use Rattle.zone.proofs.OnePlaces.{room_first}
use Rattle.zone.proofs.Agree.{marked_back}

-- place j of those that block i of the level above names
abbrev pub child : Geometry → ℕ → ℕ → ℕ → ℕ
child g a i j = first_places a + (i * numbers_in_zone g + j)

module _ (g : Geometry) (sized : 0 < numbers_in_zone g) where
  -- a place below a block is one of the block's numbers
  pub zone_child : (v : Pieces) (n a i j : ℕ) → a < 3 → j < numbers_in_zone g → zone_at g v (v.inodes n) (suc a) i ≢ 0
      → zone_at g v (v.inodes n) a (child g a i j) ≡ word v (zone_at g v (v.inodes n) (suc a) i) j
  zone_child v n a i j low within some =
      let m = naming g v in
      let h : ℕ = 2 - a in
      let wide = room_first a low in
      let y = zone_at g v (v.inodes n) (suc a) i in
      let at : spot m n h i ≡ y = ap (λ b. spot m n b i) (let e : h ≡ 3 - suc a = omega arith in e) ∙ sym (zone_spot g v sized n (suc a) i (omega arith)) in
      zone_spot g v sized n a (child g a i j) (omega arith)
      ∙ ap (λ b. spot m n b (child g a i j)) (let e : 3 - a ≡ suc h = omega arith in e)
      ∙ ap (λ r. spot m n (suc h) (r + (i * numbers_in_zone g + j))) (sym wide)
      ∙ spot_word m n h i j y within at some

  -- a place that a block names is its child
  pub child_is : (l k : ℕ) → first_places l ≤ k → k ≡ child g l (above g l k) (beside g l k)
  child_is l k far = let e = div-add-mod' (k - first_places l) (numbers_in_zone g) in omega arith

  -- and a child stands above so
  pub child_above : (a i j : ℕ) → j < numbers_in_zone g → (above_level a (child g a i j) ≡ suc a) × (above g a (child g a i j) ≡ i)
  child_above a i j within =
      let less : child g a i j - first_places a ≡ i * numbers_in_zone g + j = omega arith in (
        cond-false (nat_lt (child g a i j) (first_places a)) 0 (suc a) (le-ltb (child g a i j) (first_places a) (omega arith)),
        ap (λ x. x / numbers_in_zone g) less ∙ div-mul-add i (numbers_in_zone g) j within,
      )

  -- below a hole are holes
  pub hole_child : (v : Pieces) (n a i c : ℕ) → a < 3 → c < numbers_in_zone g → zone_at g v (v.inodes n) (suc a) i ≡ 0 → zone_at g v (v.inodes n) a (child g a i c) ≡ 0
  hole_child v n a i c low within none =
      let m = naming g v in
      let h : ℕ = 2 - a in
      let wide = room_first a low in
      let k : ℕ = child g a i c in
      let less : k - room h ≡ i * numbers_in_zone g + c = omega arith in
      let up : (k - room h) / numbers_in_zone g ≡ i = ap (λ x. x / numbers_in_zone g) less ∙ div-mul-add i (numbers_in_zone g) c within in
      let at : spot m n h ((k - room h) / numbers_in_zone g) ≡ 0 = ap (spot m n h) up ∙ ap (λ x. spot m n x i) (let e : h ≡ 3 - suc a = omega arith in e) ∙ sym (zone_spot g v sized n (suc a) i (omega arith)) ∙ none in
      zone_spot g v sized n a k (omega arith) ∙ ap (λ x. spot m n x k) (let e : 3 - a ≡ suc h = omega arith in e)
      ∙ spot_next m n h k ∙ cond-false (nat_lt k (room h)) _ _ (le-ltb k (room h) (omega arith))
      ∙ ap (λ y. number v y ((k - room h) % numbers_in_zone g)) at

  -- a block with a number has a child
  pub some_child : (v : Pieces) (n a i : ℕ) → a < 3 → zone_at g v (v.inodes n) (suc a) i ≢ 0 → IsTrue (has_number g v (zone_at g v (v.inodes n) (suc a) i))
      → (j : ℕ) × (j < numbers_in_zone g) × (zone_at g v (v.inodes n) a (child g a i j) ≢ 0)
  some_child v n a i low some has =
      let y = zone_at g v (v.inodes n) (suc a) i in
      let x = some_witness (λ j. not (word v y j == 0)) (numbers_in_zone g) has in
      (x.0, x.1, λ e. not_zero (word v y x.0) x.2 (sym (zone_child v n a i x.0 low x.1 some) ∙ e))

  -- and one with a child a number
  pub has_child : (v : Pieces) (n a i j : ℕ) → a < 3 → j < numbers_in_zone g → zone_at g v (v.inodes n) (suc a) i ≢ 0 → zone_at g v (v.inodes n) a (child g a i j) ≢ 0
      → IsTrue (has_number g v (zone_at g v (v.inodes n) (suc a) i))
  has_child v n a i j low within some there =
      let y = zone_at g v (v.inodes n) (suc a) i in
      some_from (λ j. not (word v y j == 0)) (numbers_in_zone g) j within
      (not_from_false (word v y j == 0) (ne_eqb (word v y j) 0 (λ e. there (zone_child v n a i j low within some ∙ e))))

module _ (g : Geometry) (ok : IsGeometry g) (sized : 0 < numbers_in_zone g) (v w : Pieces) (n l k z : ℕ) (s : Links g v w n l k z) (b : IsSoundBut g v n (above_level l k) (above g l k)) where
  -- the block above has the number now, the others have what they had
  pub link_full : (m a i : ℕ) → IsTrue (is_marked g w m) → (Same n l k m (suc a) i → ⊥) → zone_at g w (w.inodes m) (suc a) i ≢ 0
      → IsTrue (has_number g w (zone_at g w (w.inodes m) (suc a) i))
  link_full m a i is apart some = elim (cases_lt a 3) [
    | inr far ↦ absurd (some (no_level g w sized m (suc a) i (omega arith)))
    | inl low ↦
        let was = marked_back g v w s.inodes m is in
        let stays = s.place.others m (suc a) i was apart in
        elim (same_or_not n (above_level l k) (above g l k) m (suc a) i) [
          | inl e ↦ elim (cases_lt k (first_places l)) [
            | inl near ↦ let o = cond-true (nat_lt k (first_places l)) 0 (suc l) (lt-ltb k (first_places l) near) in absurd (omega (arith, e.1, o))
            | inr far ↦
                let o = cond-false (nat_lt k (first_places l)) 0 (suc l) (le-ltb k (first_places l) far) in
                let level : a ≡ l = omega (arith, e.1, o) in
                let within : beside g l k < numbers_in_zone g = omega arith in
                has_child g sized w m a i (beside g l k) low within some (λ none. data_some g v ok z s.data_zone
                (sym s.place.here ∙ ap (zone_at g w (w.inodes n) l) (child_is g sized l k far)
                ∙ sym (λ t. zone_at g w (w.inodes (e.0 t)) (level t) (child g (level t) (e.2 t) (beside g l k))) ∙ none))
          ]
          | inr d ↦
              let x = some_child g sized v m a i low (λ none. some (stays ∙ none)) (b.full m a i was d (λ none. some (stays ∙ none))) in
              has_child g sized w m a i x.0 low x.1 some (λ none. elim (same_or_not n l k m a (child g a i x.0)) [
                | inl e ↦ x.2 ((λ t. zone_at g v (v.inodes (e.0 t)) (e.1 t) (e.2 t)) ∙ s.was)
                | inr q ↦ x.2 (sym (s.place.others m a (child g a i x.0) was q) ∙ none)
              ])
        ]
  ]

module _ (g : Geometry) (ok : IsGeometry g) (sized : 0 < numbers_in_zone g) (v w : Pieces) (n l k z : ℕ) (s : Unlinks g v w n l k z) (b : IsSoundBut g v n l k) where
  -- the block above may be without a number now
  pub unlink_full : (m a i : ℕ) → IsTrue (is_marked g w m) → (Same n (above_level l k) (above g l k) m (suc a) i → ⊥) → zone_at g w (w.inodes m) (suc a) i ≢ 0
      → IsTrue (has_number g w (zone_at g w (w.inodes m) (suc a) i))
  unlink_full m a i is apart some = elim (cases_lt a 3) [
    | inr far ↦ absurd (some (no_level g w sized m (suc a) i (omega arith)))
    | inl low ↦
        let was = marked_back g v w s.inodes m is in
        let elsewhere : (Same n l k m (suc a) i → ⊥) = λ e. some ((λ t. zone_at g w (w.inodes (e.0 t)) (e.1 t) (e.2 t)) ∙ s.place.here) in
        let stays = s.place.others m (suc a) i was elsewhere in
        let x = some_child g sized v m a i low (λ none. some (stays ∙ none)) (b.full m a i was elsewhere (λ none. some (stays ∙ none))) in
        has_child g sized w m a i x.0 low x.1 some (λ none. x.2 (sym (s.place.others m a (child g a i x.0) was (λ e.
        let up = child_above g sized a i x.0 x.1 in
        let lv : above_level l k ≡ suc a = sym (λ t. above_level (e.1 t) (e.2 t)) ∙ up.0 in
        let ix : above g l k ≡ i = sym (λ t. above g (e.1 t) (e.2 t)) ∙ up.1 in
        apart (e.0, sym lv, sym ix))) ∙ none))
  ]
