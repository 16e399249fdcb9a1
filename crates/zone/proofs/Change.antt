-- One number changes one place, where no number stands below it.
use Rattle.std.proofs.Common.{◌≡◌, ◌≢◌, ◌⊎◌, ◌<◌, ◌≤◌, ◌+◌, ◌-◌, ◌*◌, ◌/◌, ◌%◌, ℕ, zero, suc, Bool, true, false, refl, sym, ap, ◌∙◌, cond, arith}
use mathlib.Core.Logic.{inl, inr}
use Rattle.std.specs.Prelude.{◌==◌, nat_lt, IsTrue}
use Rattle.std.proofs.lemmas.Bool.{cases_eq, cases_lt, cond-true, cond-false, eq-eqb, ne_eqb, lt-ltb, le-ltb}
use Rattle.layout.specs.declared.Geometry.{Geometry}
use Rattle.tree.specs.Space.{numbers_in_zone}
use Rattle.volume.specs.Pieces.{Pieces}
use Rattle.volume.specs.Nodes.{word, number, slot, is_marked}
use Rattle.volume.proofs.Naming.{room, front, spot}
use Rattle.volume.proofs.Spots.{spot_top, spot_next}
use Rattle.volume.proofs.Bridge.{naming}
use Rattle.zone.specs.ZoneSteps.{Same}

-- three numbers are three others or not
pub same_or_not : (n l k m a i : ℕ) → Same n l k m a i ⊎ (Same n l k m a i → ⊥)
same_or_not n l k m a i = elim (cases_eq m n) [
  | inr d ↦ inr (λ e. d e.0)
  | inl x ↦ elim (cases_eq a l) [
    | inr d ↦ inr (λ e. d e.1)
    | inl y ↦ elim (cases_eq i k) [
      | inr d ↦ inr (λ e. d e.2)
      | inl z ↦ inl (x, y, z)
    ]
  ]
]

module _ (g : Geometry) (v w : Pieces) where
  -- the place of the block that names place i of height h + 1
  abbrev pub up : ℕ → ℕ → ℕ
  up h i = (i - room h) / numbers_in_zone g

  -- which of its numbers
  abbrev pub nth : ℕ → ℕ → ℕ
  nth h i = (i - room h) % numbers_in_zone g

  -- what stands at place i of height h + 1, where zone y stands above
  abbrev pub read : Pieces → ℕ → ℕ → ℕ → ℕ → ℕ
  read u n h i y = cond (nat_lt i (room h)) (slot (u.inodes n) (front h + i)) (number u y (nth h i))

  module _ (sized : 0 < numbers_in_zone g) (n₀ h₀ k₀ : ℕ)
      (top : (n : ℕ) → IsTrue (is_marked g v n) → (Same n₀ h₀ k₀ n 0 0 → ⊥) → slot (w.inodes n) 9 ≡ slot (v.inodes n) 9)
      (cells : (n h i : ℕ) → IsTrue (is_marked g v n) → h < 3 → (Same n₀ h₀ k₀ n (suc h) i → ⊥)
      → read w n h i (spot (naming g v) n h (up h i)) ≡ read v n h i (spot (naming g v) n h (up h i))) where
    -- the places above it name what they named
    pub above_it : (n h i : ℕ) → IsTrue (is_marked g v n) → h < 4 → h < h₀ → spot (naming g w) n h i ≡ spot (naming g v) n h i
    above_it n zero i is low less =
        spot_top (naming g w) n i ∙ ap (λ x. cond (i == 0) x 0) (top n is (λ s. absurd (omega (arith, s.1)))) ∙ sym (spot_top (naming g v) n i)
    above_it n (suc h) i is low less =
        spot_next (naming g w) n h i ∙ ap (read w n h i) (above_it n h (up h i) is (omega arith) (omega arith))
        ∙ cells n h i is (omega arith) (λ s. absurd (omega (arith, s.1))) ∙ sym (spot_next (naming g v) n h i)

    module _
        (before : h₀ < 3 → (j : ℕ) → j < numbers_in_zone g → number v (spot (naming g v) n₀ h₀ k₀) j ≡ 0)
        (after : h₀ < 3 → (j : ℕ) → j < numbers_in_zone g → number w (spot (naming g w) n₀ h₀ k₀) j ≡ 0) where
      -- each other place names what it named
      pub others : (n h i : ℕ) → IsTrue (is_marked g v n) → h < 4 → (Same n₀ h₀ k₀ n h i → ⊥) → spot (naming g w) n h i ≡ spot (naming g v) n h i
      others n zero i is low apart = elim (cases_eq i 0) [
        | inl e ↦ spot_top (naming g w) n i ∙ ap (λ x. cond (i == 0) x 0) (top n is (λ s. apart (s.0, s.1, e ∙ s.2))) ∙ sym (spot_top (naming g v) n i)
        | inr d ↦ spot_top (naming g w) n i ∙ cond-false (i == 0) _ 0 (ne_eqb i 0 d) ∙ sym (cond-false (i == 0) _ 0 (ne_eqb i 0 d)) ∙ sym (spot_top (naming g v) n i)
      ]
      others n (suc h) i is low apart =
          let here = cells n h i is (omega arith) apart in
          elim (same_or_not n₀ h₀ k₀ n h (up h i)) [
            | inr differ ↦
                spot_next (naming g w) n h i ∙ ap (read w n h i) (others n h (up h i) is (omega arith) differ) ∙ here ∙ sym (spot_next (naming g v) n h i)
            | inl e ↦ spot_next (naming g w) n h i ∙ elim (cases_lt i (room h)) [
              | inl near ↦
                  let t = lt-ltb i (room h) near in
                  cond-true (nat_lt i (room h)) _ _ t ∙ sym (cond-true (nat_lt i (room h)) _ _ t) ∙ here ∙ sym (spot_next (naming g v) n h i)
              | inr far ↦
                  let f = le-ltb i (room h) far in
                  let within : nth h i < numbers_in_zone g = omega arith in
                  let block : h₀ < 3 = omega (arith, e.1) in
                  let gone : number w (spot (naming g w) n h (up h i)) (nth h i) ≡ 0 = (λ t. number w (spot (naming g w) (e.0 t) (e.1 t) (e.2 t)) (nth h i)) ∙ after block (nth h i) within in
                  let none : number v (spot (naming g v) n h (up h i)) (nth h i) ≡ 0 = (λ t. number v (spot (naming g v) (e.0 t) (e.1 t) (e.2 t)) (nth h i)) ∙ before block (nth h i) within in
                  cond-false (nat_lt i (room h)) _ _ f ∙ gone ∙ sym none ∙ sym (cond-false (nat_lt i (room h)) _ _ f) ∙ sym (spot_next (naming g v) n h i)
            ]
          ]
