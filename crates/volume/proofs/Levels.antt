-- The zones that a file needs are the places at which zones stand, level by level.
use Rattle.std.proofs.Common.{◌≡◌, ◌≢◌, ◌<◌, ◌+◌, ◌-◌, ◌*◌, ◌/◌, ℕ, suc, Bool, true, refl, sym, ap, ◌∙◌, arith}
use mathlib.Core.Logic.{inl, inr}
use Rattle.std.specs.Prelude.{not, ◌==◌, nat_lt}
use Rattle.std.proofs.lemmas.Bool.{cases_eq, cond-true, cond-false, eq-eqb, ne_eqb, le-ltb, not_from_false}
use Rattle.std.proofs.lemmas.Nat.{div-mul-add}
use Rattle.lemmas.specs.Sums.{sum_below, count_below, some_below, one_if}
use Rattle.tree.specs.ZonesNeeded.{page_limit, zones_needed}
use Rattle.tree.specs.ZonesNeededByPlace.{last_needed, second_needed, third_needed}
use Rattle.lemmas.proofs.Maps.{same_sum}
use Rattle.tree.proofs.Needs.{zones_needed_is_by_place}
use Rattle.volume.proofs.Naming.{Naming, room, spot}
use Rattle.volume.proofs.Sums.{some_from, same_some, some_witness, none_from}
use Rattle.volume.proofs.Spots.{under, spot_next, spot_word}
use Rattle.volume.proofs.Bridge.{limit_at}

-- a zone stands there
abbrev pub taken : Naming → ℕ → ℕ → ℕ → Bool
taken m n h i = not (spot m n h i == 0)

module _ (m : Naming) (n : ℕ) where
  -- below a hole are holes
  pub hole_below : (h i j : ℕ) → j < m.width → spot m n h i ≡ 0 → spot m n (suc h) (room h + (i * m.width + j)) ≡ 0
  hole_below h i j l e =
      let p = room h + (i * m.width + j) in
      let less : p - room h ≡ i * m.width + j = omega arith in
      let d : under m h p ≡ i = ap (λ a. a / m.width) less ∙ div-mul-add i m.width j l in
      spot_next m n h p
      ∙ cond-false (nat_lt p (room h)) _ _ (le-ltb p (room h) (omega arith))
      ∙ cond-true (spot m n h (under m h p) == 0) 0 _ (eq-eqb _ 0 (ap (spot m n h) d ∙ e))

  module _ (full : (h i : ℕ) → h < 3 → spot m n h i ≢ 0 → some_below (λ j. not (m.word (spot m n h i) j == 0)) m.width ≡ true) where
    -- a block stands where one of its places has a zone
    level : (h i : ℕ) → h < 3 → some_below (λ j. taken m n (suc h) (room h + (i * m.width + j))) m.width ≡ taken m n h i
    level h i low = elim (cases_eq (spot m n h i) 0) [
      | inl e ↦
          none_from _ m.width (λ j l. ap not (eq-eqb (spot m n (suc h) (room h + (i * m.width + j))) 0 (hole_below h i j l e)))
          ∙ sym (ap not (eq-eqb (spot m n h i) 0 e))
      | inr some ↦
          let w = some_witness (λ j. not (m.word (spot m n h i) j == 0)) m.width (full h i low some) in
          let there : spot m n (suc h) (room h + (i * m.width + w.0)) ≡ m.word (spot m n h i) w.0 = spot_word m n h i w.0 (spot m n h i) w.1 refl some in
          some_from (λ j. taken m n (suc h) (room h + (i * m.width + j))) m.width w.0 w.1 (ap (λ z. not (z == 0)) there ∙ w.2)
          ∙ sym (not_from_false (spot m n h i == 0) (ne_eqb (spot m n h i) 0 some))
    ]

    module _ (held : ℕ → Bool) (pages : (p : ℕ) → held p ≡ taken m n 3 p) where
      last_taken : (k : ℕ) → last_needed m.width held k ≡ taken m n 2 k
      last_taken k = same_some _ _ m.width (λ j l. pages (7 + (k * m.width + j))) ∙ level 2 k (omega arith)

      second_taken : (k : ℕ) → second_needed m.width held k ≡ taken m n 1 k
      second_taken k = same_some _ _ m.width (λ j l. last_taken (1 + (k * m.width + j))) ∙ level 1 k (omega arith)

      third_taken : third_needed m.width held ≡ taken m n 0 0
      third_taken =
          same_some _ _ m.width (λ j l. second_taken (1 + j) ∙ ap (taken m n 1) (let e : 1 + j ≡ 1 + (0 * m.width + j) = omega arith in e))
          ∙ level 0 0 (omega arith)

      -- all levels
      pub needed_by_level : zones_needed m.width held ≡ sum_below (λ h. count_below (taken m n h) (limit_at m.width h)) 4
      unfolding sum_below limit_at
      needed_by_level =
          let w = m.width in
          let f : ℕ → ℕ = λ h. count_below (taken m n h) (limit_at w h) in
          let parts = zones_needed_is_by_place w held in
          let a : count_below held (page_limit w) ≡ f 3 =
          same_sum _ _ (page_limit w) (λ p _. ap one_if (pages p))
          ∙ ap (count_below (taken m n 3)) (let e : page_limit w ≡ limit_at w 3 = grind arith in e) in
          let b : count_below (last_needed w held) (1 + w + w * w) ≡ f 2 =
          same_sum _ _ (1 + w + w * w) (λ k _. ap one_if (last_taken k))
          ∙ ap (count_below (taken m n 2)) (let e : 1 + w + w * w ≡ limit_at w 2 = grind arith in e) in
          let c : count_below (second_needed w held) (1 + w) ≡ f 1 =
          same_sum _ _ (1 + w) (λ k _. ap one_if (second_taken k))
          ∙ ap (count_below (taken m n 1)) (let e : 1 + w ≡ limit_at w 1 = omega arith in e) in
          let d : one_if (third_needed w held) ≡ f 0 = let e = ap one_if third_taken in omega arith in
          omega arith
