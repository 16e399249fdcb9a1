-- What the counts of uses say of zones.
use Rattle.std.proofs.Common.{◌≡◌, ◌<◌, ◌≤◌, ◌+◌, ◌-◌, ℕ, List, length, slice_index, Bool, true, false, refl, sym, ap, ◌∙◌, cond, arith}
use mathlib.Core.Logic.{inl, inr}
use mathlib.Core.Bool.{beq}
use Rattle.std.specs.Prelude.{min, not, ◌&&◌, ◌==◌, nat_lt, nat_le}
use Rattle.std.proofs.lemmas.Bool.{cases_lt, cases_Bool, cond-true, cond-false, and_left, and_right, lt-ltb, le-ltb, eq-eqb, ne_eqb}
use Rattle.lemmas.specs.Sums.{sum_below}
use Rattle.volume.specs.Reading.{is_data_zone}
use Rattle.volume.specs.Places.{is_entered, uses, uses_in_inodes, uses_in_zones}
use Rattle.volume.specs.Findings.{is_used_twice, has_bad_bit}
use Rattle.lemmas.proofs.Maps.{same_sum}
use Rattle.image.specs.declared.Image.{Image}
use Rattle.image.specs.Entered.{AreEntered, is_in}
use Rattle.image.specs.Counts.{AreCounted, AreCountedTo, named_by_inode, named_by_zone, named_by_entered}
use Rattle.image.proofs.Contents.{g, v, data_some}

module _ (i : Image) where
  -- no zone past the last is a data zone
  pub past_zones : (z : ℕ) (b : Bool) → (g i).zones ≤ z → (is_data_zone (g i) z && b) ≡ false
  past_zones z b far = and_left (is_data_zone (g i) z) b (and_right (nat_le (g i).first_zone z) (nat_lt z (g i).zones) (le-ltb z (g i).zones far))

  -- the uses in the zones of a level are those of the definition
  level_uses : (entered : List Bool) → AreEntered i entered → (k z : ℕ) → k < 3
      → sum_below (named_by_entered i entered (3 - k) z) (g i).zones ≡ uses_in_zones (g i) (v i) z k
  level_uses entered are k z h = same_sum _ _ (g i).zones (λ y l. ap (λ b. cond b (named_by_zone i z y) 0) (are k y h l))

  -- a sum of three
  three : (f : ℕ → ℕ) → sum_below f 3 ≡ f 0 + f 1 + f 2
  unfolding sum_below
  three f = omega arith

  -- all counts together are the uses
  pub all_counted : (entered : List Bool) (old a b c new : List ℕ) → AreEntered i entered → length old ≡ (g i).zones → ((z : ℕ) → slice_index old z ≡ 0)
      → AreCountedTo (λ z. sum_below (named_by_inode i z) ((g i).inodes + 1)) old a
      → AreCountedTo (λ z. sum_below (named_by_entered i entered 3 z) (g i).zones) a b
      → AreCountedTo (λ z. sum_below (named_by_entered i entered 2 z) (g i).zones) b c
      → AreCountedTo (λ z. sum_below (named_by_entered i entered 1 z) (g i).zones) c new
      → AreCounted i new
  all_counted entered old a b c new are size fresh first second third fourth = record {
    size = fourth.size ∙ third.size ∙ second.size ∙ first.size ∙ size;
    each = λ z h.
        let in_a : z < length a = omega (arith, first.size) in
        let in_b : z < length b = omega (arith, second.size) in
        let in_c : z < length c = omega (arith, third.size) in
        let sum = three (uses_in_zones (g i) (v i) z) in
        omega (
          arith,
          fresh z,
          first.each z (omega arith),
          second.each z in_a,
          third.each z in_b,
          fourth.each z in_c,
          level_uses entered are 0 z (omega arith),
          level_uses entered are 1 z (omega arith),
          level_uses entered are 2 z (omega arith),
          sum,
        );
  }

  -- whether it has two uses
  pub twice_read : (counts : List ℕ) → AreCounted i counts → (z : ℕ) → is_data_zone (g i) z ≡ true → nat_lt 1 (slice_index counts z) ≡ is_used_twice (g i) (v i) z
  twice_read counts counted z is =
      let at = counted.each z (data_some i z is) in
      sym (ap (λ b. b && nat_lt 1 (uses (g i) (v i) z)) is ∙ elim (cases_lt 1 (uses (g i) (v i) z)) [
        | inl more ↦ lt-ltb 1 (uses (g i) (v i) z) more ∙ sym (lt-ltb 1 (slice_index counts z) (omega arith))
        | inr less ↦ le-ltb 1 (uses (g i) (v i) z) less ∙ sym (le-ltb 1 (slice_index counts z) (omega arith))
      ])

  -- whether the count is 0
  some_read : (a b : ℕ) → a ≡ min 2 b → nat_lt 0 a ≡ nat_lt 0 b
  some_read a b e = elim (cases_lt 0 b) [
    | inl more ↦ lt-ltb 0 a (omega arith) ∙ sym (lt-ltb 0 b more)
    | inr less ↦ le-ltb 0 a (omega arith) ∙ sym (le-ltb 0 b less)
  ]

  -- a bit that says otherwise than a count
  differs : (bit : Bool) (n : ℕ) → not (beq bit (nat_lt 0 n)) ≡ cond bit (n == 0) (nat_lt 0 n)
  differs true n = elim (cases_lt 0 n) [
    | inl more ↦ ap (λ b. not (beq true b)) (lt-ltb 0 n more) ∙ sym (ne_eqb n 0 (λ e. absurd (omega arith)))
    | inr less ↦ ap (λ b. not (beq true b)) (le-ltb 0 n less) ∙ sym (eq-eqb n 0 (omega arith))
  ]
  differs false n = elim (cases_Bool (nat_lt 0 n)) [
    | inl is ↦ ap (λ b. not (beq false b)) is ∙ sym is
    | inr out ↦ ap (λ b. not (beq false b)) out ∙ sym out
  ]

  -- whether its bit says otherwise than its uses
  pub bit_differs : (counts : List ℕ) → AreCounted i counts → (z : ℕ) → is_data_zone (g i) z ≡ true → (bit : Bool) → bit ≡ (v i).zone_map (z - (g i).first_zone + 1)
      → not (beq bit (nat_lt 0 (slice_index counts z))) ≡ has_bad_bit (g i) (v i) z
  bit_differs counts counted z is bit e =
      ap (λ b. not (beq bit b)) (some_read (slice_index counts z) (uses (g i) (v i) z) (counted.each z (data_some i z is)))
      ∙ differs bit (uses (g i) (v i) z)
      ∙ sym (ap (λ b. b && cond ((v i).zone_map (z - (g i).first_zone + 1)) (uses (g i) (v i) z == 0) (nat_lt 0 (uses (g i) (v i) z))) is
      ∙ ap (λ b. cond b (uses (g i) (v i) z == 0) (nat_lt 0 (uses (g i) (v i) z))) (sym e))
