-- What stands at a place, one level at a time.
use Rattle.std.proofs.Common.{◌≡◌, ◌≢◌, ◌<◌, ◌≤◌, ◌+◌, ◌-◌, ◌/◌, ◌%◌, ℕ, zero, suc, sym, ap, ◌∙◌, arith}
use mathlib.Core.Logic.{inl, inr}
use Rattle.std.specs.Prelude.{◌==◌, nat_lt, nat_le}
use Rattle.std.proofs.lemmas.Bool.{cond-true, cond-false, cases_lt, eq-eqb, ne_eqb, lt-ltb, le-ltb, le-leb, lt-leb}
use Rattle.layout.specs.declared.Geometry.{Geometry}
use Rattle.tree.specs.Space.{numbers_in_zone}
use Rattle.volume.specs.declared.Inode.{Inode}
use Rattle.volume.specs.Pieces.{Pieces}
use Rattle.volume.specs.Nodes.{number, slot}
use Rattle.volume.specs.Places.{zone_at}
use Rattle.volume.proofs.Bridge.{div_none, mod_all, div_some}
use Rattle.zone.specs.ZoneSteps.{first_places, slot_of, above, beside}

-- a place of the inode
pub zone_inner : (g : Geometry) (v : Pieces) (i : Inode) (l k : ℕ) → l < 4 → k < first_places l → zone_at g v i l k ≡ slot i (slot_of l k)
zone_inner g v i zero k low near = cond-true (nat_lt k 7) _ _ (lt-ltb k 7 near)
zone_inner g v i (suc zero) k low near = cond-true (k == 0) _ _ (eq-eqb k 0 (omega arith))
zone_inner g v i (suc (suc zero)) k low near = cond-true (k == 0) _ _ (eq-eqb k 0 (omega arith))
zone_inner g v i (suc (suc (suc zero))) k low near = cond-true (k == 0) _ _ (eq-eqb k 0 (omega arith))
zone_inner g v i (suc (suc (suc (suc l)))) k low near = absurd (omega arith)

-- past the triple's there is none
pub zone_top : (g : Geometry) (v : Pieces) (i : Inode) (k : ℕ) → 1 ≤ k → zone_at g v i 3 k ≡ 0
zone_top g v i k far = cond-false (k == 0) (slot i 9) 0 (ne_eqb k 0 (λ e. absurd (omega arith)))

-- a place of a block
pub zone_outer : (g : Geometry) (v : Pieces) (i : Inode) (l k : ℕ) → 0 < numbers_in_zone g → l < 3 → first_places l ≤ k
    → zone_at g v i l k ≡ number v (zone_at g v i (suc l) (above g l k)) (beside g l k)
zone_outer g v i zero k sized low far = cond-false (nat_lt k 7) _ _ (le-ltb k 7 far)
zone_outer g v i (suc zero) k sized low far = cond-false (k == 0) _ _ (ne_eqb k 0 (λ e. absurd (omega arith)))
zone_outer g v i (suc (suc zero)) k sized low far =
    let n = numbers_in_zone g in
    cond-false (k == 0) _ _ (ne_eqb k 0 (λ e. absurd (omega arith)))
    ∙ elim (cases_lt n k) [
      | inl past ↦
          let up : zone_at g v i 3 ((k - 1) / n) ≡ 0 = cond-false ((k - 1) / n == 0) (slot i 9) 0 (ne_eqb _ 0 (div_some (k - 1) n sized (omega arith))) in
          cond-false (nat_le k n) _ _ (lt-leb k n past) ∙ sym (ap (λ z. number v z ((k - 1) % n)) up)
      | inr within ↦
          let less : k - 1 < n = omega arith in
          let up : zone_at g v i 3 ((k - 1) / n) ≡ slot i 9 = cond-true ((k - 1) / n == 0) (slot i 9) 0 (eq-eqb _ 0 (div_none (k - 1) n less)) in
          cond-true (nat_le k n) _ _ (le-leb k n within) ∙ ap (number v (slot i 9)) (sym (mod_all (k - 1) n less)) ∙ sym (ap (λ z. number v z ((k - 1) % n)) up)
    ]
zone_outer g v i (suc (suc (suc l))) k sized low far = absurd (omega arith)

-- a place of a block, as the code comes to it
pub found_outer : (g : Geometry) (v : Pieces) (i : Inode) (l k f w block x : ℕ) → 0 < numbers_in_zone g → l < 4 → l ≢ 3 → f ≡ first_places l → w ≡ numbers_in_zone g → f ≤ k
    → block ≡ zone_at g v i (l + 1) ((k - f) / w) → x ≡ number v block ((k - f) % w) → x ≡ zone_at g v i l k
found_outer g v i l k f w block x sized low differ first wide far up is =
    let next : l + 1 ≡ suc l = omega arith in
    is ∙ ap (λ z. number v z ((k - f) % w)) (up ∙ (λ t. zone_at g v i (next t) ((k - first t) / wide t))) ∙ (λ t. number v (zone_at g v i (suc l) (above g l k)) ((k - first t) % wide t))
    ∙ sym (zone_outer g v i l k sized (omega arith) (omega arith))
