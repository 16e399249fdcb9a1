-- A file whose size is changed, or into which bytes are written, is a file.
use Rattle.std.proofs.Common.{◌≡◌, ◌<◌, ◌≤◌, ◌+◌, ◌-◌, ◌*◌, ◌/◌, ℕ, List, length, refl, arith}
use mathlib.Core.Logic.{inl, inr}
use Rattle.std.specs.Prelude.{nat_lt, nat_le, not, ◌&&◌, slice_index}
use Rattle.std.specs.List.{All}
use Rattle.std.proofs.Math.Nat.{div-mul-le_self, le-div_iff_mul-le}
use Rattle.std.proofs.lemmas.Bool.{cond_both, and_parts, and_cases, or_cases, or_parts, or_left, or_right, leb-true, ltb-true, ltb-false, le-leb, not-true, not_from_false, cases_lt}
use Rattle.std.proofs.lemmas.List.Elements.{All-get_or}
use Rattle.layout.specs.declared.Geometry.{Geometry}
use Rattle.tree.specs.Tree.{File, most_size}
use Rattle.tree.specs.IsTree.{IsFile}
use Rattle.tree.specs.Changes.{file_after_write, file_after_resize}

-- a file of another size is a file
pub resized_fits : (g : Geometry) (f : File) (size : ℕ) → size ≤ most_size → IsFile g f → IsFile g (file_after_resize g f size)
resized_fits g f size fits old = record {
  size = fits;
  held = λ q h. ltb-true (q * g.block_size) size (and_parts (f.held q) (nat_lt (q * g.block_size) size) h).1;
  zeros = λ p h. cond_both (nat_lt p size) (f.byte p) 0 (λ b. b ≡ 0)
      (λ inside. elim (or_cases (nat_le size p) (not (f.held (p / g.block_size) && nat_lt (p / g.block_size * g.block_size) size)) h) [
        | inl e ↦ let a = leb-true size p e in let b = ltb-true p size inside in absurd (omega arith)
        | inr e ↦ elim (and_cases (f.held (p / g.block_size)) (nat_lt (p / g.block_size * g.block_size) size) (not-true _ e)) [
          | inl none ↦ old.zeros p (or_right (nat_le f.size p) (not (f.held (p / g.block_size))) (not_from_false _ none))
          | inr past ↦ let a = ltb-false (p / g.block_size * g.block_size) size past in let b = ltb-true p size inside in let c = div-mul-le_self p g.block_size in absurd (omega (arith, a, b, c))
        ]
      ])
      (λ _. refl);
  bytes = λ p. cond_both (nat_lt p size) (f.byte p) 0 (λ b. b < 256) (λ _. old.bytes p) (λ _. omega arith);
}

-- a place is before the end of its page
before_end : (p b : ℕ) → 0 < b → p < (p / b + 1) * b
before_end p b some = elim (cases_lt p ((p / b + 1) * b)) [
  | inl l ↦ l
  | inr l ↦ let h = (le-div_iff_mul-le {k = b} {x = p / b + 1} {y = p} some).1 l in absurd (omega (arith, h))
]

-- a file into which bytes are written is a file
pub written_fits : (g : Geometry) (f : File) (at : ℕ) (bytes : List ℕ) → 0 < g.block_size → at + length bytes ≤ most_size → All (λ b. b < 256) bytes
    → IsFile g f → IsFile g (file_after_write g f at bytes)
written_fits g f at bytes some fits small old = record {
  size = cond_both (nat_lt f.size (at + length bytes)) (at + length bytes) f.size (λ s. s ≤ most_size) (λ _. fits) (λ _. old.size);
  held = λ q h. elim (or_cases (f.held q) (nat_lt (q * g.block_size) (at + length bytes) && nat_lt at ((q + 1) * g.block_size)) h) [
    | inl e ↦ let a = old.held q e in let b = least_size in omega (arith, a, b)
    | inr e ↦ let a = ltb-true (q * g.block_size) (at + length bytes) (and_parts (nat_lt (q * g.block_size) (at + length bytes)) (nat_lt at ((q + 1) * g.block_size)) e).0 in let b = end_in in omega (arith, a, b)
  ];
  zeros = λ p h. cond_both (nat_le at p && nat_lt p (at + length bytes)) (slice_index bytes (p - at)) (f.byte p) (λ b. b ≡ 0)
      (λ inside.
      let parts = and_parts (nat_le at p) (nat_lt p (at + length bytes)) inside in
      let from = leb-true at p parts.0 in
      let to = ltb-true p (at + length bytes) parts.1 in
      elim (or_cases (nat_le new.size p) (not (new.held (p / g.block_size))) h) [
        | inl e ↦ let a = leb-true new.size p e in let b = end_in in absurd (omega (arith, a, b, to))
        | inr e ↦ elim (and_cases (nat_lt (p / g.block_size * g.block_size) (at + length bytes)) (nat_lt at ((p / g.block_size + 1) * g.block_size)) (or_parts (f.held (p / g.block_size)) _ (not-true _ e)).1) [
          | inl past ↦ let a = ltb-false (p / g.block_size * g.block_size) (at + length bytes) past in let c = div-mul-le_self p g.block_size in absurd (omega (arith, a, c, to))
          | inr before ↦ let a = ltb-false at ((p / g.block_size + 1) * g.block_size) before in let c = before_end p g.block_size some in absurd (omega (arith, a, c, from))
        ]
      ])
      (λ _. old.zeros p (elim (or_cases (nat_le new.size p) (not (new.held (p / g.block_size))) h) [
        | inl e ↦ or_left (nat_le f.size p) _ (let a = leb-true new.size p e in let b = least_size in le-leb f.size p (omega (arith, a, b)))
        | inr e ↦ or_right (nat_le f.size p) _ (not_from_false _ (or_parts (f.held (p / g.block_size)) _ (not-true _ e)).0)
      ]));
  bytes = λ p. cond_both (nat_le at p && nat_lt p (at + length bytes)) (slice_index bytes (p - at)) (f.byte p) (λ b. b < 256)
      (λ inside.
      let parts = and_parts (nat_le at p) (nat_lt p (at + length bytes)) inside in
      let from = leb-true at p parts.0 in
      let to = ltb-true p (at + length bytes) parts.1 in
      All-get_or (λ b. b < 256) bytes (p - at) 0 (omega (arith, from, to)) small)
      (λ _. old.bytes p);
}
  where
    new : File
    new = file_after_write g f at bytes

    least_size : f.size ≤ new.size
    least_size = cond_both (nat_lt f.size (at + length bytes)) (at + length bytes) f.size (λ s. f.size ≤ s) (λ e. let a = ltb-true f.size (at + length bytes) e in omega (arith, a)) (λ _. omega arith)

    end_in : at + length bytes ≤ new.size
    end_in = cond_both (nat_lt f.size (at + length bytes)) (at + length bytes) f.size (λ s. at + length bytes ≤ s) (λ _. omega arith) (λ e. ltb-false f.size (at + length bytes) e)
