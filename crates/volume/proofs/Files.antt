-- The file of a sound inode is a file.
use Rattle.std.proofs.Common.{◌≡◌, ◌≢◌, ◌<◌, ◌≤◌, ◌+◌, ◌-◌, ◌*◌, ◌/◌, ◌%◌, ℕ, suc, Bool, true, false, refl, ap, cond, arith}
use mathlib.Core.Logic.{inl, inr}
use Rattle.std.specs.Prelude.{not, ◌||◌, ◌==◌, nat_lt, nat_le}
use Rattle.std.proofs.lemmas.Bool.{or_cases, cond-false, eqb-false, leb-true, le-ltb, not-true, not-false}
use Rattle.std.proofs.lemmas.Nat.{div-add-mod'}
use Rattle.layout.specs.declared.Geometry.{Geometry}
use Rattle.volume.specs.declared.Inode.{Inode}
use Rattle.tree.specs.Tree.{most_size}
use Rattle.tree.specs.IsTree.{IsFile}
use Rattle.tree.specs.Space.{pages_of}
use Rattle.volume.specs.Pieces.{Pieces}
use Rattle.volume.specs.Nodes.{page_zone, file_byte, file_of}

-- a page below the last begins below the end
page_starts : (q s b : ℕ) → 0 < b → q < (s + b - 1) / b → q * b < s
page_starts q s b some h =
    let whole : (s + b - 1) / b * b + (s + b - 1) % b ≡ s + b - 1 = div-add-mod' (s + b - 1) b in
    let d : ℕ = (s + b - 1) / b - suc q in
    let turn : (s + b - 1) / b * b ≡ (suc q + d) * b = ap (λ x. x * b) (let e : (s + b - 1) / b ≡ suc q + d = omega arith in e) in
    let spread : (suc q + d) * b ≡ q * b + b + d * b = grind arith in
    omega arith

-- a byte under two tests is a byte
byte_in_two : (a b : Bool) (x : ℕ) → x < 256 → cond a (cond b 0 x) 0 < 256
byte_in_two true true x h = omega arith
byte_in_two true false x h = h
byte_in_two false b x h = omega arith

-- and is 0 in a hole
none_in_hole : (a b : Bool) (x : ℕ) → b ≡ true → cond a (cond b 0 x) 0 ≡ 0
none_in_hole true true x e = refl
none_in_hole false true x e = refl
none_in_hole a false x e = absurd (cc)

module _ (g : Geometry) (v : Pieces) (i : Inode) (some : 0 < g.block_size) (bytes : (z o : ℕ) → v.zones z o < 256)
    (low : i.size ≤ most_size) (inside : (p : ℕ) → page_zone g v i p ≢ 0 → p < pages_of g i.size) where
  -- past the end and in a hole each byte is 0
  past : (p : ℕ) → (nat_le i.size p || not (not (page_zone g v i (p / g.block_size) == 0))) ≡ true → file_byte g v i p ≡ 0
  past p is = elim (or_cases (nat_le i.size p) (not (not (page_zone g v i (p / g.block_size) == 0))) is) [
    | inl far ↦ cond-false (nat_lt p i.size) _ 0 (le-ltb p i.size (leb-true i.size p far))
    | inr hole ↦ none_in_hole (nat_lt p i.size) (page_zone g v i (p / g.block_size) == 0) _ (not-false _ (not-true _ hole))
  ]

  -- a file by its inode
  pub is_file_of : IsFile g (file_of g v i)
  is_file_of = record {
    size = low;
    held = λ q is. page_starts q i.size g.block_size some (inside q (eqb-false _ 0 (not-true _ is)));
    zeros = past;
    bytes = λ p. byte_in_two (nat_lt p i.size) (page_zone g v i (p / g.block_size) == 0) _ (bytes _ _);
  }
