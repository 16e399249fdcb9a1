-- What a superblock that isn't refused promises.
use Rattle.std.proofs.Common.{◌≡◌, ◌<◌, ◌≤◌, ◌+◌, ◌-◌, ◌*◌, ℕ, length, slice_index, Bool, true, false, refl, sym, ap, subst, arith}
use mathlib.Core.Logic.{◌⊎◌, inl, inr}
use Rattle.std.specs.Prelude.{Result, Ok, Err, T, not, is_ok, ◌==◌, ◌&&◌, ◌||◌, nat_lt, if◌then◌else◌}
use Rattle.std.proofs.lemmas.Bool.{and_parts, eqb-true, leb-true, ltb-true, ltb-false}
use Rattle.lemmas.proofs.Bools.{not_false}
use Rattle.layout.specs.declared.Geometry.{Geometry}
use Rattle.layout.specs.declared.LayoutRefusal.{LayoutRefusal}
use Rattle.layout.specs.declared.LayoutRefusal.TheVariants.{Truncated, BadMagic, BadBlockSize, BadVersion, BadCounts, DoesNotFit}
use Rattle.layout.specs.Bytes.{u16_at, u32_at}
use Rattle.layout.specs.Places.{superblock_geometry, counts_agree, is_block_size, IsGeometry, GeometryFits}

-- a test that was passed, and what comes after it
passed : (b : Bool) (refusal : LayoutRefusal) (rest : Result Geometry LayoutRefusal) (g : Geometry)
    → (if b then Err refusal else rest) ≡ Ok g → (b ≡ false) × (rest ≡ Ok g)
passed true refusal rest g h = absurd (subst (λ b. T (not b)) (ap is_ok h) tt)
passed false refusal rest g h = (refl, h)

-- a result that is a geometry
abbrev the_ok : Geometry → Result Geometry LayoutRefusal
the_ok g = Ok g

-- the geometry that was read is the superblock's
read_is : (g h : Geometry) → the_ok g ≡ the_ok h → g ≡ h
read_is g h e = ap (λ r. elim r [ Ok x ↦ x | Err _ ↦ g ]) e

-- an accepted block size is one of three
pub block_sizes : (n : ℕ) → is_block_size n ≡ true → (n ≡ 1024) ⊎ (n ≡ 2048) ⊎ (n ≡ 4096)
block_sizes n h = one_of (n == 1024) (n == 2048) (n == 4096) (eqb-true n 1024) (eqb-true n 2048) (eqb-true n 4096) h
  where
    one_of : (a b c : Bool) → (a ≡ true → n ≡ 1024) → (b ≡ true → n ≡ 2048) → (c ≡ true → n ≡ 4096) → a || b || c ≡ true
        → (n ≡ 1024) ⊎ (n ≡ 2048) ⊎ (n ≡ 4096)
    one_of true b c first second third h = inl (first refl)
    one_of false true c first second third h = inr (inl (second refl))
    one_of false false true first second third h = inr (inr (third refl))
    one_of false false false first second third h = absurd (subst (λ b. T (not b)) h tt)

-- an accepted block size is above 0
pub is_sized : (n : ℕ) → is_block_size n ≡ true → 0 < n
is_sized n h = elim (block_sizes n h) [
  | inl e ↦ omega arith
  | inr (inl e) ↦ omega arith
  | inr (inr e) ↦ omega arith
]

-- the counts, read as facts
counts_fit : (g : Geometry) → is_block_size g.block_size ≡ true → counts_agree g ≡ true → IsGeometry g
counts_fit g size h =
    let a = and_parts _ _ h in
    let b = and_parts _ _ a.0 in
    let c = and_parts _ _ b.0 in
    let d = and_parts _ _ c.0 in
    let e = and_parts _ _ d.0 in
    let f = and_parts _ _ e.0 in
    let few : g.inodes + 1 ≤ 8 * g.block_size * g.inode_map_blocks = leb-true _ _ b.1 in
    let bits : g.zones - g.first_zone + 1 ≤ 8 * g.block_size * g.zone_map_blocks = leb-true _ _ a.1 in
    record {
      block_size = size;
      sized = is_sized g.block_size size;
      some_inode = leb-true 1 g.inodes f.0;
      inodes = leb-true g.inodes 65535 f.1;
      zones = leb-true g.zones 65536 e.1;
      inode_map = omega arith;
      zone_map = omega arith;
      first = eqb-true _ _ c.1;
      some_zone = ltb-true g.first_zone g.zones d.1;
    }

pub geometry_fits : GeometryFits
geometry_fits image g h =
    let s = superblock_geometry image in
    let whole = passed (nat_lt (length image) 1055) Truncated _ g h in
    let magic = passed (not (u16_at image 1048 == 19802)) BadMagic _ g whole.1 in
    let size = passed (not (is_block_size s.block_size)) BadBlockSize _ g magic.1 in
    let version = passed (not ((slice_index image 1054 == 0) && (u16_at image 1036 == 0))) BadVersion _ g size.1 in
    let counts = passed (not ((u32_at image 1040 == 2147483647) && counts_agree s)) BadCounts _ g version.1 in
    let fits = passed (nat_lt (length image) (s.zones * s.block_size)) DoesNotFit (Ok s) g counts.1 in
    let agree = (and_parts (u32_at image 1040 == 2147483647) (counts_agree s) (not_false _ counts.0)).1 in
    let room : s.zones * s.block_size ≤ length image = ltb-false _ _ fits.0 in
    subst (λ x. IsGeometry x × (x.zones * x.block_size ≤ length image)) (read_is s g fits.1)
    (counts_fit s (not_false _ size.0) agree, room)
