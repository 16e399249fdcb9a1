-- An image with the superblock of another, and as long, has its sizes.
use Rattle.std.proofs.Common.{◌≡◌, ◌<◌, ◌≤◌, ◌*◌, ℕ, List, length, slice_index, refl, sym, ◌∙◌}
use mathlib.Core.Logic.{inl, inr}
use Rattle.std.specs.Prelude.{Result, Ok, Err, not, nat_lt, nat_le, ◌==◌, ◌&&◌, if◌then◌else◌}
use Rattle.std.proofs.lemmas.Bool.{and_parts, cases_Bool, cond-true, cond-false, leb-true, ltb-true}
use Rattle.layout.specs.declared.Geometry.{Geometry}
use Rattle.layout.specs.declared.LayoutRefusal.{LayoutRefusal}
use Rattle.layout.specs.declared.LayoutRefusal.TheVariants.{Truncated, BadMagic, BadBlockSize, BadVersion, BadCounts, DoesNotFit}
use Rattle.layout.specs.Places.{counts_agree, geometry_of, is_block_size}
use Rattle.volume.specs.Reading.{u16_in, u32_in}

-- the superblock's bytes
abbrev row : List ℕ → ℕ → ℕ
row image p = if nat_le 1024 p && nat_lt p 1055 then slice_index image p else 0

-- the sizes that such bytes say
abbrev sizes_by : (ℕ → ℕ) → Geometry
sizes_by f = record {
  block_size = u16_in f 1052;
  inodes = u32_in f 1024;
  zones = u32_in f 1044;
  inode_map_blocks = u16_in f 1030;
  zone_map_blocks = u16_in f 1032;
  first_zone = u16_in f 1034;
}

-- and whether they are accepted, of so many bytes in all
abbrev geometry_by : ℕ → (ℕ → ℕ) → Result Geometry LayoutRefusal
geometry_by many f =
    let g = sizes_by f in
    if nat_lt many 1055 then Err Truncated else
    if not (u16_in f 1048 == 19802) then Err BadMagic else
    if not (is_block_size g.block_size) then Err BadBlockSize else
    if not ((f 1054 == 0) && (u16_in f 1036 == 0)) then Err BadVersion else
    if not ((u32_in f 1040 == 2147483647) && counts_agree g) then Err BadCounts else
    if nat_lt many (g.zones * g.block_size) then Err DoesNotFit else
    Ok g

-- so it is with an image
by_row : (image : List ℕ) → geometry_of image ≡ geometry_by (length image) (row image)
by_row image = refl

-- two images with the same superblock
row_alike : (a b : List ℕ) → ((p : ℕ) → 1024 ≤ p → p < 1055 → slice_index a p ≡ slice_index b p) → row a ≡ row b
row_alike a b same = λ i p. each p i
  where
    each : (p : ℕ) → row a p ≡ row b p
    each p = elim (cases_Bool (nat_le 1024 p && nat_lt p 1055)) [
      | inl inside ↦
          let parts = and_parts (nat_le 1024 p) (nat_lt p 1055) inside in
          cond-true (nat_le 1024 p && nat_lt p 1055) _ _ inside ∙ same p (leb-true 1024 p parts.0) (ltb-true p 1055 parts.1)
          ∙ sym (cond-true (nat_le 1024 p && nat_lt p 1055) _ _ inside)
      | inr outside ↦
          cond-false (nat_le 1024 p && nat_lt p 1055) _ _ outside
          ∙ sym (cond-false (nat_le 1024 p && nat_lt p 1055) _ _ outside)
    ]

-- the sizes are the same
pub same_sizes : (g : Geometry) (old new : List ℕ) → geometry_of old ≡ Ok g → length new ≡ length old
    → ((p : ℕ) → 1024 ≤ p → p < 1055 → slice_index new p ≡ slice_index old p) → geometry_of new ≡ Ok g
same_sizes g old new parsed long same =
    by_row new ∙ (λ i. geometry_by (long i) (row_alike new old same i)) ∙ sym (by_row old) ∙ parsed
