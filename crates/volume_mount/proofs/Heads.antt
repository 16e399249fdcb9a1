-- What a superblock that isn't refused says of the volume's length.
use Rattle.std.proofs.Common.{◌≡◌, ◌<◌, ◌≤◌, ◌+◌, ◌-◌, ◌*◌, ℕ, Bool, true, false, refl, sym, ◌∙◌, arith, List}
use Rattle.std.specs.Prelude.{Result, Ok, Err, not, ◌==◌, ◌&&◌, if◌then◌else◌, nat_lt, nat_le, length, slice_index}
use Rattle.std.proofs.lemmas.Bool.{and_parts, eqb-true, leb-true, ltb-true}
use Rattle.lemmas.proofs.Bools.{not_false}
use Rattle.layout.specs.declared.Geometry.{Geometry}
use Rattle.layout.specs.declared.LayoutRefusal.{LayoutRefusal}
use Rattle.layout.specs.declared.LayoutRefusal.TheVariants.{Truncated, BadMagic, BadBlockSize, BadVersion, BadCounts, DoesNotFit}
use Rattle.layout.specs.Bytes.{u16_at, u32_at}
use Rattle.layout.specs.Places.{geometry_of, superblock_geometry, counts_agree, is_block_size, table_blocks}
use Rattle.volume_mount.specs.Whole.{HasSizes, IsHeadFit}

-- a test that was passed
passed : (b : Bool) (x : LayoutRefusal) (rest : Result Geometry LayoutRefusal)
    → ((e : LayoutRefusal) → (if b then Err x else rest) ≡ Err e → e ≡ DoesNotFit) → (x ≡ DoesNotFit → ⊥)
    → (b ≡ false) × ((e : LayoutRefusal) → rest ≡ Err e → e ≡ DoesNotFit)
passed true x rest h n = absurd (n (h x refl))
passed false x rest h n = (refl, h)

-- its numbers
numbers : (g : Geometry) → is_block_size g.block_size ≡ true → counts_agree g ≡ true → HasSizes g
numbers g size h =
    let a = and_parts _ (nat_le (g.zones - g.first_zone + 1) (8 * g.block_size * g.zone_map_blocks)) h in
    let b = and_parts _ (nat_le (g.inodes + 1) (8 * g.block_size * g.inode_map_blocks)) a.0 in
    let c = and_parts _ (g.first_zone == 2 + g.inode_map_blocks + g.zone_map_blocks + table_blocks g) b.0 in
    let d = and_parts _ (nat_lt g.first_zone g.zones) c.0 in
    let e = and_parts (nat_le 1 g.inodes && nat_le g.inodes 65535) (nat_le g.zones 65536) d.0 in
    let zones : g.zones ≤ 65536 = leb-true _ _ e.1 in
    let some : g.first_zone < g.zones = ltb-true _ _ d.1 in
    let first : g.first_zone ≡ 2 + g.inode_map_blocks + g.zone_map_blocks + table_blocks g = eqb-true _ _ c.1 in
    record { block_size = size; zones = zones; some = omega (arith, some, first) }

-- the sizes of a superblock that is fit
pub sizes_of : (head : List ℕ) → IsHeadFit head → HasSizes (superblock_geometry head)
sizes_of head fit =
    let a = passed (nat_lt (length head) 1055) Truncated _ fit.fits (λ e. cc) in
    let b = passed (not (u16_at head 1048 == 19802)) BadMagic _ a.1 (λ e. cc) in
    let c = passed (not (is_block_size (superblock_geometry head).block_size)) BadBlockSize _ b.1 (λ e. cc) in
    let d = passed (not ((slice_index head 1054 == 0) && (u16_at head 1036 == 0))) BadVersion _ c.1 (λ e. cc) in
    let f = passed (not ((u32_at head 1040 == 2147483647) && counts_agree (superblock_geometry head))) BadCounts _ d.1 (λ e. cc) in
    numbers (superblock_geometry head) (not_false _ c.0) (and_parts _ _ (not_false _ f.0)).1

-- a superblock that was read is fit
pub fit_ok : (head : List ℕ) (g : Geometry) → geometry_of head ≡ Ok g → IsHeadFit head
fit_ok head g h = record { fits = λ e k. absurd (other (sym h ∙ k)) } where
  other : {e : LayoutRefusal} → ◌≡◌ {A = Result Geometry LayoutRefusal} (Ok g) (Err e) → ⊥
  other k = cc

-- and so is one that is refused for the length alone
pub fit_short : (head : List ℕ) → geometry_of head ≡ Err DoesNotFit → IsHeadFit head
fit_short head h = record { fits = λ e k. same (sym h ∙ k) } where
  same : {e : LayoutRefusal} → ◌≡◌ {A = Result Geometry LayoutRefusal} (Err DoesNotFit) (Err e) → e ≡ DoesNotFit
  same k = cc
