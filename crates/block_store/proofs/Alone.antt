-- A write to one block leaves what is read from others.
use Rattle.std.proofs.Common.{◌≡◌, ◌≢◌, ◌≤◌, ◌<◌, ◌+◌, ◌-◌, ◌*◌, ◌/◌, ◌%◌, ℕ, sym, ap, ◌∙◌, arith}
use mathlib.Core.Logic.{inl, inr}
use Rattle.std.specs.Prelude.{IsTrue, ◌⊎◌, nat_le, nat_lt, ◌&&◌, if◌then◌else◌}
use Rattle.std.proofs.Math.Nat.{mul_comm}
use Rattle.std.proofs.lemmas.Nat.{div_below}
use Rattle.std.proofs.lemmas.Bool.{and_parts, leb-true, lt-leb, cond-true, cond-false, cases_lt, cases_Bool}
use Rattle.layout.specs.declared.Geometry.{Geometry}
use Rattle.layout.specs.Places.{IsGeometry}
use Rattle.lemmas.specs.Sums.{put}
use Rattle.lemmas.proofs.Maps.{put-same, put-other, is_put}
use Rattle.volume.specs.declared.Inode.{Inode}
use Rattle.volume.specs.Reading.{Disk, is_inode, is_data_zone, inode_in, inode_block, inode_offset, inode_of_disk, inode_bit, zone_bit, bit_in}
use Rattle.volume.specs.Pieces.{pieces, blank}
use Rattle.block_store.specs.Volume.{Alters}
use Rattle.block_store.specs.Regions.{zone_map_start, table_start, with_inode_map, with_zone_map, with_inodes, with_zone}
use Rattle.block_store.proofs.Places.{after_maps, before_zones}

-- a number that isn't between two others
abbrev Outside : ℕ → ℕ → ℕ → Type 0
Outside low high n = (n < low) ⊎ (high ≤ n)

-- and so none that is
differ : (low high n m : ℕ) → Outside low high n → low ≤ m → m < high → m ≢ n
differ low high n m (inl l) a b same = absurd (omega (arith, same, l, a))
differ low high n m (inr l) a b same = absurd (omega (arith, same, l, b))

module _ (g : Geometry) (geometry : IsGeometry g) (d : Disk) (block : ℕ) (row : ℕ → ℕ) where
  -- the disk after the write
  abbrev e : Disk
  e = put d block row

  -- its other blocks
  other : (b : ℕ) → b ≢ block → e b ≡ d b
  other b h = put-other d block row b h

  abbrev width : ℕ
  width = 8 * g.block_size

  some : 0 < width
  some = omega (arith, geometry.sized)

  -- the maps, where the block isn't theirs
  inode_map : Outside 2 (zone_map_start g) block → (m : ℕ) → (pieces g e).inode_map m ≡ (pieces g d).inode_map m
  inode_map out m = elim (cases_lt g.inodes m) [
    | inl past ↦ ap (λ b. b && inode_bit g e m) (lt-leb m g.inodes past) ∙ sym (ap (λ b. b && inode_bit g d m) (lt-leb m g.inodes past))
    | inr within ↦
        let below : m / width < g.inode_map_blocks = div_below m width g.inode_map_blocks some
        (let c = mul_comm g.inode_map_blocks width in let l = geometry.inode_map in omega (arith, c, l, within)) in
        ap (λ (f : ℕ → ℕ). nat_le m g.inodes && bit_in f (m % width)) (other (2 + m / width) (differ 2 (zone_map_start g) block (2 + m / width) out (omega arith) (omega (arith, below))))
  ]

  zone_map : Outside (zone_map_start g) (table_start g) block → (m : ℕ) → (pieces g e).zone_map m ≡ (pieces g d).zone_map m
  zone_map out m = elim (cases_lt (g.zones - g.first_zone) m) [
    | inl past ↦ ap (λ b. b && zone_bit g e m) (lt-leb m (g.zones - g.first_zone) past) ∙ sym (ap (λ b. b && zone_bit g d m) (lt-leb m (g.zones - g.first_zone) past))
    | inr within ↦
        let below : m / width < g.zone_map_blocks = div_below m width g.zone_map_blocks some
        (let c = mul_comm g.zone_map_blocks width in let l = geometry.zone_map in omega (arith, c, l, within)) in
        ap (λ (f : ℕ → ℕ). nat_le m (g.zones - g.first_zone) && bit_in f (m % width))
        (other (2 + g.inode_map_blocks + m / width) (differ (zone_map_start g) (table_start g) block (2 + g.inode_map_blocks + m / width) out (omega arith) (omega (arith, below))))
  ]

  -- the inodes, where the block isn't the table's
  inodes : Outside (table_start g) g.first_zone block → (m : ℕ) → (pieces g e).inodes m ≡ (pieces g d).inodes m
  inodes out m = elim (cases_Bool (is_inode g m)) [
    | inl in_it ↦
        let f : (ℕ → ℕ) → Inode = λ x. if is_inode g m then inode_in x (inode_offset g m) else blank in
        ap f (other (inode_block g m) (differ (table_start g) g.first_zone block (inode_block g m) out (after_maps g geometry m) (before_zones g geometry m in_it)))
    | inr past ↦ cond-false (is_inode g m) (inode_of_disk g e m) blank past ∙ sym (cond-false (is_inode g m) (inode_of_disk g d m) blank past)
  ]

  -- the data zones, where the block comes before them
  zones : block < g.first_zone → (z : ℕ) → (pieces g e).zones z ≡ (pieces g d).zones z
  zones before z = elim (cases_Bool (is_data_zone g z)) [
    | inl in_it ↦
        let low = leb-true g.first_zone z (and_parts (nat_le g.first_zone z) (nat_lt z g.zones) in_it).0 in
        let f : (ℕ → ℕ) → ℕ → ℕ = λ x o. if is_data_zone g z then x o else 0 in
        ap f (other z (λ same. absurd (omega (arith, same, low, before))))
    | inr past ↦ λ i o. (cond-false (is_data_zone g z) (e z o) 0 past ∙ sym (cond-false (is_data_zone g z) (d z o) 0 past)) i
  ]

  -- and where it is one of them, the others
  one_zone : IsTrue (is_data_zone g block) → (pieces g e).zones ≡ put (pieces g d).zones block row
  one_zone in_it = is_put (pieces g d).zones (pieces g e).zones block row
      (λ i o. (cond-true (is_data_zone g block) (e block o) 0 in_it ∙ ap (λ (x : ℕ → ℕ). x o) (put-same d block row)) i)
      (λ z ne. let f : (ℕ → ℕ) → ℕ → ℕ = λ x o. if is_data_zone g z then x o else 0 in ap f (other z ne))

  -- the blocks before the maps
  head : 2 ≤ block → (b : ℕ) → b < 2 → e b ≡ d b
  head past b h = other b (λ same. absurd (omega (arith, same, past, h)))

  -- the laws
  pub in_inode_map : 2 ≤ block → block < zone_map_start g → Alters g (with_inode_map (pieces g d) (pieces g e)) d e
  in_inode_map low high =
      let first = geometry.first in
      record {
        pieces = λ i. record {
          inode_map = (pieces g e).inode_map;
          zone_map = λ m. zone_map (inl (omega arith)) m i;
          inodes = λ m. inodes (inl (omega (arith, high))) m i;
          zones = λ z. zones (omega (arith, first, high)) z i;
        };
        head = head low;
      }

  pub in_zone_map : zone_map_start g ≤ block → block < table_start g → Alters g (with_zone_map (pieces g d) (pieces g e)) d e
  in_zone_map low high =
      let first = geometry.first in
      record {
        pieces = λ i. record {
          inode_map = λ m. inode_map (inr low) m i;
          zone_map = (pieces g e).zone_map;
          inodes = λ m. inodes (inl high) m i;
          zones = λ z. zones (omega (arith, first, high)) z i;
        };
        head = head (omega (arith, low));
      }

  pub in_table : table_start g ≤ block → block < g.first_zone → Alters g (with_inodes (pieces g d) (pieces g e)) d e
  in_table low high = record {
    pieces = λ i. record {
      inode_map = λ m. inode_map (inr (omega (arith, low))) m i;
      zone_map = λ m. zone_map (inr low) m i;
      inodes = (pieces g e).inodes;
      zones = λ z. zones high z i;
    };
    head = head (omega (arith, low));
  }

  pub in_zone : IsTrue (is_data_zone g block) → Alters g (with_zone (pieces g d) block row) d e
  in_zone in_it =
      let first = geometry.first in
      let low = leb-true g.first_zone block (and_parts (nat_le g.first_zone block) (nat_lt block g.zones) in_it).0 in
      record {
        pieces = λ i. record {
          inode_map = λ m. inode_map (inr (omega (arith, first, low))) m i;
          zone_map = λ m. zone_map (inr (omega (arith, first, low))) m i;
          inodes = λ m. inodes (inr low) m i;
          zones = one_zone in_it i;
        };
        head = head (omega (arith, first, low));
      }
