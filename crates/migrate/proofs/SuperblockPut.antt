-- A version 2 image with version 3's superblock says the same pieces.
use Rattle.std.proofs.Common.{◌≡◌, ◌≤◌, ◌<◌, ◌+◌, ◌-◌, ◌*◌, ◌/◌, ◌%◌, ◌++◌, ℕ, List, [], Bool, true, false, length, take, drop, refl, sym}
use Rattle.std.proofs.Common.{ap, subst, ◌∙◌, arith, get_or}
use mathlib.Core.Logic.{inl, inr}
use Rattle.std.specs.Prelude.{nat_le, nat_lt, ◌&&◌, ◌==◌, T, not, is_ok, Result, Ok, Err, if◌then◌else◌}
use Rattle.std.proofs.Math.Nat.{mul_comm}
use Rattle.std.proofs.lemmas.Nat.{div_below, mul-add-lt}
use Rattle.std.proofs.lemmas.List.{get_or-append_right, get_or-take, get_or-drop, length-take-le, length-append, length-drop, take_all}
use Rattle.std.proofs.lemmas.List.{drop_all, append-nil}
use Rattle.std.proofs.lemmas.Bool.{and_parts, eqb-true, leb-true, ltb-true, ltb-false, lt-leb, lt-ltb, le-ltb, cond-true, cond-false}
use Rattle.std.proofs.lemmas.Bool.{cases_lt, cases_Bool}
use Rattle.lemmas.proofs.Bools.{not_false}
use Rattle.layout.specs.declared.Geometry.{Geometry}
use Rattle.layout.specs.Bytes.{u16_at}
use Rattle.layout.specs.Places.{IsGeometry, table_blocks, counts_agree, is_block_size}
use Rattle.layout.specs.Superblock.{superblock_bytes, with_superblock}
use Rattle.layout.proofs.Parsed.{block_sizes}
use Rattle.layout.proofs.Written.{reads_back}
use Rattle.volume.specs.declared.Inode.{Inode}
use Rattle.volume.specs.Reading.{Disk, disk_of, is_inode, is_data_zone, inode_in, inode_block, inode_offset, inode_of_disk}
use Rattle.volume.specs.Reading.{inode_bit, zone_bit, bit_in}
use Rattle.volume.specs.Pieces.{pieces, blank}
use Rattle.migrate.specs.declared.old_volume.superblock.OldRefusal.{OldRefusal}
use Rattle.migrate.specs.declared.old_volume.superblock.OldRefusal.TheVariants.{Truncated, BadMagic, BadZoneSize, BadCounts, DoesNotFit}
use Rattle.migrate.specs.Superblock.{old_superblock_geometry, old_geometry_of}
use Rattle.migrate.specs.Stamped.{IsStamped}

-- a test that was passed, and what comes after it
passed : (b : Bool) (refusal : OldRefusal) (rest : Result Geometry OldRefusal) (g : Geometry)
    → (if b then Err refusal else rest) ≡ Ok g → (b ≡ false) × (rest ≡ Ok g)
passed true refusal rest g h = absurd (subst (λ b. T (not b)) (ap is_ok h) tt)
passed false refusal rest g h = (refl, h)

-- a result that is a geometry
abbrev the_ok : Geometry → Result Geometry OldRefusal
the_ok g = Ok g

-- the geometry that was read is the superblock's
read_is : (g h : Geometry) → the_ok g ≡ the_ok h → g ≡ h
read_is g h e = ap (λ r. elim r [ Ok x ↦ x | Err _ ↦ g ]) e

-- the counts, read as facts
counts_fit : (g : Geometry) → g.block_size ≡ 1024 → is_block_size g.block_size ≡ true → counts_agree g ≡ true → IsGeometry g
counts_fit g sized size h =
    let a = and_parts _ _ h in
    let b = and_parts _ _ a.0 in
    let c = and_parts _ _ b.0 in
    let d = and_parts _ _ c.0 in
    let e = and_parts _ _ d.0 in
    let f = and_parts _ _ e.0 in
    let few : g.inodes + 1 ≤ 8 * g.block_size * g.inode_map_blocks = leb-true _ _ b.1 in
    let bits : g.zones - g.first_zone + 1 ≤ 8 * g.block_size * g.zone_map_blocks = leb-true _ _ a.1 in
    record {
      block_size = size;
      sized = omega arith;
      some_inode = leb-true 1 g.inodes f.0;
      inodes = leb-true g.inodes 65535 f.1;
      zones = leb-true g.zones 65536 e.1;
      inode_map = omega arith;
      zone_map = omega arith;
      first = eqb-true _ _ c.1;
      some_zone = ltb-true g.first_zone g.zones d.1;
    }

-- what a superblock that isn't refused promises
pub record OldFits (image : List ℕ) (g : Geometry) : Type 0 where
  pub sizes : IsGeometry g
  pub block : g.block_size ≡ 1024
  pub room : 1024 * g.zones ≤ length image
  pub flat : g.zones * g.block_size ≡ 1024 * g.zones

pub old_fits : (image : List ℕ) (g : Geometry) → old_geometry_of image ≡ Ok g → OldFits image g
old_fits image g h =
    let s = old_superblock_geometry image in
    let whole = passed (nat_lt (length image) 1048) Truncated _ g h in
    let magic = passed (not (u16_at image 1040 == 9320)) BadMagic _ g whole.1 in
    let size = passed (not (u16_at image 1034 == 0)) BadZoneSize _ g magic.1 in
    let counts = passed (not (counts_agree s)) BadCounts _ g size.1 in
    let fits = passed (nat_lt (length image) (1024 * s.zones)) DoesNotFit (Ok s) g counts.1 in
    let room : 1024 * s.zones ≤ length image = ltb-false _ _ fits.0 in
    subst (OldFits image) (read_is s g fits.1) (record {
      sizes = counts_fit s refl refl (not_false _ counts.0);
      block = refl;
      room = room;
      flat = omega arith;
    })

-- the inodes' blocks come before the data zones
before_zones : (g : Geometry) → IsGeometry g → (n : ℕ) → 1 ≤ n → n ≤ g.inodes → inode_block g n < g.first_zone
before_zones g geometry n some most =
    let first = geometry.first in
    elim (block_sizes g.block_size geometry.block_size) [
      | inl e ↦
          let q : (n - 1) / (g.block_size / 64) ≡ (n - 1) / 16 = ap (λ s. (n - 1) / (s / 64)) e in
          let t : table_blocks g ≡ (64 * g.inodes + 1024 - 1) / 1024 = ap (λ s. (64 * g.inodes + s - 1) / s) e in
          omega (arith, some, most, q, t)
      | inr (inl e) ↦
          let q : (n - 1) / (g.block_size / 64) ≡ (n - 1) / 32 = ap (λ s. (n - 1) / (s / 64)) e in
          let t : table_blocks g ≡ (64 * g.inodes + 2048 - 1) / 2048 = ap (λ s. (64 * g.inodes + s - 1) / s) e in
          omega (arith, some, most, q, t)
      | inr (inr e) ↦
          let q : (n - 1) / (g.block_size / 64) ≡ (n - 1) / 64 = ap (λ s. (n - 1) / (s / 64)) e in
          let t : table_blocks g ≡ (64 * g.inodes + 4096 - 1) / 4096 = ap (λ s. (64 * g.inodes + s - 1) / s) e in
          omega (arith, some, most, q, t)
    ]

module _ (g : Geometry) (geometry : IsGeometry g) (d e : Disk) (same : (b : ℕ) → 2 ≤ b → b < g.zones → e b ≡ d b) where
  abbrev width : ℕ
  width = 8 * g.block_size

  some : 0 < width
  some = omega (arith, geometry.sized)

  inode_map : (m : ℕ) → (pieces g e).inode_map m ≡ (pieces g d).inode_map m
  inode_map m = elim (cases_lt g.inodes m) [
    | inl past ↦ ap (λ b. b && inode_bit g e m) (lt-leb m g.inodes past) ∙ sym (ap (λ b. b && inode_bit g d m) (lt-leb m g.inodes past))
    | inr within ↦
        let below : m / width < g.inode_map_blocks = div_below m width g.inode_map_blocks some
        (let c = mul_comm g.inode_map_blocks width in let l = geometry.inode_map in omega (arith, c, l, within)) in
        let first = geometry.first in
        let last = geometry.some_zone in
        ap (λ (f : ℕ → ℕ). nat_le m g.inodes && bit_in f (m % width)) (same (2 + m / width) (omega arith)
        (omega (arith, below, first, last)))
  ]

  zone_map : (m : ℕ) → (pieces g e).zone_map m ≡ (pieces g d).zone_map m
  zone_map m = elim (cases_lt (g.zones - g.first_zone) m) [
    | inl past ↦ ap (λ b. b && zone_bit g e m) (lt-leb m (g.zones - g.first_zone) past)
        ∙ sym (ap (λ b. b && zone_bit g d m) (lt-leb m (g.zones - g.first_zone) past))
    | inr within ↦
        let below : m / width < g.zone_map_blocks = div_below m width g.zone_map_blocks some
        (let c = mul_comm g.zone_map_blocks width in let l = geometry.zone_map in omega (arith, c, l, within)) in
        let first = geometry.first in
        let last = geometry.some_zone in
        ap (λ (f : ℕ → ℕ). nat_le m (g.zones - g.first_zone) && bit_in f (m % width))
        (same (2 + g.inode_map_blocks + m / width) (omega arith) (omega (arith, below, first, last)))
  ]

  inodes : (m : ℕ) → (pieces g e).inodes m ≡ (pieces g d).inodes m
  inodes m = elim (cases_Bool (is_inode g m)) [
    | inl in_it ↦
        let p = and_parts (nat_le 1 m) (nat_le m g.inodes) in_it in
        let low = before_zones g geometry m (leb-true 1 m p.0) (leb-true m g.inodes p.1) in
        let last = geometry.some_zone in
        let f : (ℕ → ℕ) → Inode = λ x. if is_inode g m then inode_in x (inode_offset g m) else blank in
        ap f (same (inode_block g m) (omega arith) (omega (arith, low, last)))
    | inr past ↦ cond-false (is_inode g m) (inode_of_disk g e m) blank past
        ∙ sym (cond-false (is_inode g m) (inode_of_disk g d m) blank past)
  ]

  zones : (z : ℕ) → (pieces g e).zones z ≡ (pieces g d).zones z
  zones z = elim (cases_Bool (is_data_zone g z)) [
    | inl in_it ↦
        let parts = and_parts (nat_le g.first_zone z) (nat_lt z g.zones) in_it in
        let low = ltb-true z g.zones parts.1 in
        let from = leb-true g.first_zone z parts.0 in
        let first = geometry.first in
        let f : (ℕ → ℕ) → ℕ → ℕ = λ x o. if is_data_zone g z then x o else 0 in
        ap f (same z (omega arith) low)
    | inr past ↦ λ i o. (cond-false (is_data_zone g z) (e z o) 0 past ∙ sym (cond-false (is_data_zone g z) (d z o) 0 past)) i
  ]

  pub same_pieces : pieces g e ≡ pieces g d
  same_pieces = λ i. record {
    inode_map = λ m. inode_map m i;
    zone_map = λ m. zone_map m i;
    inodes = λ m. inodes m i;
    zones = λ z. zones z i;
  }

-- what was lent whole comes back whole
pub put_back : (len : ℕ) (new old : List ℕ) → length new ≡ length old → length old ≤ len → take len (new ++ drop (length new) old) ≡ new
put_back len new old same long =
    let none : drop (length new) old ≡ [] = drop_all (length new) old (omega arith) in
    ap (λ l. take len (new ++ l)) none ∙ ap (take len) (append-nil new) ∙ take_all len new (omega arith)

-- a superblock leaves the length
pub put_length : (g : Geometry) (xs : List ℕ) → 1055 ≤ length xs → length (with_superblock g xs) ≡ length xs
put_length g xs long =
    let bytes : length (superblock_bytes g) ≡ 31 = refl in
    omega (
      arith,
      length-append (take 1024 xs) (superblock_bytes g ++ drop 1055 xs),
      length-append (superblock_bytes g) (drop 1055 xs),
      length-take-le 1024 xs (omega arith),
      length-drop 1055 xs,
    )

-- the bytes behind the superblock stay
behind : (g : Geometry) (b : List ℕ) (k : ℕ) → 1055 ≤ length b → 1055 ≤ k → get_or (with_superblock g b) k 0 ≡ get_or b k 0
behind g b k long far =
    let size : length (superblock_bytes g) ≡ 31 = refl in
    let at : 1055 + (k - 1024 - 31) ≡ k = omega arith in
    get_or-append_right (take 1024 b) (superblock_bytes g ++ drop 1055 b) 1024 k 0 (length-take-le 1024 b (omega arith)) (omega arith)
    ∙ get_or-append_right (superblock_bytes g) (drop 1055 b) 31 (k - 1024) 0 size (omega arith)
    ∙ get_or-drop 1055 b (k - 1024 - 31) 0 ∙ ap (λ k. get_or b k 0) at

module _ (image : List ℕ) (g : Geometry) (h : old_geometry_of image ≡ Ok g) (n : ℕ) (all : n ≡ g.zones * g.block_size) where
  -- the volume's blocks
  abbrev blocks : List ℕ
  blocks = take n image

  -- they are as many as they should be
  size : length blocks ≡ n
  size = let fits = old_fits image g h in let room = fits.room in let flat = fits.flat in length-take-le n image (omega arith)

  -- a byte from block 2 on
  byte : (b o : ℕ) → 2 ≤ b → b < g.zones → o < g.block_size → get_or (with_superblock g blocks) (b * g.block_size + o) 0
      ≡ get_or image (b * g.block_size + o) 0
  byte b o two low h' =
      let fits = old_fits image g h in
      let block = fits.block in
      let flat = fits.flat in
      let two_blocks : 2048 ≤ b * g.block_size = let m : b * g.block_size ≡ b * 1024 = ap (λ k. b * k) block in omega arith in
      let s = size in
      let inside = mul-add-lt b g.block_size o g.zones low h' in
      behind g blocks (b * g.block_size + o) (omega arith) (omega arith) ∙ get_or-take n image (b * g.block_size + o) 0 (omega arith)

  -- so are the blocks
  block_same : (b : ℕ) → 2 ≤ b → b < g.zones → disk_of g (with_superblock g blocks) b ≡ disk_of g image b
  block_same b two low = λ i o. by o i
    where
      by : (o : ℕ) → disk_of g (with_superblock g blocks) b o ≡ disk_of g image b o
      by o = elim (cases_lt o g.block_size) [
        | inl within ↦
            let t = lt-ltb o g.block_size within in
            cond-true (nat_lt o g.block_size) (get_or (with_superblock g blocks) (b * g.block_size + o) 0) 0 t
            ∙ byte b o two low within
            ∙ sym (cond-true (nat_lt o g.block_size) (get_or image (b * g.block_size + o) 0) 0 t)
        | inr past ↦
            let f = le-ltb o g.block_size past in
            cond-false (nat_lt o g.block_size) (get_or (with_superblock g blocks) (b * g.block_size + o) 0) 0 f
            ∙ sym (cond-false (nat_lt o g.block_size) (get_or image (b * g.block_size + o) 0) 0 f)
      ]

  -- the stamped blocks
  pub is_stamped : IsStamped g image (with_superblock g blocks)
  is_stamped =
      let fits = old_fits image g h in
      let sizes = fits.sizes in
      let first = sizes.first in
      let some = sizes.some_zone in
      let flat = fits.flat in
      let s = size in
      record {
        parsed = reads_back blocks g sizes (omega arith) (omega arith);
        pieces = same_pieces g sizes (disk_of g image) (disk_of g (with_superblock g blocks)) block_same;
      }
