-- What was written is the image of a migrated volume.
use Rattle.std.proofs.Common.{◌≡◌, ◌<◌, ◌≤◌, ◌+◌, ◌-◌, ◌*◌, ◌/◌, ◌%◌, ◌^◌, ◌++◌, ℕ, List, length, take, drop, slice_index, Bool}
use Rattle.std.proofs.Common.{true, false, refl, sym, ap, subst, ◌∙◌, arith}
use mathlib.Core.Logic.{inl, inr}
use Rattle.std.specs.Prelude.{◌==◌, ◌&&◌, ◌||◌, nat_lt, nat_le, Ok}
use Rattle.std.proofs.lemmas.Bool.{cases_eq, cases_lt, cases_Bool, and_parts, and_from, cond-true, cond-false, eq-eqb, ne_eqb}
use Rattle.std.proofs.lemmas.Bool.{lt-ltb, le-ltb, le-leb, lt-leb}
use Rattle.std.proofs.lemmas.List.{get_or_past}
use Rattle.layout.specs.declared.Geometry.{Geometry}
use Rattle.layout.specs.Places.{geometry_of, table_blocks}
use Rattle.lemmas.specs.Sums.{sum_below}
use Rattle.tree.specs.Space.{data_zones}
use Rattle.volume.specs.Reading.{disk_of, is_inode, is_data_zone, inode_in, bit_in}
use Rattle.volume.specs.Pieces.{Pieces, pieces}
use Rattle.volume.specs.Nodes.{is_marked}
use Rattle.volume.specs.Entries.{is_directory_inode}
use Rattle.volume.proofs.Sums.{sum_at}
use Rattle.volume.proofs.Ranges.{marked_low}
use Rattle.image.specs.declared.Image.{Image}
use Rattle.image.specs.Contents.{contents}
use Rattle.image.proofs.Places as places
use Rattle.fsck.specs.Form.{version_2}
use Rattle.fsck.specs.Nodes.{nodes_of}
use Rattle.new_volume.specs.Image.{filled_image}
use Rattle.migrate.specs.Laws.{HasPlace}
use Rattle.migrate.specs.Used.{zones_of_all}
use Rattle.migrate.specs.Written.{IsMovedNode, IsWrittenImage, zones_begin}
use Rattle.migrate.specs.Tables.{IsBegun, IsNewInode, Marks, map_of}
use Rattle.migrate.specs.Zones.{Takes, zone_bytes}
use Rattle.migrate.proofs.Heads.{same_sizes}
use Rattle.migrate.proofs.Laid.{sum_front, sum_next}
use Rattle.migrate.proofs.NewInodes.{node_takes}
use Rattle.migrate.proofs.NodeZones.{low, node_kept}
use Rattle.migrate.proofs.Put.{put_size, put_before, put_there, put_behind}
use Rattle.migrate.proofs.UsedNodes.{directory_used}

-- the place of the inode table
abbrev pub table_at : Geometry → ℕ
table_at h = 1024 * (2 + h.inode_map_blocks + h.zone_map_blocks)

-- how many data zones were taken of an image that ends with the last of them
abbrev pub taken_of : Geometry → List ℕ → ℕ
taken_of h image = length image / 1024 - h.first_zone

-- The steps in which the image comes about: the tables, the zones behind them, the inodes, the bits of both maps, and zeros.
pub record AreSteps (i : Image) (h : Geometry) (front bare zoned table full half marked image : List ℕ) (limit limit' : ℕ) : Type 0 where
  pub tables : length bare ≡ 1024 * h.first_zone
  pub begun : (p : ℕ) → p < 1024 * h.first_zone → slice_index bare p ≡ slice_index (filled_image h front) p
  pub takes : Takes (zones_of_all i.geometry (nodes_of version_2 i.geometry (contents i))) limit limit' bare zoned
  pub size : length table ≡ 64 * i.geometry.inodes
  pub inodes : (n : ℕ) → 1 ≤ n → n ≤ i.geometry.inodes → IsNewInode i.geometry (contents i) (zone_bytes zoned)
      (length bare / 1024 + sum_below (node_takes i) n) n (inode_in (slice_index table) (64 * (n - 1)))
  pub put : full ≡ take (table_at h) zoned ++ table ++ drop (table_at h + length table) zoned
  pub inode_marks : Marks 2 (is_marked i.geometry (contents i)) i.geometry.inodes full half
  pub zone_marks : Marks (2 + h.inode_map_blocks) (λ k. nat_le 1 k && nat_le k (taken_of h half)) (taken_of h half) half marked
  pub whole : length image ≡ 1024 * h.zones
  pub ended : (p : ℕ) → slice_index image p ≡ slice_index marked p

-- the two sizes of a set of bits
both_bits : (k n : ℕ) → 1 ≤ n → ((nat_le 1 k && nat_le k n) || nat_le k 1) ≡ nat_le k n
both_bits k n some = elim (cases_lt k 2) [
  | inl low ↦
      let first : nat_le k 1 ≡ true = le-leb k 1 (omega arith) in
      ap (λ b. (nat_le 1 k && nat_le k n) || b) first ∙ yes (nat_le 1 k && nat_le k n) ∙ sym (le-leb k n (omega arith))
  | inr high ↦
      let past : nat_le k 1 ≡ false = lt-leb k 1 (omega arith) in
      (λ i. (le-leb 1 k (omega arith) i && nat_le k n) || past i) ∙ no (nat_le k n)
]
  where
    yes : (b : Bool) → (b || true) ≡ true
    yes true = refl
    yes false = refl

    no : (b : Bool) → (b || false) ≡ b
    no true = refl
    no false = refl

-- bits 0 and 1 are set, and 1 is in the set
root_bits : (s : ℕ → Bool) (n : ℕ) → s 1 ≡ true → (s n || nat_le n 1) ≡ ((n == 0) || s n)
root_bits s n root = elim (cases_lt n 1) [
  | inl low ↦
      let at : n ≡ 0 = omega arith in
      ap (λ b. s n || b) (le-leb n 1 (omega arith)) ∙ yes (s n) ∙ sym (ap (λ b. b || s n) (eq-eqb n 0 at))
  | inr high ↦ elim (cases_eq n 1) [
    | inl e ↦
        let here : s n ≡ true = ap s e ∙ root in
        ap (λ b. b || nat_le n 1) here ∙ sym (ap (λ b. (n == 0) || b) here ∙ yes (n == 0))
    | inr d ↦
        ap (λ b. s n || b) (lt-leb n 1 (omega arith)) ∙ no (s n)
        ∙ sym (ap (λ b. b || s n) (ne_eqb n 0 (λ e. absurd (omega arith))))
  ]
]
  where
    yes : (b : Bool) → (b || true) ≡ true
    yes true = refl
    yes false = refl

    no : (b : Bool) → (b || false) ≡ b
    no true = refl
    no false = refl

module _ (i : Image) (h : Geometry) (place : HasPlace i h) (root : is_directory_inode i.geometry (contents i) 1 ≡ true) (front : List ℕ)
    (begun : IsBegun h front) (bare zoned table full half marked image : List ℕ) (limit limit' : ℕ)
    (s : AreSteps i h front bare zoned table full half marked image limit limit') where
  abbrev g : Geometry
  g = i.geometry

  abbrev v : Pieces
  v = contents i

  abbrev total : ℕ
  total = sum_below (node_takes i) (g.inodes + 1)

  abbrev fresh : List ℕ
  fresh = filled_image h front

  -- how the tables lie: the inode map, the zone map, the inodes, and the data zones
  record Lies : Type 0 where
    pub inode_map : 2048 + g.inodes / 8 < 1024 * (2 + h.inode_map_blocks)
    pub zone_map : 1024 * (2 + h.inode_map_blocks) + data_zones h / 8 < table_at h
    pub inodes : table_at h + 64 * g.inodes ≤ 1024 * h.first_zone
    pub some : h.first_zone < h.zones

  lies : Lies
  lies =
      let geometry = place.geometry in
      let inodes = place.inodes in
      let inode_map : 8 * h.block_size * h.inode_map_blocks ≡ 8 * 1024 * h.inode_map_blocks
      = ap (λ b. 8 * b * h.inode_map_blocks) place.block in
      let zone_map : 8 * h.block_size * h.zone_map_blocks ≡ 8 * 1024 * h.zone_map_blocks
      = ap (λ b. 8 * b * h.zone_map_blocks) place.block in
      let table : table_blocks h ≡ (64 * h.inodes + 1024 - 1) / 1024 = ap (λ b. (64 * h.inodes + b - 1) / b) place.block in
      let a = geometry.inode_map in
      let b = geometry.zone_map in
      let c = geometry.first in
      let d = geometry.some_zone in
      record { inode_map = omega arith; zone_map = omega arith; inodes = omega arith; some = d }

  room : table_at h + length table ≤ length zoned
  room =
      let l = lies.inodes in
      let t = s.size in
      let b = s.tables in
      let m = s.takes.longer in
      omega arith

  taken : taken_of h half ≡ total
  taken =
      let size = s.inode_marks.size in
      let put = put_size (table_at h) zoned table full room s.put in
      let b = s.tables in
      let m = s.takes.longer in
      omega arith

  fits : total ≤ data_zones h
  fits = place.room

  -- a byte of the tables is a new volume's
  begun_at : (p : ℕ) → p < 1024 * h.first_zone → slice_index zoned p ≡ slice_index fresh p
  begun_at p l = let b = s.tables in s.takes.kept p (omega arith) ∙ s.begun p l

  -- so it is before the maps
  head_at : (p : ℕ) → p < 2048 → slice_index image p ≡ slice_index fresh p
  head_at p l =
      let lie = lies in
      let a = lie.inodes in
      s.ended p ∙ s.zone_marks.before p (omega arith) ∙ s.inode_marks.before p (omega arith)
      ∙ put_before (table_at h) zoned table full room s.put p (omega arith) ∙ begun_at p (omega arith)

  -- a byte of the inode map
  inode_map_at : (p : ℕ) → p < 1024 * (2 + h.inode_map_blocks) → slice_index image p ≡ slice_index half p
  inode_map_at p l = s.ended p ∙ s.zone_marks.before p l

  -- before its bits were set
  inode_map_before : (p : ℕ) → p < 1024 * (2 + h.inode_map_blocks) → slice_index full p ≡ slice_index fresh p
  inode_map_before p l =
      let lie = lies in
      let a = lie.inodes in
      put_before (table_at h) zoned table full room s.put p (omega arith) ∙ begun_at p (omega arith)

  -- a byte of the zone map before its bits were set
  zone_map_before : (p : ℕ) → 1024 * (2 + h.inode_map_blocks) ≤ p → p < table_at h → slice_index half p ≡ slice_index fresh p
  zone_map_before p from to =
      let lie = lies in
      let a = lie.inodes in
      let b = lie.inode_map in
      s.inode_marks.behind p (omega arith) ∙ put_before (table_at h) zoned table full room s.put p (omega arith) ∙ begun_at p (omega arith)

  -- a byte behind the maps
  behind_at : (p : ℕ) → table_at h ≤ p → slice_index image p ≡ slice_index full p
  behind_at p from =
      let lie = lies in
      let a = lie.inode_map in
      let b = lie.zone_map in
      let c = taken in
      let f = fits in
      s.ended p ∙ s.zone_marks.behind p (omega arith) ∙ s.inode_marks.behind p (omega arith)

  -- a byte of the data zones
  zone_at : (p : ℕ) → 1024 * h.first_zone ≤ p → slice_index image p ≡ slice_index zoned p
  zone_at p from =
      let lie = lies in
      let a = lie.inodes in
      let t = s.size in
      behind_at p (omega arith) ∙ put_behind (table_at h) zoned table full room s.put p (omega arith)

  -- the image is read as a volume of these sizes
  parsed : geometry_of image ≡ Ok h
  parsed =
      let flat : h.zones * h.block_size ≡ h.zones * 1024 = ap (λ b. h.zones * b) place.block in
      let old = begun.whole in
      let new = s.whole in
      same_sizes h fresh image begun.parsed (omega arith) (λ p from to. head_at p (omega arith))

  abbrev w : Pieces
  w = pieces h (disk_of h image)

  -- a map's bits, where a block has 1024 bytes
  by_block : (bytes : List ℕ) (start n : ℕ) → map_of bytes start n ≡ bit_in (λ p. slice_index bytes (start * h.block_size + p)) n
  by_block bytes start n =
      let flat : start * h.block_size ≡ start * 1024 = ap (λ b. start * b) place.block in
      let at : 1024 * start + n / 8 ≡ start * h.block_size + n / 8 = omega arith in
      ap (λ p. slice_index bytes p / 2 ^ (n % 8) % 2 == 1) at

  -- the same bit
  same_bit : (xs ys : List ℕ) (start n : ℕ) → slice_index xs (1024 * start + n / 8) ≡ slice_index ys (1024 * start + n / 8)
      → map_of xs start n ≡ map_of ys start n
  same_bit xs ys start n e = ap (λ b. b / 2 ^ (n % 8) % 2 == 1) e

  -- the root is marked
  root_marked : is_marked g v 1 ≡ true
  root_marked = (and_parts (is_marked g v 1) _ root).0

  -- the bits of the inode map
  inode_bits : (n : ℕ) → n ≤ h.inodes → w.inode_map n ≡ ((n == 0) || is_marked g v n)
  inode_bits n most =
      let lie = lies in
      let a = lie.inode_map in
      let same = place.inodes in
      sym (places.inode_bit_read image h parsed n most) ∙ sym (by_block image 2 n)
      ∙ same_bit image half 2 n (inode_map_at (1024 * 2 + n / 8) (omega arith))
      ∙ s.inode_marks.bits n
      ∙ ap (λ b. is_marked g v n || b)
      (same_bit full fresh 2 n (inode_map_before (1024 * 2 + n / 8) (omega arith))
      ∙ by_block fresh 2 n ∙ places.inode_bit_read fresh h begun.parsed n most ∙ ap (λ x. x.inode_map n) begun.pieces)
      ∙ root_bits (is_marked g v) n root_marked

  -- the root takes a zone
  some_zone : 1 ≤ total
  some_zone =
      let mode = (and_parts (is_marked g v 1) _ root).1 in
      let takes = directory_used g v place.old_block 1 place.sound root_marked mode
      (low i place.sound place.sizes place.old_block 1 root_marked mode) in
      let in_range = (marked_low g v 1 root_marked).1 in
      let part = sum_at (node_takes i) (g.inodes + 1) 1 (omega arith) in
      omega arith

  -- the bits of the zone map
  zone_bits : (k : ℕ) → k ≤ data_zones h → w.zone_map k ≡ nat_le k total
  zone_bits k most =
      let lie = lies in
      let a = lie.zone_map in
      let start = 2 + h.inode_map_blocks in
      sym (places.zone_bit_read image h parsed k most) ∙ sym (by_block image start k)
      ∙ same_bit image marked start k (s.ended (1024 * start + k / 8))
      ∙ s.zone_marks.bits k
      ∙ ap (λ n. (nat_le 1 k && nat_le k n) || map_of half start k) taken
      ∙ ap (λ b. (nat_le 1 k && nat_le k total) || b)
      (same_bit half fresh start k (zone_map_before (1024 * start + k / 8) (omega arith) (omega arith))
      ∙ by_block fresh start k ∙ places.zone_bit_read fresh h begun.parsed k most ∙ ap (λ x. x.zone_map k) begun.pieces)
      ∙ both_bits k total some_zone

  -- an inode is that of the table
  inode_there : (n : ℕ) → 1 ≤ n → n ≤ g.inodes → inode_in (slice_index table) (64 * (n - 1)) ≡ w.inodes n
  inode_there n some most =
      let same = place.inodes in
      let is : is_inode h n ≡ true = and_from (nat_le 1 n) (nat_le n h.inodes) (le-leb 1 n some) (le-leb n h.inodes (omega arith)) in
      let at = (2 + h.inode_map_blocks + h.zone_map_blocks) * h.block_size + 64 * (n - 1) in
      let flat : (2 + h.inode_map_blocks + h.zone_map_blocks) * h.block_size ≡ (2 + h.inode_map_blocks + h.zone_map_blocks) * 1024
      = ap (λ b. (2 + h.inode_map_blocks + h.zone_map_blocks) * b) place.block in
      let t = s.size in
      sym (places.same_inode (slice_index image) (slice_index table) at (64 * (n - 1)) 64
      (λ k l.
      let here : at + k ≡ table_at h + (64 * (n - 1) + k) = omega arith in
      ap (slice_index image) here ∙ behind_at (table_at h + (64 * (n - 1) + k)) (omega arith)
      ∙ put_there (table_at h) zoned table full room s.put (64 * (n - 1) + k) (omega arith)) (omega arith))
      ∙ places.inode_read image h parsed n is

  -- a byte of a data zone is that of the zones
  zone_there : (z o : ℕ) → h.first_zone ≤ z → z < h.zones → o < 1024 → zone_bytes zoned z o ≡ w.zones z o
  zone_there z o from to l =
      let is : is_data_zone h z ≡ true = and_from (nat_le h.first_zone z) (nat_lt z h.zones) (le-leb h.first_zone z from)
      (lt-ltb z h.zones to) in
      let block = place.block in
      let flat : z * h.block_size ≡ z * 1024 = ap (λ b. z * b) place.block in
      let at : z * h.block_size + o ≡ 1024 * z + o = omega arith in
      sym (places.zone_byte image h parsed z o is (omega arith) ∙ ap (slice_index image) at ∙ zone_at (1024 * z + o) (omega arith))

  -- a node is moved
  node_there : (n : ℕ) → is_marked g v n ≡ true → IsMovedNode g v w.zones (zones_begin g v h n) (v.inodes n) (w.inodes n)
  node_there n is =
      let range = marked_low g v n is in
      let new = s.inodes n range.0 range.1 in
      let b = s.tables in
      let e : length bare / 1024 + sum_below (node_takes i) n ≡ zones_begin g v h n = omega arith in
      let next = sum_next (node_takes i) n in
      let part = sum_front (node_takes i) (n + 1) (g.inodes + 1) (omega arith) in
      let f = fits in
      let lie = lies in
      let some = lie.some in
      subst (IsMovedNode g v w.zones (zones_begin g v h n) (v.inodes n)) (inode_there n range.0 range.1)
      (subst (λ e. IsMovedNode g v w.zones e (v.inodes n) (inode_in (slice_index table) (64 * (n - 1)))) e
      (node_kept i place.sound place.sizes place.old_block n is (zone_bytes zoned) w.zones
      (length bare / 1024 + sum_below (node_takes i) n) (inode_in (slice_index table) (64 * (n - 1)))
      (λ t o from to l. zone_there t o (omega arith) (omega arith) l) (new.node is)))

  -- an inode that isn't marked is blank
  blank_there : (n : ℕ) → 1 ≤ n → n ≤ h.inodes → is_marked g v n ≡ false → w.inodes n ≡ inode_in (λ p. 0) 0
  blank_there n some most out =
      let same = place.inodes in
      sym (inode_there n some (omega arith)) ∙ (s.inodes n some (omega arith)).blank out

  -- behind the zones that were taken are zeros
  zeros_there : (z o : ℕ) → zones_begin g v h (g.inodes + 1) ≤ z → w.zones z o ≡ 0
  zeros_there z o from = elim (cases_Bool (is_data_zone h z)) [
    | inr out ↦ cond-false (is_data_zone h z) (disk_of h image z o) 0 out
    | inl is ↦ cond-true (is_data_zone h z) (disk_of h image z o) 0 is ∙ elim (cases_lt o h.block_size) [
      | inr past ↦ cond-false (nat_lt o h.block_size) _ 0 (le-ltb o h.block_size past)
      | inl l ↦
          let block = place.block in
          let flat : z * h.block_size ≡ z * 1024 = ap (λ b. z * b) place.block in
          let at : z * h.block_size + o ≡ 1024 * z + o = omega arith in
          let b = s.tables in
          let m = s.takes.longer in
          cond-true (nat_lt o h.block_size) _ 0 (lt-ltb o h.block_size l) ∙ ap (slice_index image) at ∙ zone_at (1024 * z + o) (omega arith)
          ∙ get_or_past zoned (1024 * z + o) 0 (omega arith)
    ]
  ]

  -- the image is that of a migrated volume
  pub assembled : IsWrittenImage g v h image
  assembled = record {
    whole = s.whole;
    parsed = parsed;
    pieces = record {
      inode_map = inode_bits;
      zone_map = zone_bits;
      nodes = node_there;
      blank_inodes = blank_there;
      blank_zones = zeros_there;
    };
  }
