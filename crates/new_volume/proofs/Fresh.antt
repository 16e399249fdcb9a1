-- The image of a new volume says the pieces of one.
use Rattle.std.proofs.Common.{◌≡◌, ◌≢◌, ◌<◌, ◌≤◌, ◌+◌, ◌-◌, ◌*◌, ◌/◌, ◌%◌, ◌^◌, ℕ, zero, suc, List, replicate, slice_index, ◌∷◌, Bool, true, false, refl, sym, ap, ◌∙◌, zero-add, arith}
use mathlib.Core.Logic.{inl, inr}
use Rattle.std.specs.Prelude.{◌==◌, ◌&&◌, ◌||◌, nat_le, nat_lt, if◌then◌else◌}
use Rattle.std.proofs.lemmas.Bool.{cases_eq, cases_lt, cond-true, cond-false, eq-eqb, ne_eqb, and_from, and_parts, leb-true, le-leb, le-ltb, lt-leb, lt-ltb}
use Rattle.std.proofs.lemmas.List.{get_or_past}
use Rattle.std.proofs.Math.Bool.{or-false}
use Rattle.layout.specs.declared.Geometry.{Geometry}
use Rattle.layout.specs.Places.{IsGeometry, table_blocks}
use Rattle.tree.specs.Space.{data_zones}
use Rattle.tree.specs.declared.User.{User}
use Rattle.volume.specs.declared.Inode.{Inode}
use Rattle.volume.specs.Reading.{Disk, disk_of, map_bit, inode_bit, zone_bit, inode_in, inode_of_disk, is_inode, is_data_zone}
use Rattle.volume.specs.Pieces.{pieces, blank}
use Rattle.volume.specs.Fresh.{fresh_entries}
use Rattle.inode.specs.Bytes.{bytes_of}
use Rattle.inode.proofs.RoundTrip.{Fits, read_back}
use Rattle.inode.proofs.Stat.{same_inode}
use Rattle.new_volume.specs.Image.{is_set, map_byte}
use Rattle.new_volume.specs.Owned.{owned_inode, owned_pieces}
use Rattle.new_volume.proofs.Bits.{bit_of_map}
use Rattle.new_volume.proofs.Widths.{large, bit_place, bit_offset, bit_rest, bit_within, inode_place, inode_offset, inode_within, one_block, one_part, two_parts, parts}
use Rattle.new_volume.proofs.Parts.{image, inode_map_at, zone_map_at, table_at, data_at}

-- what a map says of a number: only those to the last count, and of these 0 and 1 are set
of_piece : (last n : ℕ) (bit : Bool) → 1 ≤ last → (n ≤ last → bit ≡ is_set last n) → (nat_le n last && bit) ≡ nat_le n 1
of_piece last n bit some is = elim (cases_lt last n) [
  | inl past ↦ ap (λ b. b && bit) (lt-leb n last past) ∙ sym (lt-leb n 1 (omega arith))
  | inr within ↦ ap (λ b. b && bit) (le-leb n last within) ∙ is within ∙ ap (λ b. nat_le n 1 || b) (le-ltb last n within) ∙ or-false (nat_le n 1)
]

-- the numbers of the root's inode fit their fields
root_zones : (z k : ℕ) → z < 4294967296 → slice_index (z ∷ replicate 9 0) k < 4294967296
root_zones z zero low = low
root_zones z (suc k) low = elim (cases_lt k 9) [
  | inl within ↦ let none = zero_there 9 k in omega arith
  | inr past ↦ let none = zero_there 9 k in omega arith
]
  where
    zero_there : (n k : ℕ) → slice_index (replicate n 0) k ≡ 0
    zero_there zero k = refl
    zero_there (suc n) zero = refl
    zero_there (suc n) (suc k) = zero_there n k

-- the owner's numbers fit their fields
pub record Owns (owner : User) : Type 0 where
  pub uid : owner.uid < 2 ^ 16
  pub gid : owner.gid < 2 ^ 16

module _ (g : Geometry) (now : ℕ) (owner : User) (ok : IsGeometry g) (early : now < 2 ^ 32) (owns : Owns owner) where
  -- the image, its disk and the root's inode
  abbrev bytes : List ℕ
  bytes = image g now owner ok

  abbrev d : Disk
  d = disk_of g bytes

  abbrev root : Inode
  root = owned_inode g now owner

  abbrev B : ℕ
  B = g.block_size

  -- a byte of a block
  at : (b o p : ℕ) → o < B → b * B + o ≡ p → d b o ≡ slice_index bytes p
  at b o p within place = cond-true (nat_lt o B) (slice_index bytes (b * B + o)) 0 (lt-ltb o B within) ∙ ap (slice_index bytes) place

  -- a bit of a map, by its byte
  in_map : (start last n : ℕ) → slice_index bytes (start * B + n / 8) ≡ map_byte last (n / 8) → map_bit g d start n ≡ is_set last n
  in_map start last n is =
      let width = 8 * B in
      ap (λ x. x / 2 ^ (n % width % 8) % 2 == 1)
      (at (start + n / width) (n % width / 8) (start * B + n / 8) (bit_offset B ok.block_size n) (bit_place B ok.block_size start n) ∙ is)
      ∙ ap (λ k. map_byte last (n / 8) / 2 ^ k % 2 == 1) (bit_rest B ok.block_size n)
      ∙ bit_of_map last n

  -- the inode map
  inode_map_is : (n : ℕ) → (nat_le n g.inodes && inode_bit g d n) ≡ nat_le n 1
  inode_map_is n = of_piece g.inodes n (inode_bit g d n) ok.some_inode
      (λ within. in_map 2 g.inodes n (inode_map_at g now owner ok (n / 8) (bit_within B ok.block_size n g.inode_map_blocks (omega (arith, ok.inode_map)))))

  -- the zone map
  zone_map_is : (n : ℕ) → (nat_le n (data_zones g) && zone_bit g d n) ≡ nat_le n 1
  zone_map_is n = of_piece (data_zones g) n (zone_bit g d n) (omega (arith, ok.some_zone))
      (λ within.
      let place : (2 + g.inode_map_blocks) * B + n / 8 ≡ 2 * B + (g.inode_map_blocks * B + n / 8)
      = let split = one_part B ok.block_size g.inode_map_blocks in omega arith in
      in_map (2 + g.inode_map_blocks) (data_zones g) n
      (ap (slice_index bytes) place ∙ zone_map_at g now owner ok (n / 8) (bit_within B ok.block_size n g.zone_map_blocks (omega (arith, ok.zone_map)))))

  -- byte j of inode m + 1
  inode_byte : (m j : ℕ) → m < g.inodes → j < 64
      → d (2 + g.inode_map_blocks + g.zone_map_blocks + m / (B / 64)) (64 * (m % (B / 64)) + j) ≡ slice_index (bytes_of root) (64 * m + j)
  inode_byte m j within low =
      let start = 2 + g.inode_map_blocks + g.zone_map_blocks in
      let place : start * B + (64 * m + j) ≡ 2 * B + (g.inode_map_blocks * B + (g.zone_map_blocks * B + (64 * m + j)))
      = let split = two_parts B ok.block_size g.inode_map_blocks g.zone_map_blocks in omega arith in
      at (start + m / (B / 64)) (64 * (m % (B / 64)) + j) (start * B + (64 * m + j)) (inode_offset B ok.block_size m j low) (inode_place B ok.block_size start m j)
      ∙ ap (slice_index bytes) place
      ∙ table_at g now owner ok (64 * m + j) (inode_within B ok.block_size g.inodes m j within low)

  -- the numbers of the root fit
  root_fits : Fits root
  root_fits = record {
    mode = omega arith;
    links = omega arith;
    uid = owns.uid;
    gid = owns.gid;
    size = omega arith;
    atime = omega (arith, early);
    mtime = omega (arith, early);
    ctime = omega (arith, early);
    ten = refl;
    zones = λ k. root_zones g.first_zone k (omega (arith, ok.some_zone, ok.zones));
  }

  -- inode 1 is the root's
  root_is : inode_of_disk g d 1 ≡ root
  root_is = same_inode (d (2 + g.inode_map_blocks + g.zone_map_blocks + 0 / (B / 64))) (slice_index (bytes_of root)) (64 * (0 % (B / 64)))
      (λ k under. inode_byte 0 k ok.some_inode under ∙ ap (slice_index (bytes_of root)) (zero-add k))
      ∙ read_back root root_fits

  -- the others are zeros
  other_is : (m : ℕ) → 1 ≤ m → m < g.inodes → inode_in (d (2 + g.inode_map_blocks + g.zone_map_blocks + m / (B / 64))) (64 * (m % (B / 64))) ≡ inode_in (λ p. 0) 0
  other_is m later within = same_inode (d (2 + g.inode_map_blocks + g.zone_map_blocks + m / (B / 64))) (λ p. 0) (64 * (m % (B / 64)))
      (λ k under. inode_byte m k within under ∙ get_or_past (bytes_of root) (64 * m + k) 0 (omega arith))

  -- the inodes
  inodes_are : (n : ℕ) → (if is_inode g n then inode_of_disk g d n else blank) ≡ (owned_pieces g now owner).inodes n
  inodes_are n = elim (cases_eq n 1) [
    | inl is ↦
        ap (λ k. if is_inode g k then inode_of_disk g d k else blank) is
        ∙ cond-true (is_inode g 1) (inode_of_disk g d 1) blank (le-leb 1 g.inodes ok.some_inode)
        ∙ root_is
        ∙ sym (ap (owned_pieces g now owner).inodes is)
    | inr other ↦
        let rest = if is_inode g n then inode_in (λ p. 0) 0 else blank in
        in_table n (is_inode g n) refl other ∙ sym (cond-false (n == 1) root rest (ne_eqb n 1 other))
  ]
    where
      in_table : (n : ℕ) (b : Bool) → is_inode g n ≡ b → n ≢ 1 → (if is_inode g n then inode_of_disk g d n else blank) ≡ (if is_inode g n then inode_in (λ p. 0) 0 else blank)
      in_table n true is other =
          let parts = and_parts (nat_le 1 n) (nat_le n g.inodes) is in
          let low = leb-true 1 n parts.0 in
          let high = leb-true n g.inodes parts.1 in
          ap (λ i. if is_inode g n then i else blank) (other_is (n - 1) (omega arith) (omega arith))
      in_table n false is other =
          cond-false (is_inode g n) (inode_of_disk g d n) blank is ∙ sym (cond-false (is_inode g n) (inode_in (λ p. 0) 0) blank is)

  -- a byte of data zone q past the first
  zone_byte : (q o : ℕ) → o < B → d (2 + g.inode_map_blocks + g.zone_map_blocks + table_blocks g + q) o ≡ slice_index fresh_entries (q * B + o)
  zone_byte q o within =
      let start = 2 + g.inode_map_blocks + g.zone_map_blocks + table_blocks g + q in
      let place : start * B + o ≡ 2 * B + (g.inode_map_blocks * B + (g.zone_map_blocks * B + (table_blocks g * B + (q * B + o))))
      = let split = parts B ok.block_size g.inode_map_blocks g.zone_map_blocks (table_blocks g) q in omega arith in
      at start o (2 * B + (g.inode_map_blocks * B + (g.zone_map_blocks * B + (table_blocks g * B + (q * B + o))))) within place
      ∙ data_at g now owner ok (q * B + o)

  -- a byte past the directory's entries
  no_entry : (p : ℕ) → 70 ≤ p → slice_index fresh_entries p ≡ 0
  no_entry p past = get_or_past fresh_entries p 0 past

  -- a byte of a data zone
  data_byte : (z o : ℕ) → g.first_zone ≤ z → d z o ≡ (if z == g.first_zone then slice_index fresh_entries o else 0)
  data_byte z o from =
      let q : ℕ = z - g.first_zone in
      let is : z ≡ 2 + g.inode_map_blocks + g.zone_map_blocks + table_blocks g + q = omega (arith, ok.first) in
      elim (cases_lt o B) [
        | inr past ↦ cond-false (nat_lt o B) (slice_index bytes (z * B + o)) 0 (le-ltb o B past) ∙ sym (nothing z o (omega (arith, large B ok.block_size)))
        | inl within ↦ ap (λ k. d k o) is ∙ zone_byte q o within ∙ by_zone z o q (omega arith) from
      ]
    where
      -- past the entries there is nothing
      nothing : (z o : ℕ) → 70 ≤ o → (if z == g.first_zone then slice_index fresh_entries o else 0) ≡ 0
      nothing z o past = elim (cases_eq z g.first_zone) [
        | inl is ↦ cond-true (z == g.first_zone) (slice_index fresh_entries o) 0 (eq-eqb z g.first_zone is) ∙ no_entry o past
        | inr other ↦ cond-false (z == g.first_zone) (slice_index fresh_entries o) 0 (ne_eqb z g.first_zone other)
      ]

      -- the first zone has the entries, the others nothing
      by_zone : (z o q : ℕ) → z ≡ g.first_zone + q → g.first_zone ≤ z → slice_index fresh_entries (q * B + o) ≡ (if z == g.first_zone then slice_index fresh_entries o else 0)
      by_zone z o zero is from = ap (slice_index fresh_entries) (let none : 0 * B + o ≡ o = omega arith in none) ∙ sym (cond-true (z == g.first_zone) (slice_index fresh_entries o) 0 (eq-eqb z g.first_zone (omega arith)))
      by_zone z o (suc q) is from =
          no_entry (suc q * B + o) (let one = one_block B ok.block_size (suc q) (omega arith) in omega (arith, large B ok.block_size))
          ∙ sym (cond-false (z == g.first_zone) (slice_index fresh_entries o) 0 (ne_eqb z g.first_zone (λ e. absurd (omega arith))))

  -- the data zones
  zones_are : (z o : ℕ) → (if is_data_zone g z then d z o else 0) ≡ (if z == g.first_zone then slice_index fresh_entries o else 0)
  zones_are z o = by_test (is_data_zone g z) refl
    where
      by_test : (b : Bool) → is_data_zone g z ≡ b → (if is_data_zone g z then d z o else 0) ≡ (if z == g.first_zone then slice_index fresh_entries o else 0)
      by_test true is = cond-true (is_data_zone g z) (d z o) 0 is ∙ data_byte z o (leb-true g.first_zone z (and_parts (nat_le g.first_zone z) (nat_lt z g.zones) is).0)
      by_test false is =
          let first : is_data_zone g g.first_zone ≡ true = and_from _ _ (le-leb g.first_zone g.first_zone (omega arith)) (lt-ltb g.first_zone g.zones ok.some_zone) in
          cond-false (is_data_zone g z) (d z o) 0 is
          ∙ sym (cond-false (z == g.first_zone) (slice_index fresh_entries o) 0 (ne_eqb z g.first_zone (λ e. let same = sym first ∙ sym (ap (is_data_zone g) e) ∙ is in absurd (cc))))

  -- all four
  pub pieces_are : pieces g d ≡ owned_pieces g now owner
  pieces_are = λ i. record {
    inode_map = λ n. inode_map_is n i;
    zone_map = λ n. zone_map_is n i;
    inodes = λ n. inodes_are n i;
    zones = λ z o. zones_are z o i;
  }
