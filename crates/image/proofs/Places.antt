-- Where the bits, inodes, numbers and entries of a volume stand in the bytes of its image.
use Rattle.std.proofs.Common.{◌≡◌, ◌≢◌, ◌⊎◌, ◌<◌, ◌≤◌, ◌+◌, ◌-◌, ◌*◌, ◌/◌, ◌%◌, ◌^◌, ℕ, List, [], ◌∷◌, length, slice_index, true, false, refl, sym, ap, ◌∙◌, subst, arith}
use mathlib.Core.Logic.{inl, inr}
use Rattle.std.specs.Prelude.{Ok, ◌==◌, ◌&&◌, nat_lt, nat_le}
use Rattle.std.proofs.lemmas.Bool.{cases_eq, and_parts, cond-true, cond-false, lt-ltb, le-leb, ltb-true, leb-true, eq-eqb, ne_eqb}
use Rattle.std.proofs.lemmas.Nat.{mul-add-lt}
use Rattle.std.proofs.Math.Nat.{mul-le-mul_right, add-mul}
use Rattle.layout.specs.declared.Geometry.{Geometry}
use Rattle.layout.specs.Bytes.{u32_at}
use Rattle.layout.specs.Places.{IsGeometry, geometry_of, table_blocks}
use Rattle.layout.proofs.Parsed.{block_sizes, geometry_fits}
use Rattle.tree.specs.Space.{numbers_in_zone}
use Rattle.volume.specs.declared.Inode.{Inode}
use Rattle.volume.specs.Reading.{disk_of, u16_in, u32_in, bit_in, map_bit, inode_bit, zone_bit, is_inode, is_data_zone, inode_in, inode_block, inode_offset, inode_of_disk}
use Rattle.volume.specs.Pieces.{Pieces, pieces}
use Rattle.volume.specs.Nodes.{word, number, page_zone, page_byte, file_byte, entry_count_of}

-- Two rows of bytes, of which n from p on and n from q on are the same.
module _ (f h : ℕ → ℕ) (p q n : ℕ) (same : (k : ℕ) → k < n → f (p + k) ≡ h (q + k)) where
  -- a byte
  one : (a b k : ℕ) → k < n → a ≡ p + k → b ≡ q + k → f a ≡ h b
  one a b k inside e d = ap f e ∙ same k inside ∙ sym (ap h d)

  -- a number of two bytes
  two : (a b k : ℕ) → k + 2 ≤ n → a ≡ p + k → b ≡ q + k → u16_in f a ≡ u16_in h b
  two a b k inside e d =
      let low = one a b k (omega arith) e d in
      let high = one (a + 1) (b + 1) (k + 1) (omega arith) (omega arith) (omega arith) in
      omega arith

  -- a number of four bytes
  pub four : (a b k : ℕ) → k + 4 ≤ n → a ≡ p + k → b ≡ q + k → u32_in f a ≡ u32_in h b
  four a b k inside e d =
      let low = two a b k (omega arith) e d in
      let high = two (a + 2) (b + 2) (k + 2) (omega arith) (omega arith) (omega arith) in
      omega arith

  -- an inode
  pub same_inode : 64 ≤ n → inode_in f p ≡ inode_in h q
  same_inode large = λ i. record {
    mode = two p q 0 (omega arith) (omega arith) (omega arith) i;
    links = two (p + 2) (q + 2) 2 (omega arith) refl refl i;
    uid = two (p + 4) (q + 4) 4 (omega arith) refl refl i;
    gid = two (p + 6) (q + 6) 6 (omega arith) refl refl i;
    size = four (p + 8) (q + 8) 8 (omega arith) refl refl i;
    atime = four (p + 12) (q + 12) 12 (omega arith) refl refl i;
    mtime = four (p + 16) (q + 16) 16 (omega arith) refl refl i;
    ctime = four (p + 20) (q + 20) 20 (omega arith) refl refl i;
    zones = four (p + 24) (q + 24) 24 (omega arith) refl refl i ∷ four (p + 28) (q + 28) 28 (omega arith) refl refl i
        ∷ four (p + 32) (q + 32) 32 (omega arith) refl refl i ∷ four (p + 36) (q + 36) 36 (omega arith) refl refl i
        ∷ four (p + 40) (q + 40) 40 (omega arith) refl refl i ∷ four (p + 44) (q + 44) 44 (omega arith) refl refl i
        ∷ four (p + 48) (q + 48) 48 (omega arith) refl refl i ∷ four (p + 52) (q + 52) 52 (omega arith) refl refl i
        ∷ four (p + 56) (q + 56) 56 (omega arith) refl refl i ∷ four (p + 60) (q + 60) 60 (omega arith) refl refl i ∷ [];
  }

module _ (image : List ℕ) (g : Geometry) (parsed : geometry_of image ≡ Ok g) where
  -- the volume's pieces
  abbrev v : Pieces
  v = pieces g (disk_of g image)

  -- its numbers are in their ranges
  pub is_geometry : IsGeometry g
  is_geometry = (geometry_fits image g parsed).0

  -- the image has all its zones
  long : g.zones * g.block_size ≤ length image
  long = (geometry_fits image g parsed).1

  -- the three sizes of blocks
  sizes : (g.block_size ≡ 1024) ⊎ (g.block_size ≡ 2048) ⊎ (g.block_size ≡ 4096)
  sizes = block_sizes g.block_size is_geometry.block_size

  -- the largest of them is left
  pub largest : g.block_size ≢ 1024 → g.block_size ≢ 2048 → g.block_size ≡ 4096
  largest small middle = elim sizes [ inl e ↦ absurd (small e) | inr (inl e) ↦ absurd (middle e) | inr (inr e) ↦ e ]

  -- a byte of a block lies in the image
  pub inside : (b o : ℕ) → b < g.zones → o < g.block_size → b * g.block_size + o < length image
  inside b o hb ho = let l = long in let in_block = mul-add-lt b g.block_size o g.zones hb ho in omega arith

  -- a byte of the disk
  disk_byte : (b o : ℕ) → o < g.block_size → disk_of g image b o ≡ slice_index image (b * g.block_size + o)
  disk_byte b o h = cond-true (nat_lt o g.block_size) _ 0 (lt-ltb o g.block_size h)

  -- a data zone isn't zone 0
  pub data_some : (z : ℕ) → is_data_zone g z ≡ true → (z ≢ 0) × (z < g.zones)
  data_some z is =
      let parts = and_parts (nat_le g.first_zone z) (nat_lt z g.zones) is in
      let low = leb-true g.first_zone z parts.0 in
      let first = is_geometry.first in
      (λ e. absurd (omega arith), ltb-true z g.zones parts.1)

  -- a byte of a data zone
  pub zone_byte : (z o : ℕ) → is_data_zone g z ≡ true → o < g.block_size → v.zones z o ≡ slice_index image (z * g.block_size + o)
  zone_byte z o is h = cond-true (is_data_zone g z) _ 0 is ∙ disk_byte z o h

  -- and of another
  pub no_byte : (z o : ℕ) → is_data_zone g z ≡ false → v.zones z o ≡ 0
  no_byte z o out = cond-false (is_data_zone g z) _ 0 out

  -- four numbers to a block's sixteen bytes
  within : (j : ℕ) → j < numbers_in_zone g → 4 * j + 4 ≤ g.block_size
  within j h = omega arith

  -- a number of a data zone lies in the image
  pub word_inside : (z j : ℕ) → is_data_zone g z ≡ true → j < numbers_in_zone g → z * g.block_size + 4 * j + 4 ≤ length image
  word_inside z j is h = let w = within j h in let i = inside z (4 * j + 3) (data_some z is).1 (omega arith) in omega arith

  -- it is read there
  pub word_read : (z j : ℕ) → is_data_zone g z ≡ true → j < numbers_in_zone g → u32_at image (z * g.block_size + 4 * j) ≡ number v z j
  word_read z j is h =
      let w = within j h in
      sym (cond-false (z == 0) 0 (word v z j) (ne_eqb z 0 (data_some z is).0)
      ∙ four (v.zones z) (slice_index image) (4 * j) (z * g.block_size + 4 * j) 4
      (λ k l. let o : z * g.block_size + 4 * j + k ≡ z * g.block_size + (4 * j + k) = omega arith in
      zone_byte z (4 * j + k) is (omega arith) ∙ ap (slice_index image) (sym o))
      (4 * j) (z * g.block_size + 4 * j) 0 (omega arith) (omega arith) (omega arith))

  -- in what is no data zone stands none
  pub blank_word : (z j : ℕ) → is_data_zone g z ≡ false → word v z j ≡ 0
  blank_word z j out =
      let a = no_byte z (4 * j) out in
      let b = no_byte z (4 * j + 1) out in
      let c = no_byte z (4 * j + 2) out in
      let d = no_byte z (4 * j + 2 + 1) out in
      omega arith

  -- so 0 is read there
  pub no_word : (z j : ℕ) → is_data_zone g z ≡ false → 0 ≡ number v z j
  no_word z j out = elim (cases_eq z 0) [
    | inl e ↦ sym (cond-true (z == 0) 0 (word v z j) (eq-eqb z 0 e))
    | inr d ↦ sym (cond-false (z == 0) 0 (word v z j) (ne_eqb z 0 d) ∙ blank_word z j out)
  ]

  -- a zone holds some numbers
  pub some_numbers : 0 < numbers_in_zone g
  some_numbers = elim sizes [ inl e ↦ omega arith | inr (inl e) ↦ omega arith | inr (inr e) ↦ omega arith ]

  -- the place of a bit's byte, in blocks of n bytes
  same_place : (start b n : ℕ) → g.block_size ≡ n → b / (8 * n) * n + b % (8 * n) / 8 ≡ b / 8 → (start + b / (8 * g.block_size)) * g.block_size + b % (8 * g.block_size) / 8 ≡ start * g.block_size + b / 8
  same_place start b n e flat =
      let P : ℕ → Type 0 = λ m. (start + b / (8 * m)) * m + b % (8 * m) / 8 ≡ start * m + b / 8 in
      let spread = add-mul start (b / (8 * n)) n in
      let here : P n = omega arith in
      subst P (sym e) here

  -- a bit of a map
  pub bit_read : (start b : ℕ) → map_bit g (disk_of g image) start b ≡ bit_in (λ p. slice_index image (start * g.block_size + p)) b
  bit_read start b =
      let width = 8 * g.block_size in
      let row = start + b / width in
      let o = b % width / 8 in
      let place : row * g.block_size + o ≡ start * g.block_size + b / 8 = elim sizes [
        | inl e ↦ same_place start b 1024 e (omega arith)
        | inr (inl e) ↦ same_place start b 2048 e (omega arith)
        | inr (inr e) ↦ same_place start b 4096 e (omega arith)
      ] in
      let bit : b % width % 8 ≡ b % 8 = elim sizes [
        | inl e ↦ omega arith
        | inr (inl e) ↦ omega arith
        | inr (inr e) ↦ omega arith
      ] in
      let low : o < g.block_size = elim sizes [
        | inl e ↦ omega arith
        | inr (inl e) ↦ omega arith
        | inr (inr e) ↦ omega arith
      ] in
      ap (λ x. x / 2 ^ (b % width % 8) % 2 == 1) (disk_byte row o low ∙ ap (slice_index image) place)
      ∙ ap (λ k. slice_index image (start * g.block_size + b / 8) / 2 ^ k % 2 == 1) bit

  -- the byte at which inode n begins
  abbrev pub inode_place : ℕ → ℕ
  inode_place n = (2 + g.inode_map_blocks + g.zone_map_blocks) * g.block_size + 64 * (n - 1)

  -- the numbers of an inode
  pub inode_range : (n : ℕ) → is_inode g n ≡ true → (1 ≤ n) × (n ≤ g.inodes)
  inode_range n is = let parts = and_parts (nat_le 1 n) (nat_le n g.inodes) is in (leb-true 1 n parts.0, leb-true n g.inodes parts.1)

  -- its 64 bytes lie in the image, where a block has so many bytes
  inode_inside_at : (n size : ℕ) → g.block_size ≡ size → 64 * g.inodes ≤ (64 * g.inodes + size - 1) / size * size → 1 ≤ n → n ≤ g.inodes → inode_place n + 64 ≤ length image
  inode_inside_at n size e many some low =
      let start = 2 + g.inode_map_blocks + g.zone_map_blocks in
      let table : table_blocks g * g.block_size ≡ (64 * g.inodes + size - 1) / size * size = ap (λ m. (64 * g.inodes + m - 1) / m * m) e in
      let first = is_geometry.first in
      let split : g.first_zone * g.block_size ≡ start * g.block_size + table_blocks g * g.block_size = ap (λ z. z * g.block_size) first ∙ add-mul start (table_blocks g) g.block_size in
      let some_zone = is_geometry.some_zone in
      let below : g.first_zone * g.block_size ≤ g.zones * g.block_size = mul-le-mul_right g.block_size (let h : g.first_zone ≤ g.zones = omega arith in h) in
      let l = long in
      omega arith

  -- its 64 bytes lie in the image
  pub inode_inside : (n : ℕ) → is_inode g n ≡ true → inode_place n + 64 ≤ length image
  inode_inside n is =
      let range = inode_range n is in
      elim sizes [
        | inl e ↦ inode_inside_at n 1024 e (omega arith) range.0 range.1
        | inr (inl e) ↦ inode_inside_at n 2048 e (omega arith) range.0 range.1
        | inr (inr e) ↦ inode_inside_at n 4096 e (omega arith) range.0 range.1
      ]

  -- where it lies in its block, where a block has so many bytes
  inode_spot_at : (n size : ℕ) → g.block_size ≡ size → (n - 1) / (size / 64) * size + 64 * ((n - 1) % (size / 64)) ≡ 64 * (n - 1) → 64 * ((n - 1) % (size / 64)) + 64 ≤ size
      → (inode_block g n * g.block_size + inode_offset g n ≡ inode_place n) × (inode_offset g n + 64 ≤ g.block_size)
  inode_spot_at n size e flat low =
      let start = 2 + g.inode_map_blocks + g.zone_map_blocks in
      let P : ℕ → Type 0 = λ m. ((start + (n - 1) / (m / 64)) * m + 64 * ((n - 1) % (m / 64)) ≡ start * m + 64 * (n - 1)) × (64 * ((n - 1) % (m / 64)) + 64 ≤ m) in
      let spread = add-mul start ((n - 1) / (size / 64)) size in
      let here : P size = (omega arith, low) in
      subst P (sym e) here

  -- where it lies in its block
  inode_spot : (n : ℕ) → (inode_block g n * g.block_size + inode_offset g n ≡ inode_place n) × (inode_offset g n + 64 ≤ g.block_size)
  inode_spot n = elim sizes [
    | inl e ↦ inode_spot_at n 1024 e (omega arith) (omega arith)
    | inr (inl e) ↦ inode_spot_at n 2048 e (omega arith) (omega arith)
    | inr (inr e) ↦ inode_spot_at n 4096 e (omega arith) (omega arith)
  ]

  -- inode n is read there
  pub inode_read : (n : ℕ) → is_inode g n ≡ true → inode_in (slice_index image) (inode_place n) ≡ v.inodes n
  inode_read n is =
      let spot = inode_spot n in
      let block = inode_block g n in
      let offset = inode_offset g n in
      sym (cond-true (is_inode g n) (inode_of_disk g (disk_of g image) n) _ is
      ∙ same_inode (disk_of g image block) (slice_index image) offset (inode_place n) 64
      (λ k h. let at : block * g.block_size + (offset + k) ≡ inode_place n + k = omega (arith, spot.0) in
      disk_byte block (offset + k) (omega (arith, spot.1)) ∙ ap (slice_index image) at)
      (omega arith))

  -- the page of an entry's byte, and its place there
  entry_spot : (e a : ℕ) → a < 64 → ((64 * e + a) / g.block_size ≡ 64 * e / g.block_size) × ((64 * e + a) % g.block_size ≡ 64 * e % g.block_size + a) × (64 * e % g.block_size + 64 ≤ g.block_size)
  entry_spot e a h =
      let P : ℕ → Type 0 = λ m. ((64 * e + a) / m ≡ 64 * e / m) × ((64 * e + a) % m ≡ 64 * e % m + a) × (64 * e % m + 64 ≤ m) in
      let small : P 1024 = (omega arith, omega arith, omega arith) in
      let middle : P 2048 = (omega arith, omega arith, omega arith) in
      let large : P 4096 = (omega arith, omega arith, omega arith) in
      elim sizes [
        | inl s ↦ subst P (sym s) small
        | inr (inl s) ↦ subst P (sym s) middle
        | inr (inr s) ↦ subst P (sym s) large
      ]

  -- an entry lies in its block
  pub entry_low : (e : ℕ) → 64 * e % g.block_size + 64 ≤ g.block_size
  entry_low e = (entry_spot e 0 (omega arith)).2

  -- and in the image
  pub entry_inside : (z e : ℕ) → is_data_zone g z ≡ true → z * g.block_size + 64 * e % g.block_size + 64 ≤ length image
  entry_inside z e is = let low = entry_low e in let last = inside z (64 * e % g.block_size + 63) (data_some z is).1 (omega arith) in omega arith

  -- a byte of an entry below the end, in its page
  byte_of_page : (i : Inode) (e a : ℕ) → e < entry_count_of i → a < 64 → file_byte g v i (64 * e + a) ≡ page_byte v (page_zone g v i (64 * e / g.block_size)) (64 * e % g.block_size + a)
  byte_of_page i e a below h =
      let spot = entry_spot e a h in
      let in_file : 64 * e + a < i.size = omega arith in
      cond-true (nat_lt (64 * e + a) i.size) _ 0 (lt-ltb _ i.size in_file)
      ∙ (λ k. page_byte v (page_zone g v i (spot.0 k)) (spot.1 k))

  -- a byte of an entry is read in its zone
  pub entry_read : (i : Inode) (e a : ℕ) → e < entry_count_of i → a < 64 → is_data_zone g (page_zone g v i (64 * e / g.block_size)) ≡ true
      → slice_index image (page_zone g v i (64 * e / g.block_size) * g.block_size + 64 * e % g.block_size + a) ≡ file_byte g v i (64 * e + a)
  entry_read i e a below h is =
      let z = page_zone g v i (64 * e / g.block_size) in
      let o = 64 * e % g.block_size + a in
      let low = entry_low e in
      let group : z * g.block_size + 64 * e % g.block_size + a ≡ z * g.block_size + o = omega arith in
      sym (byte_of_page i e a below h
      ∙ cond-false (z == 0) 0 (v.zones z o) (ne_eqb z 0 (data_some z is).0)
      ∙ zone_byte z o is (omega arith) ∙ ap (slice_index image) (sym group))

  -- and is 0 where no data zone lies
  pub entry_blank : (i : Inode) (e a : ℕ) → e < entry_count_of i → a < 64 → is_data_zone g (page_zone g v i (64 * e / g.block_size)) ≡ false → 0 ≡ file_byte g v i (64 * e + a)
  entry_blank i e a below h out =
      let z = page_zone g v i (64 * e / g.block_size) in
      let o = 64 * e % g.block_size + a in
      sym (byte_of_page i e a below h ∙ elim (cases_eq z 0) [
        | inl e ↦ cond-true (z == 0) 0 (v.zones z o) (eq-eqb z 0 e)
        | inr d ↦ cond-false (z == 0) 0 (v.zones z o) (ne_eqb z 0 d) ∙ no_byte z o out
      ])

  -- a byte of page 0, and its place there
  first_spot : (k : ℕ) → k < 1024 → (k / g.block_size ≡ 0) × (k % g.block_size ≡ k)
  first_spot k h =
      let P : ℕ → Type 0 = λ m. (k / m ≡ 0) × (k % m ≡ k) in
      let small : P 1024 = (omega arith, omega arith) in
      let middle : P 2048 = (omega arith, omega arith) in
      let large : P 4096 = (omega arith, omega arith) in
      elim sizes [
        | inl s ↦ subst P (sym s) small
        | inr (inl s) ↦ subst P (sym s) middle
        | inr (inr s) ↦ subst P (sym s) large
      ]

  -- the first bytes of a data zone lie in the image
  pub first_inside : (z n : ℕ) → n ≤ 1024 → is_data_zone g z ≡ true → z * g.block_size + n ≤ length image
  first_inside z n few is =
      let large : 1024 ≤ g.block_size = elim sizes [ inl e ↦ omega arith | inr (inl e) ↦ omega arith | inr (inr e) ↦ omega arith ] in
      let last = inside z 1023 (data_some z is).1 (omega arith) in
      omega arith

  -- a byte of a small file is read in the zone of page 0
  pub first_read : (i : Inode) (k : ℕ) → k < i.size → k < 1024 → is_data_zone g (page_zone g v i 0) ≡ true
      → slice_index image (page_zone g v i 0 * g.block_size + k) ≡ file_byte g v i k
  first_read i k below few is =
      let z = page_zone g v i 0 in
      let spot = first_spot k few in
      let large : 1024 ≤ g.block_size = elim sizes [ inl e ↦ omega arith | inr (inl e) ↦ omega arith | inr (inr e) ↦ omega arith ] in
      sym (cond-true (nat_lt k i.size) _ 0 (lt-ltb k i.size below)
      ∙ (λ j. page_byte v (page_zone g v i (spot.0 j)) (spot.1 j))
      ∙ cond-false (z == 0) 0 (v.zones z k) (ne_eqb z 0 (data_some z is).0)
      ∙ zone_byte z k is (omega arith))

  -- and is 0 where no data zone lies
  pub first_blank : (i : Inode) → 0 < i.size → is_data_zone g (page_zone g v i 0) ≡ false → file_byte g v i 0 ≡ 0
  first_blank i some out =
      let z = page_zone g v i 0 in
      let spot = first_spot 0 (omega arith) in
      cond-true (nat_lt 0 i.size) _ 0 (lt-ltb 0 i.size some)
      ∙ (λ j. page_byte v (page_zone g v i (spot.0 j)) (spot.1 j))
      ∙ elim (cases_eq z 0) [
        | inl e ↦ cond-true (z == 0) 0 (v.zones z 0) (eq-eqb z 0 e)
        | inr d ↦ cond-false (z == 0) 0 (v.zones z 0) (ne_eqb z 0 d) ∙ no_byte z 0 out
      ]

  -- the byte of a bit of a map lies in the image
  map_inside : (start blocks k : ℕ) → start + blocks ≤ g.zones → k < 8 * g.block_size * blocks → start * g.block_size + k / 8 < length image
  map_inside start blocks k low h =
      let group : 8 * g.block_size * blocks ≡ 8 * (blocks * g.block_size) = grind arith in
      let split = add-mul start blocks g.block_size in
      let below = mul-le-mul_right g.block_size low in
      let l = long in
      omega arith

  -- a bit of the inode map
  pub inode_bit_inside : (n : ℕ) → n ≤ g.inodes → 2 * g.block_size + n / 8 < length image
  inode_bit_inside n h =
      let few = is_geometry.inode_map in
      let first = is_geometry.first in
      let some_zone = is_geometry.some_zone in
      map_inside 2 g.inode_map_blocks n (omega arith) (omega arith)

  -- a bit of the zone map
  pub zone_bit_inside : (k : ℕ) → k ≤ g.zones - g.first_zone → (2 + g.inode_map_blocks) * g.block_size + k / 8 < length image
  zone_bit_inside k h =
      let few = is_geometry.zone_map in
      let first = is_geometry.first in
      let some_zone = is_geometry.some_zone in
      map_inside (2 + g.inode_map_blocks) g.zone_map_blocks k (omega arith) (omega arith)

  -- it is read there
  pub inode_bit_read : (n : ℕ) → n ≤ g.inodes → bit_in (λ p. slice_index image (2 * g.block_size + p)) n ≡ v.inode_map n
  inode_bit_read n h = sym (bit_read 2 n) ∙ sym (ap (λ b. b && inode_bit g (disk_of g image) n) (le-leb n g.inodes h))

  -- so is that of the zone map
  pub zone_bit_read : (k : ℕ) → k ≤ g.zones - g.first_zone → bit_in (λ p. slice_index image ((2 + g.inode_map_blocks) * g.block_size + p)) k ≡ v.zone_map k
  zone_bit_read k h = sym (bit_read (2 + g.inode_map_blocks) k) ∙ sym (ap (λ b. b && zone_bit g (disk_of g image) k) (le-leb k (g.zones - g.first_zone) h))
