-- The parts of a new volume's image, at their places.
use Rattle.std.proofs.Common.{◌≡◌, ◌<◌, ◌≤◌, ◌+◌, ◌-◌, ◌*◌, ◌++◌, ℕ, zero, suc, List, [], ◌∷◌, length, take, drop, replicate, slice_index, refl, sym, ap, ◌∙◌, arith, append_assoc, length-append, length-take-le, length-drop}
use Rattle.std.specs.Prelude.{Ok}
use Rattle.std.proofs.lemmas.List.{get_or_append_left, get_or-append-add, length-replicate, take-append-le, drop-append-le, take_all, drop_all, append-nil}
use Rattle.std.proofs.lemmas.List.FromFn.{length-map-range_with_len, get_or-map-range_with_len}
use Rattle.layout.specs.declared.Geometry.{Geometry}
use Rattle.layout.specs.Places.{IsGeometry, geometry_of, table_blocks}
use Rattle.layout.specs.Superblock.{superblock_bytes, with_superblock}
use Rattle.layout.proofs.Written.{reads_back}
use Rattle.tree.specs.Space.{data_zones}
use Rattle.tree.specs.declared.User.{User}
use Rattle.volume.specs.Fresh.{fresh_entries}
use Rattle.inode.specs.Bytes.{bytes_of}
use Rattle.new_volume.specs.Image.{map_byte, map_bytes, filled, filled_image, new_image, new_tables}
use Rattle.new_volume.specs.Owned.{owned_inode}
use Rattle.new_volume.proofs.Widths.{large, some_block, one_block, parts}

-- zeros after bytes say no more than there is past their end
zeros_after : (bytes : List ℕ) (n k : ℕ) → slice_index (bytes ++ replicate n 0) k ≡ slice_index bytes k
zeros_after [] zero k = refl
zeros_after [] (suc n) zero = refl
zeros_after [] (suc n) (suc k) = zeros_after [] n k
zeros_after (x ∷ xs) n zero = refl
zeros_after (x ∷ xs) n (suc k) = zeros_after xs n k

-- a byte of what is filled up
pub filled_at : (bytes : List ℕ) (size k : ℕ) → slice_index (filled bytes size) k ≡ slice_index bytes k
filled_at bytes size k = zeros_after bytes (size - length bytes) k

-- how long it is
filled_length : (bytes : List ℕ) (size : ℕ) → length bytes ≤ size → length (filled bytes size) ≡ size
filled_length bytes size fits = omega (arith, length-append bytes (replicate (size - length bytes) 0), length-replicate {A = ℕ} (size - length bytes) 0)

-- a byte of a map
map_at : (last size k : ℕ) → k < size → slice_index (map_bytes last size) k ≡ map_byte last k
map_at last size k within = get_or-map-range_with_len (map_byte last) 0 size k k 0 within (omega arith)

-- an inode has 64 bytes
inode_length : (g : Geometry) (now : ℕ) (owner : User) → length (bytes_of (owned_inode g now owner)) ≡ 64
inode_length g now owner = refl

-- what comes after five lists, one by one
regroup : (a b c d e : List ℕ) → a ++ b ++ c ++ d ++ e ≡ a ++ (b ++ (c ++ (d ++ e)))
regroup a b c d e = simp append_assoc

-- a superblock stands in the first bytes
front : (g : Geometry) (xs ys : List ℕ) → 1055 ≤ length xs → with_superblock g xs ++ ys ≡ with_superblock g (xs ++ ys)
front g xs ys long =
    append_assoc (take 1024 xs) (superblock_bytes g ++ drop 1055 xs) ys
    ∙ ap (λ l. take 1024 xs ++ l) (append_assoc (superblock_bytes g) (drop 1055 xs) ys)
    ∙ sym (λ i. take-append-le 1024 xs ys (omega arith) i ++ (superblock_bytes g ++ drop-append-le 1055 xs ys long i))

-- and leaves the length
pub front_length : (g : Geometry) (xs : List ℕ) → 1055 ≤ length xs → length (with_superblock g xs) ≡ length xs
front_length g xs long =
    let bytes : length (superblock_bytes g) ≡ 31 = refl in
    omega (arith, length-append (take 1024 xs) (superblock_bytes g ++ drop 1055 xs), length-append (superblock_bytes g) (drop 1055 xs), length-take-le 1024 xs (omega arith), length-drop 1055 xs)

module _ (g : Geometry) (now : ℕ) (owner : User) (ok : IsGeometry g) where
  abbrev pub B : ℕ
  B = g.block_size

  abbrev pub zeros : List ℕ
  zeros = replicate (2 * B) 0

  abbrev pub head : List ℕ
  head = with_superblock g zeros

  abbrev pub inode_map : List ℕ
  inode_map = map_bytes g.inodes (g.inode_map_blocks * B)

  abbrev pub zone_map : List ℕ
  zone_map = map_bytes (data_zones g) (g.zone_map_blocks * B)

  abbrev pub table : List ℕ
  table = filled (bytes_of (owned_inode g now owner)) (table_blocks g * B)

  abbrev pub data_part : List ℕ
  data_part = filled fresh_entries (data_zones g * B)

  -- the image, with its parts from the left
  abbrev pub image : List ℕ
  image = head ++ (inode_map ++ (zone_map ++ (table ++ data_part)))

  pub image_is : new_image g now owner ≡ image
  image_is = regroup head inode_map zone_map table data_part

  long : 1055 ≤ length zeros
  long = omega (arith, large B ok.block_size, length-replicate {A = ℕ} (2 * B) 0)

  head_length : length head ≡ 2 * B
  head_length = front_length g zeros long ∙ length-replicate (2 * B) 0

  inode_map_length : length inode_map ≡ g.inode_map_blocks * B
  inode_map_length = length-map-range_with_len (map_byte g.inodes) 0 (g.inode_map_blocks * B)

  zone_map_length : length zone_map ≡ g.zone_map_blocks * B
  zone_map_length = length-map-range_with_len (map_byte (data_zones g)) 0 (g.zone_map_blocks * B)

  table_length : length table ≡ table_blocks g * B
  table_length =
      let some = one_block B ok.block_size (table_blocks g) (some_block B ok.block_size (64 * g.inodes) (omega (arith, ok.some_inode))) in
      filled_length (bytes_of (owned_inode g now owner)) (table_blocks g * B) (omega (arith, large B ok.block_size, inode_length g now owner))

  data_length : length data_part ≡ data_zones g * B
  data_length =
      let some = one_block B ok.block_size (data_zones g) (omega (arith, ok.some_zone)) in
      let entries : length fresh_entries ≡ 70 = refl in
      filled_length fresh_entries (data_zones g * B) (omega (arith, large B ok.block_size))

  -- the bytes of the inode map
  pub inode_map_at : (k : ℕ) → k < g.inode_map_blocks * B → slice_index image (2 * B + k) ≡ map_byte g.inodes k
  inode_map_at k within =
      ap (λ n. slice_index image (n + k)) (sym head_length)
      ∙ get_or-append-add head _ k 0
      ∙ get_or_append_left inode_map _ 0 k (omega (arith, inode_map_length))
      ∙ map_at g.inodes (g.inode_map_blocks * B) k within

  -- of the zone map
  pub zone_map_at : (k : ℕ) → k < g.zone_map_blocks * B → slice_index image (2 * B + (g.inode_map_blocks * B + k)) ≡ map_byte (data_zones g) k
  zone_map_at k within =
      (λ i. slice_index image (sym head_length i + (sym inode_map_length i + k)))
      ∙ get_or-append-add head _ (length inode_map + k) 0
      ∙ get_or-append-add inode_map _ k 0
      ∙ get_or_append_left zone_map _ 0 k (omega (arith, zone_map_length))
      ∙ map_at (data_zones g) (g.zone_map_blocks * B) k within

  -- of the inode table
  pub table_at : (k : ℕ) → k < table_blocks g * B
      → slice_index image (2 * B + (g.inode_map_blocks * B + (g.zone_map_blocks * B + k))) ≡ slice_index (bytes_of (owned_inode g now owner)) k
  table_at k within =
      (λ i. slice_index image (sym head_length i + (sym inode_map_length i + (sym zone_map_length i + k))))
      ∙ get_or-append-add head _ (length inode_map + (length zone_map + k)) 0
      ∙ get_or-append-add inode_map _ (length zone_map + k) 0
      ∙ get_or-append-add zone_map _ k 0
      ∙ get_or_append_left table _ 0 k (omega (arith, table_length))
      ∙ filled_at (bytes_of (owned_inode g now owner)) (table_blocks g * B) k

  -- of the data zones
  pub data_at : (k : ℕ)
      → slice_index image (2 * B + (g.inode_map_blocks * B + (g.zone_map_blocks * B + (table_blocks g * B + k)))) ≡ slice_index fresh_entries k
  data_at k =
      (λ i. slice_index image (sym head_length i + (sym inode_map_length i + (sym zone_map_length i + (sym table_length i + k)))))
      ∙ get_or-append-add head _ (length inode_map + (length zone_map + (length table + k))) 0
      ∙ get_or-append-add inode_map _ (length zone_map + (length table + k)) 0
      ∙ get_or-append-add zone_map _ (length table + k) 0
      ∙ get_or-append-add table _ k 0
      ∙ filled_at fresh_entries (data_zones g * B) k

  -- the image has all its blocks
  pub image_length : length image ≡ g.zones * B
  image_length =
      let h = head_length in
      let a = inode_map_length in
      let b = zone_map_length in
      let c = table_length in
      let d = data_length in
      let zones : g.zones ≡ 2 + g.inode_map_blocks + g.zone_map_blocks + table_blocks g + data_zones g = omega (arith, ok.first, ok.some_zone) in
      let sum = ap (λ n. n * B) zones ∙ parts B ok.block_size g.inode_map_blocks g.zone_map_blocks (table_blocks g) (data_zones g) in
      omega (
        arith,
        length-append head (inode_map ++ (zone_map ++ (table ++ data_part))),
        length-append inode_map (zone_map ++ (table ++ data_part)),
        length-append zone_map (table ++ data_part),
        length-append table data_part,
      )

  -- without the zeros at its end
  pub front_filled : filled_image g (new_tables g now owner ++ fresh_entries) ≡ new_image g now owner
  front_filled =
      let tables = new_tables g now owner in
      let n = data_zones g * B - length fresh_entries in
      let whole : length (new_image g now owner) ≡ g.zones * B = ap length image_is ∙ image_length in
      let left : g.zones * B - length (tables ++ fresh_entries) ≡ n = omega (
        arith,
        whole,
        data_length,
        length-append tables data_part,
        length-append tables fresh_entries,
        length-append fresh_entries (replicate n 0),
      ) in
      ap (λ k. (tables ++ fresh_entries) ++ replicate k 0) left ∙ append_assoc tables fresh_entries (replicate n 0)

  -- and is read as its sizes
  pub image_parsed : geometry_of image ≡ Ok g
  image_parsed =
      let rest = inode_map ++ (zone_map ++ (table ++ data_part)) in
      let whole : length (zeros ++ rest) ≡ length image = omega (arith, length-append zeros rest, length-append head rest, head_length, length-replicate {A = ℕ} (2 * B) 0) in
      ap geometry_of (front g zeros rest long)
      ∙ reads_back (zeros ++ rest) g ok (omega (arith, long, length-append zeros rest)) (omega (arith, whole, image_length))

-- what is filled up from nothing
pub all_zeros : (xs : List ℕ) (n len : ℕ) → xs ≡ [] → len ≡ 0 → take n xs ++ replicate (n - len) 0 ≡ replicate n 0
all_zeros xs n len none empty = ap (λ l. take n l ++ replicate (n - len) 0) none ∙ ap (λ l. l ++ replicate (n - len) 0) (take_all n [] (omega arith)) ∙ ap (λ k. replicate (n - k) 0) empty ∙ ap (λ k. replicate k 0) (minus_none n)
  where
    minus_none : (n : ℕ) → n - 0 ≡ n
    minus_none n = omega arith

-- what was lent whole comes back whole
pub put_back : (len : ℕ) (new old : List ℕ) → length new ≡ length old → length old ≤ len → take len (new ++ drop (length new) old) ≡ new
put_back len new old same long =
    let none : drop (length new) old ≡ [] = drop_all (length new) old (omega arith) in
    ap (λ l. take len (new ++ l)) none ∙ ap (take len) (append-nil new) ∙ take_all len new (omega arith)
