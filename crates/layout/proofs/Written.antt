-- A superblock that was written is read as it was.
use Rattle.std.proofs.Common.{◌≡◌, ◌<◌, ◌≤◌, ◌+◌, ◌-◌, ◌*◌, ◌++◌, ℕ, List, [], length, take, drop, slice_index, Bool, true, false, refl, sym, ap, subst, ◌∙◌, arith, length-append, length-drop}
use Rattle.std.specs.Prelude.{Result, Ok, Err, not, if◌then◌else◌}
use Rattle.std.proofs.lemmas.Bool.{and_from, eq-eqb, le-ltb, le-leb, lt-ltb}
use Rattle.std.proofs.lemmas.List.{get_or-append_right, get_or_append_left, length-take-le, drop-drop}
use Rattle.byteorder.specs.Numbers.{little_number-reads_back}
use Rattle.byteorder.specs.Endian.{little_bytes}
use mathlib.Core.Logic.{inl, inr}
use borrow.Rule.Slice.PartMut.{put_mid}
use Rattle.layout.specs.declared.Geometry.{Geometry}
use Rattle.layout.specs.declared.LayoutRefusal.{LayoutRefusal}
use Rattle.layout.specs.declared.LayoutRefusal.TheVariants.{Truncated, BadMagic, BadBlockSize, BadVersion, BadCounts, DoesNotFit}
use Rattle.layout.specs.Bytes.{u16_at, u32_at}
use Rattle.layout.specs.Places.{superblock_geometry, counts_agree, is_block_size, IsGeometry, geometry_of}
use Rattle.layout.proofs.Parsed.{block_sizes}
use Rattle.layout.specs.Superblock.{superblock_bytes, with_superblock, ReadsBack}

-- bytes in the place of as many
pub put_is : (a k : ℕ) (image bytes : List ℕ) → put_mid a k image bytes ≡ take a image ++ (bytes ++ drop (a + k) image)
put_is a k image bytes = ap (λ rest. take a image ++ (bytes ++ rest)) (drop-drop k a image)

-- places from a place on
back : (n j : ℕ) → n + j - n ≡ j
back n j = omega arith

-- a byte of the middle
in_middle : (n j : ℕ) (image middle rest : List ℕ) → n ≤ length image → j < length middle
    → slice_index (take n image ++ (middle ++ rest)) (n + j) ≡ slice_index middle j
in_middle n j image middle rest long inside =
    get_or-append_right (take n image) (middle ++ rest) n (n + j) 0 (length-take-le n image long) (omega arith)
    ∙ ap (slice_index (middle ++ rest)) (back n j)
    ∙ get_or_append_left middle rest 0 j inside

-- as many bytes in the place of some leave the length
same_length : (a b : ℕ) (image middle : List ℕ) → b ≤ length image → a + length middle ≡ b
    → length (take a image ++ (middle ++ drop b image)) ≡ length image
same_length a b image middle long size = omega (arith, length-append (take a image) (middle ++ drop b image), length-append middle (drop b image), length-take-le a image (omega arith), length-drop b image)

-- two bytes of a number are the number
two_bytes : (x : ℕ) → x < 65536 → u16_at (little_bytes 2 x) 0 ≡ x
two_bytes x small = omega (arith, little_number-reads_back 2 x [] small)

-- and four
four_bytes : (x : ℕ) → x < 4294967296 → u32_at (little_bytes 4 x) 0 ≡ x
four_bytes x small = omega (arith, little_number-reads_back 4 x [] small)

-- all that is looked at of an image
record Reads (image : List ℕ) (g : Geometry) : Type 0 where
  long : 1055 ≤ length image
  magic : u16_at image 1048 ≡ 19802
  version : slice_index image 1054 ≡ 0
  log_zone : u16_at image 1036 ≡ 0
  most : u32_at image 1040 ≡ 2147483647
  is : superblock_geometry image ≡ g

-- the counts of a geometry in its ranges agree
agree : (g : Geometry) → IsGeometry g → counts_agree g ≡ true
agree g ok =
    and_from _ _ (and_from _ _ (and_from _ _ (and_from _ _ (and_from _ _ (and_from _ _
    (le-leb _ _ ok.some_inode) (le-leb _ _ ok.inodes)) (le-leb _ _ ok.zones)) (lt-ltb _ _ ok.some_zone))
    (eq-eqb _ _ ok.first)) (le-leb _ _ (omega (arith, ok.inode_map)))) (le-leb _ _ (omega (arith, ok.zone_map)))

-- a test that is passed
pass : (b : Bool) (refusal : LayoutRefusal) (rest : Result Geometry LayoutRefusal) → b ≡ false → (if b then Err refusal else rest) ≡ rest
pass b refusal rest h = subst (λ b. (if b then Err refusal else rest) ≡ rest) (sym h) refl

-- an image with that is accepted
accepted : (image : List ℕ) (g : Geometry) → Reads image g → IsGeometry g → g.zones * g.block_size ≤ length image → geometry_of image ≡ Ok g
accepted image g reads ok fits =
    let size : is_block_size (superblock_geometry image).block_size ≡ true = subst (λ s. is_block_size s.block_size ≡ true) (sym reads.is) ok.block_size in
    let counts : counts_agree (superblock_geometry image) ≡ true = subst (λ s. counts_agree s ≡ true) (sym reads.is) (agree g ok) in
    let whole : (superblock_geometry image).zones * (superblock_geometry image).block_size ≤ length image
    = subst (λ s. s.zones * s.block_size ≤ length image) (sym reads.is) fits in
    pass _ Truncated _ (le-ltb (length image) 1055 reads.long)
    ∙ pass _ BadMagic _ (ap not (eq-eqb _ _ reads.magic))
    ∙ pass _ BadBlockSize _ (ap not size)
    ∙ pass _ BadVersion _ (ap not (and_from _ _ (eq-eqb _ _ reads.version) (eq-eqb _ _ reads.log_zone)))
    ∙ pass _ BadCounts _ (ap not (and_from _ _ (eq-eqb _ _ reads.most) counts))
    ∙ pass _ DoesNotFit _ (le-ltb _ _ whole)
    ∙ ap (λ s. Ok s) reads.is

-- a block size has two bytes
pub small_block : (g : Geometry) → IsGeometry g → g.block_size < 65536
small_block g ok = elim (block_sizes g.block_size ok.block_size) [
  | inl e ↦ omega arith
  | inr (inl e) ↦ omega arith
  | inr (inr e) ↦ omega arith
]

-- two bytes that are a number's
half : (image : List ℕ) (p x : ℕ) → x < 65536 → slice_index image p ≡ slice_index (little_bytes 2 x) 0
    → slice_index image (p + 1) ≡ slice_index (little_bytes 2 x) 1 → u16_at image p ≡ x
half image p x small first second = omega (arith, two_bytes x small, first, second)

-- four bytes that are a number's
word : (image : List ℕ) (p x : ℕ) → x < 4294967296 → slice_index image p ≡ slice_index (little_bytes 4 x) 0
    → slice_index image (p + 1) ≡ slice_index (little_bytes 4 x) 1 → slice_index image (p + 2) ≡ slice_index (little_bytes 4 x) 2
    → slice_index image (p + 2 + 1) ≡ slice_index (little_bytes 4 x) 3 → u32_at image p ≡ x
word image p x small first second third fourth = omega (arith, four_bytes x small, first, second, third, fourth)

-- a byte of the superblock
the_byte : (image : List ℕ) (g : Geometry) (j : ℕ) → 1055 ≤ length image → j < 31
    → slice_index (with_superblock g image) (1024 + j) ≡ slice_index (superblock_bytes g) j
the_byte image g j long inside = in_middle 1024 j image (superblock_bytes g) (drop 1055 image) (omega arith) inside

-- what is read after a write
reads : (image : List ℕ) (g : Geometry) → IsGeometry g → 1055 ≤ length image → Reads (with_superblock g image) g
reads image g ok long =
    let w = with_superblock g image in
    let at : (j : ℕ) → j < 31 → slice_index w (1024 + j) ≡ slice_index (superblock_bytes g) j = λ j inside. the_byte image g j long inside in
    let inodes = word w 1024 g.inodes (omega (arith, ok.inodes)) (at 0 (omega arith)) (at 1 (omega arith)) (at 2 (omega arith)) (at 3 (omega arith)) in
    let inode_map = half w 1030 g.inode_map_blocks (omega (arith, ok.first, ok.some_zone, ok.zones)) (at 6 (omega arith)) (at 7 (omega arith)) in
    let zone_map = half w 1032 g.zone_map_blocks (omega (arith, ok.first, ok.some_zone, ok.zones)) (at 8 (omega arith)) (at 9 (omega arith)) in
    let first = half w 1034 g.first_zone (omega (arith, ok.some_zone, ok.zones)) (at 10 (omega arith)) (at 11 (omega arith)) in
    let zones = word w 1044 g.zones (omega (arith, ok.zones)) (at 20 (omega arith)) (at 21 (omega arith)) (at 22 (omega arith)) (at 23 (omega arith)) in
    let block = half w 1052 g.block_size (small_block g ok) (at 28 (omega arith)) (at 29 (omega arith)) in
    record {
      long = subst (λ n. 1055 ≤ n) (sym (same_length 1024 1055 image (superblock_bytes g) long refl)) long;
      magic = half w 1048 19802 (omega arith) (at 24 (omega arith)) (at 25 (omega arith));
      version = at 30 (omega arith);
      log_zone = half w 1036 0 (omega arith) (at 12 (omega arith)) (at 13 (omega arith));
      most = word w 1040 2147483647 (omega arith) (at 16 (omega arith)) (at 17 (omega arith)) (at 18 (omega arith)) (at 19 (omega arith));
      is = λ i. record { block_size = block i; inodes = inodes i; zones = zones i; inode_map_blocks = inode_map i; zone_map_blocks = zone_map i; first_zone = first i };
    }

pub reads_back : ReadsBack
reads_back image g ok long fits =
    accepted (with_superblock g image) g (reads image g ok long) ok
    (subst (λ n. g.zones * g.block_size ≤ n) (sym (same_length 1024 1055 image (superblock_bytes g) long refl)) fits)
