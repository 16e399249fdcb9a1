-- The numbers of a volume of bytes fit their widths.
use Rattle.std.proofs.Common.{◌<◌, ◌+◌, ◌*◌, ◌^◌, ℕ, List, length, Bool, true, false, arith, cond}
use mathlib.Core.Logic.{inl, inr}
use Rattle.std.specs.Prelude.{slice_index, All}
use Rattle.std.proofs.lemmas.Bool.{cases_lt}
use Rattle.std.proofs.lemmas.List.Elements.{All-get_or}
use Rattle.std.proofs.lemmas.List.{get_or_past}
use Rattle.layout.specs.declared.Geometry.{Geometry}
use Rattle.volume.specs.declared.Inode.{Inode}
use Rattle.volume.specs.Reading.{Disk, disk_of, u16_in, u32_in, inode_in, inode_block, inode_offset, is_inode, is_data_zone}
use Rattle.volume.specs.Pieces.{Pieces, blank, pieces}

-- the fields of an inode that a node shows as they are
pub record Fits (i : Inode) : Type 0 where
  pub uid : i.uid < 2 ^ 16
  pub gid : i.gid < 2 ^ 16
  pub atime : i.atime < 2 ^ 32
  pub mtime : i.mtime < 2 ^ 32
  pub ctime : i.ctime < 2 ^ 32

-- the bytes of zones are bytes, and the inodes fit
pub record IsOfBytes (v : Pieces) : Type 0 where
  pub zones : (z o : ℕ) → v.zones z o < 256
  pub inodes : (n : ℕ) → Fits (v.inodes n)

-- two bytes fit 16 bits
u16_low : (f : ℕ → ℕ) (p : ℕ) → ((o : ℕ) → f o < 256) → u16_in f p < 2 ^ 16
u16_low f p low = let a = low p in let b = low (p + 1) in omega arith

-- four bytes fit 32 bits
u32_low : (f : ℕ → ℕ) (p : ℕ) → ((o : ℕ) → f o < 256) → u32_in f p < 2 ^ 32
u32_low f p low = let a = u16_low f p low in let b = u16_low f (p + 2) low in omega arith

-- a byte under a test is a byte
byte_or_none : (b : Bool) (x : ℕ) → x < 256 → cond b x 0 < 256
byte_or_none true x h = h
byte_or_none false x h = omega arith

-- an inode that fits, or the blank one, fits
inode_or_blank : (b : Bool) (i : Inode) → Fits i → Fits (cond b i blank)
inode_or_blank true i h = h
inode_or_blank false i h = record { uid = omega arith; gid = omega arith; atime = omega arith; mtime = omega arith; ctime = omega arith }

-- an inode in bytes fits
inode_fits : (f : ℕ → ℕ) (p : ℕ) → ((o : ℕ) → f o < 256) → Fits (inode_in f p)
inode_fits f p low = record {
  uid = u16_low f (p + 4) low;
  gid = u16_low f (p + 6) low;
  atime = u32_low f (p + 12) low;
  mtime = u32_low f (p + 16) low;
  ctime = u32_low f (p + 20) low;
}

-- the pieces of a disk of bytes
pieces_of_bytes : (g : Geometry) (d : Disk) → ((b o : ℕ) → d b o < 256) → IsOfBytes (pieces g d)
pieces_of_bytes g d low = record {
  zones = λ z o. byte_or_none (is_data_zone g z) (d z o) (low z o);
  inodes = λ n. inode_or_blank (is_inode g n) _ (inode_fits (d (inode_block g n)) (inode_offset g n) (low (inode_block g n)));
}

-- each byte of an image of bytes, and 0 past its end
byte_low : (image : List ℕ) → All (λ b. b < 256) image → (i : ℕ) → slice_index image i < 256
byte_low image all i = elim (cases_lt i (length image)) [
  | inl low ↦ All-get_or (λ b. b < 256) image i 0 low all
  | inr far ↦ let e = get_or_past image i 0 far in omega arith
]

-- the pieces of an image of bytes
pub image_of_bytes : (g : Geometry) (image : List ℕ) → All (λ b. b < 256) image → IsOfBytes (pieces g (disk_of g image))
image_of_bytes g image all = pieces_of_bytes g (disk_of g image) (λ b o. byte_or_none _ _ (byte_low image all (b * g.block_size + o)))
