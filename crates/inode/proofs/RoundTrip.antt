-- The bytes of an inode say it, and no other bytes do.
use Rattle.std.proofs.Common.{◌≡◌, ◌<◌, ◌+◌, ◌*◌, ◌/◌, ◌%◌, ℕ, zero, suc, List, [], ◌∷◌, ◌++◌, length, slice_index, refl, sym, ap, ◌∙◌, arith}
use Rattle.std.specs.Int.{w16, w32, to_le_bytes}
use Rattle.volume.specs.declared.Inode.{Inode}
use Rattle.volume.specs.Reading.{u16_in, u32_in, inode_in}
use Rattle.inode.specs.Bytes.{bytes_of}

-- the first numbers of a row
abbrev row : (ℕ → ℕ) → ℕ → List ℕ
row f zero = []
row f (suc k) = f 0 ∷ row (λ j. f (suc j)) k

-- a list is the row of its numbers
as_row : (xs : List ℕ) → xs ≡ row (slice_index xs) (length xs)
as_row [] = refl
as_row (x ∷ xs) = ap (λ ys. x ∷ ys) (as_row xs)

-- two bytes of a number are read as it
two : (n : ℕ) → n < 65536 → n % 256 + 256 * (n / 256 % 256) ≡ n
two n h = omega arith

-- four bytes
four : (n : ℕ) → n < 4294967296 → n % 256 + 256 * (n / 256 % 256) + 65536 * (n / 65536 % 256 + 256 * (n / 16777216 % 256)) ≡ n
four n h = omega arith

-- the numbers fit their fields, as those of each inode of the code do
pub record Fits (i : Inode) : Type 0 where
  pub mode : i.mode < 65536
  pub links : i.links < 65536
  pub uid : i.uid < 65536
  pub gid : i.gid < 65536
  pub size : i.size < 4294967296
  pub atime : i.atime < 4294967296
  pub mtime : i.mtime < 4294967296
  pub ctime : i.ctime < 4294967296
  pub ten : length i.zones ≡ 10
  pub zones : (k : ℕ) → slice_index i.zones k < 4294967296

-- an inode's bytes say it
pub read_back : (i : Inode) → Fits i → inode_in (slice_index (bytes_of i)) 0 ≡ i
read_back i fits =
    let z : ℕ → ℕ = slice_index i.zones in
    let is : i.zones ≡ row z 10 = as_row i.zones ∙ ap (row z) fits.ten in
    let same : inode_in (slice_index (bytes_of (record i { zones = row z 10 }))) 0 ≡ record i { zones = row z 10 } = λ j. record {
      mode = two i.mode fits.mode j;
      links = two i.links fits.links j;
      uid = two i.uid fits.uid j;
      gid = two i.gid fits.gid j;
      size = four i.size fits.size j;
      atime = four i.atime fits.atime j;
      mtime = four i.mtime fits.mtime j;
      ctime = four i.ctime fits.ctime j;
      zones = four (z 0) (fits.zones 0) j ∷ four (z 1) (fits.zones 1) j ∷ four (z 2) (fits.zones 2) j ∷ four (z 3) (fits.zones 3) j ∷ four (z 4) (fits.zones 4) j
          ∷ four (z 5) (fits.zones 5) j ∷ four (z 6) (fits.zones 6) j ∷ four (z 7) (fits.zones 7) j ∷ four (z 8) (fits.zones 8) j ∷ four (z 9) (fits.zones 9) j ∷ [];
    } in
    ap (λ zs. inode_in (slice_index (bytes_of (record i { zones = zs }))) 0) is ∙ same ∙ ap (λ zs. record i { zones = zs }) (sym is)

module _ (f : ℕ → ℕ) (low : (k : ℕ) → f k < 256) where
  -- the bytes of a number that two bytes say
  pair : (a : ℕ) → to_le_bytes w16 (u16_in f a) ≡ f a ∷ f (a + 1) ∷ []
  pair a =
      let one = low a in
      let other = low (a + 1) in
      let first : u16_in f a % 256 ≡ f a = omega arith in
      let second : u16_in f a / 256 % 256 ≡ f (a + 1) = omega arith in
      λ i. first i ∷ second i ∷ []

  -- and that four say
  quad : (a : ℕ) → to_le_bytes w32 (u32_in f a) ≡ f a ∷ f (a + 1) ∷ f (a + 2) ∷ f (a + 2 + 1) ∷ []
  quad a =
      let b0 = low a in
      let b1 = low (a + 1) in
      let b2 = low (a + 2) in
      let b3 = low (a + 2 + 1) in
      let first : u32_in f a % 256 ≡ f a = omega arith in
      let second : u32_in f a / 256 % 256 ≡ f (a + 1) = omega arith in
      let third : u32_in f a / 65536 % 256 ≡ f (a + 2) = omega arith in
      let fourth : u32_in f a / 16777216 % 256 ≡ f (a + 2 + 1) = omega arith in
      λ i. first i ∷ second i ∷ third i ∷ fourth i ∷ []

  -- the bytes of an inode that bytes say
  said : bytes_of (inode_in f 0) ≡ row f 64
  said = λ i.
      pair 0 i ++ pair 2 i ++ pair 4 i ++ pair 6 i ++ quad 8 i ++ quad 12 i ++ quad 16 i ++ quad 20 i
      ++ (quad 24 i ++ (quad 28 i ++ (quad 32 i ++ (quad 36 i ++ (quad 40 i ++ (quad 44 i ++ (quad 48 i ++ (quad 52 i ++ (quad 56 i ++ (quad 60 i ++ []))))))))))

-- 64 bytes are those of the inode that they say
pub written_back : (bytes : List ℕ) → length bytes ≡ 64 → ((k : ℕ) → slice_index bytes k < 256)
    → bytes_of (inode_in (slice_index bytes) 0) ≡ bytes
written_back bytes size low = said (slice_index bytes) low ∙ ap (row (slice_index bytes)) (sym size) ∙ sym (as_row bytes)
