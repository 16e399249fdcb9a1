-- The names of inodes, as they are counted.
use Rattle.std.specs.Prelude.{◌≡◌, ◌<◌, ℕ, ◌+◌, List, length, slice_index, min}
use Rattle.image.specs.declared.Image.{Image}
use Rattle.image.specs.Contents.{contents}
use Rattle.fsck.specs.Form.{EntryForm}
use Rattle.fsck.specs.Findings.{names_in_of, all_names_of}

-- each inode's names are counted, up to 32768; where it has some, a directory that names it is noted
pub record AreNamed (form : EntryForm) (i : Image) (named namer : List ℕ) : Type 0 where
  pub named_size : length named ≡ i.geometry.inodes + 1
  pub namer_size : length namer ≡ i.geometry.inodes + 1
  pub counted : (m : ℕ) → m < i.geometry.inodes + 1 → slice_index named m ≡ min 32768 (all_names_of form i.geometry (contents i) m)
  pub noted : (m : ℕ) → m < i.geometry.inodes + 1 → 0 < all_names_of form i.geometry (contents i) m
      → 0 < names_in_of form i.geometry (contents i) (slice_index namer m) m

-- each count grew by so many, and n is noted where it grew
pub record AreNamedMore (n : ℕ) (more : ℕ → ℕ) (named namer named' namer' : List ℕ) : Type 0 where
  pub named_size : length named' ≡ length named
  pub namer_size : length namer' ≡ length namer
  pub counted : (m : ℕ) → m < length named → slice_index named' m ≡ min 32768 (slice_index named m + more m)
  pub noted : (m : ℕ) → m < length named → 0 < more m → slice_index namer' m ≡ n
  pub kept : (m : ℕ) → m < length named → more m ≡ 0 → slice_index namer' m ≡ slice_index namer m
