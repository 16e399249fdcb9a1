-- The form of a directory's entries, in which versions 2 and 3 differ.
use Rattle.std.specs.Prelude.{ℕ, Bool, true, false}
use Rattle.volume.specs.Reading.{u16_in, u32_in}
use Rattle.fsck.specs.declared.version.Version.{Version}
use Rattle.fsck.specs.declared.version.Version.TheVariants.{V2, V3}

-- An entry is an inode number and a name, filled with zeros. An entry of inode 0 is free: it names nothing.
pub record EntryForm : Type 0 where
  -- how many bytes an entry has
  pub size : ℕ
  -- the inode number at a place of a directory's bytes
  pub number : (ℕ → ℕ) → ℕ → ℕ
  -- where the name begins in its entry
  pub name_start : ℕ
  -- how many bytes the name has at most
  pub name_length : ℕ
  -- whether entries past the first two may be free
  pub may_be_free : Bool

-- version 2: two bytes of number and 14 of name
abbrev pub version_2 : EntryForm
version_2 = record { size = 16; number = u16_in; name_start = 2; name_length = 14; may_be_free = true }

-- version 3: four bytes of number and 60 of name
abbrev pub version_3 : EntryForm
version_3 = record { size = 64; number = u32_in; name_start = 4; name_length = 60; may_be_free = false }

-- the form of a version's entries
abbrev pub form_of : Version → EntryForm
form_of V2 = version_2
form_of V3 = version_3
