-- An entry of a directory in the 64 bytes that version 3 has for it.
use Rattle.std.specs.Prelude.{◌≡◌, ◌≤◌, ◌<◌, ℕ, ◌+◌, ◌*◌, List, length, slice_index}
use Rattle.volume.specs.Reading.{u32_in}
use Rattle.fsck.specs.Form.{EntryForm}
use Rattle.fsck.specs.Nodes.{entry_inode}

-- the bytes are entry e of a directory's bytes: its number, the bytes of its name, and zeros
pub record IsWidened (form : EntryForm) (f : ℕ → ℕ) (e : ℕ) (bytes : List ℕ) : Type 0 where
  pub size : length bytes ≡ 64
  pub number : u32_in (slice_index bytes) 0 ≡ entry_inode form f e
  pub name : (a : ℕ) → a < form.name_length → slice_index bytes (4 + a) ≡ f (form.size * e + form.name_start + a)
  pub rest : (a : ℕ) → form.name_length ≤ a → a < 60 → slice_index bytes (4 + a) ≡ 0
