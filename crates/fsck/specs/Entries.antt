-- The entries of the directories of a volume, in this form.
use Rattle.std.specs.Prelude.{ℕ, ◌+◌, ◌-◌, ◌*◌, slice_index, Bool, not, ◌&&◌, ◌==◌}
use Rattle.layout.specs.declared.Geometry.{Geometry}
use Rattle.lemmas.specs.Sums.{some_below}
use Rattle.tree.specs.Names.{Name, is_name}
use Rattle.volume.specs.Pieces.{Pieces}
use Rattle.volume.specs.Nodes.{file_byte}
use Rattle.fsck.specs.Form.{EntryForm}
use Rattle.fsck.specs.Nodes.{entry_inode, entry_name, entry_count_of, is_dropped}

-- how many entries directory n has, free ones among them
abbrev pub entry_count : EntryForm → Pieces → ℕ → ℕ
entry_count form v n = entry_count_of form (v.inodes n)

module _ (form : EntryForm) (g : Geometry) (v : Pieces) where
  -- the inode number of entry e of directory n
  abbrev pub target_at : ℕ → ℕ → ℕ
  target_at n e = entry_inode form (file_byte g v (v.inodes n)) e

  -- the name of entry e of directory n, up to its first zero byte
  abbrev pub name_at : ℕ → ℕ → Name
  name_at n e = entry_name form (file_byte g v (v.inodes n)) e

  -- entry e of directory n is free and may be
  abbrev pub is_free_at : ℕ → ℕ → Bool
  is_free_at n e = is_dropped form (file_byte g v (v.inodes n)) e

  -- byte a of the bytes of that name
  abbrev pub name_byte : ℕ → ℕ → ℕ → ℕ
  name_byte n e a = file_byte g v (v.inodes n) (form.size * e + form.name_start + a)

  -- all these bytes are this name's, filled with zeros
  abbrev pub is_field : ℕ → ℕ → Name → Bool
  is_field n e name = not (some_below (λ a. not (name_byte n e a == slice_index name a)) form.name_length)

  -- after a zero byte of them all are zero
  abbrev pub is_padded : ℕ → ℕ → Bool
  is_padded n e = not (some_below (λ a. (name_byte n e a == 0) && not (name_byte n e (a + 1) == 0)) (form.name_length - 1))

  -- they are a name that a directory can have, filled with zeros
  abbrev pub is_name_field : ℕ → ℕ → Bool
  is_name_field n e = is_padded n e && is_name (name_at n e)
