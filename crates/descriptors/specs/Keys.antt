-- Open files at numbers of their own, each under a key of a slab.
use Rattle.std.specs.Prelude.{◌≡◌, ◌≤◌, ℕ, List, length, Option, Some, None, is_some, IsTrue, count_by, option_map, slice_index_or}
use Rattle.slab.specs.Slab.{Slab, get, slab_len}
use Rattle.tree.specs.Tree.{OpenFile, most_open_files}
use Rattle.descriptors.specs.declared.opened.Opened.{Opened}

-- the open file of the tree
abbrev pub file_of : Opened → OpenFile
file_of o = record { inode = o.inode; position = o.position; flags = o.flags.0 }

-- the open file at another position
abbrev pub at_position : ℕ → OpenFile → OpenFile
at_position position o = record o { position = position }

-- the open file under a key, if there is a key
abbrev pub file_under : Slab Opened → Option ℕ → Option OpenFile
file_under slab None = None
file_under slab (Some key) = option_map file_of (get slab key)

-- the key at a number
abbrev pub key_at : List (Option ℕ) → ℕ → Option ℕ
key_at keys k = slice_index_or keys k None

-- Each key has an open file and stands at one number; the slab has no other open file, and room for one at each number.
pub record AreKeys (slab : Slab Opened) (keys : List (Option ℕ)) : Type 0 where
  pub numbers : length keys ≡ most_open_files
  pub held : (k key : ℕ) → key_at keys k ≡ Some key → IsTrue (is_some (get slab key))
  pub apart : (j k key : ℕ) → key_at keys j ≡ Some key → key_at keys k ≡ Some key → j ≡ k
  pub counted : slab_len slab ≡ count_by is_some keys
  pub room : most_open_files ≤ slab.capacity
