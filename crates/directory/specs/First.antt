-- The first two entries of a directory.
use Rattle.std.specs.Prelude.{◌≡◌, ℕ, List, length, slice_index}
use Rattle.tree.specs.Names.{dot, dot_dot}
use Rattle.directory.specs.Rows.{IsEntry}

-- 128 bytes that are the entries . and .. of directory n
pub record AreFirstEntries (bytes : List ℕ) (n parent : ℕ) : Type 0 where
  pub many : length bytes ≡ 128
  pub dot_entry : IsEntry (slice_index bytes) 0 n dot
  pub dot_dot_entry : IsEntry (slice_index bytes) 1 parent dot_dot
