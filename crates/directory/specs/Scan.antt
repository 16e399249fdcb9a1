-- The last of some entries that has a name.
use Rattle.std.specs.Prelude.{ℕ, zero, suc, ◌+◌, Option, None, Some, option_map, if◌then◌else◌}
use Rattle.std.specs.Ordering.{eq_by_cmp}
use Rattle.tree.specs.Names.{Name, name_cmp}
use Rattle.volume.specs.Nodes.{entry_name, entry_inode}
use Rattle.directory.specs.declared.entries.Placed.{Placed}

-- the last of k entries, from one on, that has the name
abbrev pub last_named : (ℕ → ℕ) → Name → ℕ → ℕ → Option ℕ
last_named f name first zero = None
last_named f name first (suc k) =
    if eq_by_cmp name_cmp name (entry_name f (first + k)) then Some (first + k) else last_named f name first k

-- an entry, and the inode to which it leads
abbrev pub placed : (ℕ → ℕ) → ℕ → Placed
placed f e = record { place = e; number = entry_inode f e }

-- the same of the last of k entries that has the name
abbrev pub last_placed : (ℕ → ℕ) → Name → ℕ → ℕ → Option Placed
last_placed f name first k = option_map (placed f) (last_named f name first k)
