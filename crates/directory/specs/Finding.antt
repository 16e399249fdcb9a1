-- The entry of a directory that has a name.
use Rattle.std.specs.Prelude.{◌≡◌, ℕ, ◌-◌, ◌&&◌, ◌==◌, nat_le, nat_lt, Bool, Option, option_map}
use Rattle.std.specs.Ordering.{eq_by_cmp}
use Rattle.layout.specs.declared.Geometry.{Geometry}
use Rattle.tree.specs.Names.{Name, name_cmp, inode_of}
use Rattle.volume.specs.declared.Inode.{Inode}
use Rattle.volume.specs.Pieces.{Pieces}
use Rattle.volume.specs.Nodes.{directory_of, entry_count_of, entry_inode, entry_name, file_byte}
use Rattle.directory.specs.declared.entries.Placed.{Placed}
use Rattle.directory.specs.Scan.{last_placed}

-- This is the last entry after the first two that has the name, if one has it; so it leads where the name does.
pub record FindsEntry (g : Geometry) (v : Pieces) (i : Inode) (name : Name) (x : Option Placed) : Type 0 where
  pub last : x ≡ last_placed (file_byte g v i) name 2 (entry_count_of i - 2)
  pub leads : option_map (λ s. s.number) x ≡ inode_of (directory_of g v i).names name

-- an entry after the first two has the name, and leads to the inode
abbrev pub stands_at : Geometry → Pieces → Inode → Name → Placed → Bool
stands_at g v i name s = (nat_le 2 s.place && nat_lt s.place (entry_count_of i))
    && (eq_by_cmp name_cmp name (entry_name (file_byte g v i) s.place) && (entry_inode (file_byte g v i) s.place == s.number))
