-- Names that are put into directories and taken away, between the steps of a call.
use Rattle.std.specs.Prelude.{◌≡◌, ◌≢◌, ◌↔◌, ◌≤◌, ◌+◌, ℕ, List, length, Bool, Option, None, Some, IsTrue, true}
use Rattle.layout.specs.declared.Geometry.{Geometry}
use Rattle.layout.specs.Places.{IsGeometry}
use Rattle.lemmas.specs.Sums.{put}
use Rattle.tree.specs.Names.{Name, has_name, inode_of, is_name, with_name}
use Rattle.tree.specs.Tree.{Node, is_dir, most_size, names_of, size_of}
use Rattle.tree.specs.Changes.{with_names}
use Rattle.tree.specs.Space.{data_zones}
use Rattle.volume.specs.Reading.{Disk}
use Rattle.volume.specs.Pieces.{Pieces, pieces}
use Rattle.zone.specs.Room.{taken_by}
use Rattle.file.specs.PageChanges.{MayChange}
use Rattle.file.specs.Changing.{HasZonesFor, written_at}
use Rattle.directory.specs.Names.{HasName, MayInsert}
use Rattle.inode_operations.specs.Stands.{Stands}

-- the directory with a name more
abbrev pub named : ℕ → Name → ℕ → Node → Node
named now name number x = with_names now (λ names. with_name names name number) x

-- A directory that stands and has the name.
abbrev pub NameIsThere : Type 0
NameIsThere = (g : Geometry) (d e : Disk) (nodes : ℕ → Option Node) (n : ℕ) (x : Node) (name : Name) → IsGeometry g → Stands g d e nodes
    → nodes n ≡ Some x → is_dir x ≡ true → size_of x.body ≤ most_size → IsTrue (is_name name) → IsTrue (has_name (names_of (Some x)) name)
    → HasName g (pieces g e) n name

-- A directory that stands and hasn't the name, where the nodes fit in which it has.
abbrev pub NameMayBePut : Type 0
NameMayBePut = (g : Geometry) (d e : Disk) (nodes : ℕ → Option Node) (n : ℕ) (x : Node) (name : Name) (number now : ℕ) → IsGeometry g → Stands g d e nodes
    → nodes n ≡ Some x → is_dir x ≡ true → size_of x.body + 64 ≤ most_size → IsTrue (is_name name) → number ≢ 0 → inode_of (names_of (Some x)) name ≡ None
    → taken_by g (put nodes n (Some (named now name number x))) ≤ data_zones g → MayInsert g (pieces g e) n name number

-- the answer to whether there are zones enough for an entry's bytes from a place on
abbrev pub IsRoomForEntry : Geometry → Pieces → ℕ → ℕ → Bool → Type 0
IsRoomForEntry g v n at room = (bytes : List ℕ) → length bytes ≡ 64 → (room ≡ true) ↔ HasZonesFor g v n (written_at g v n at bytes).held

-- Whether there is room for an entry more at the end of a directory is whether those nodes fit.
abbrev pub RoomIsForName : Type 0
RoomIsForName = (g : Geometry) (d e : Disk) (nodes : ℕ → Option Node) (n size : ℕ) (x : Node) (name : Name) (number now : ℕ) (room : Bool) → IsGeometry g
    → Stands g d e nodes → nodes n ≡ Some x → is_dir x ≡ true → inode_of (names_of (Some x)) name ≡ None
    → size ≡ ((pieces g e).inodes n).size → (MayChange g (pieces g e) n → IsRoomForEntry g (pieces g e) n size room)
    → (room ≡ true) ↔ (taken_by g (put nodes n (Some (named now name number x))) ≤ data_zones g)
