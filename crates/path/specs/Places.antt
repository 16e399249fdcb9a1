-- Places for names, and what paths find.
use Rattle.std.specs.Prelude.{◌≡◌, ℕ, Option, None, Result, Ok, Err, IsTrue, is_some, if◌then◌else◌}
use Rattle.errno.specs.declared.Errno.{Errno}
use Rattle.layout.specs.declared.Geometry.{Geometry}
use Rattle.tree.specs.declared.User.{User}
use Rattle.tree.specs.Names.{Names, inode_of}
use Rattle.tree.specs.Tree.{Tree}
use Rattle.tree.specs.Walk.{Way, parent_walk, look_up, has_last_name, last_part, is_there, is_missing}
use Rattle.tree.specs.Walk as tree
use Rattle.volume.specs.Entries.{is_directory_inode}
use Rattle.volume.specs.Nodes.{directory_of}
use Rattle.volume.specs.Pieces.{pieces}
use Rattle.volume.specs.Reading.{Disk}
use Rattle.path.specs.declared.place.NamePlace.{NamePlace}
use Rattle.path.specs.declared.place.Found.{Found}
use Rattle.path.specs.declared.place.Found.TheVariants as found

-- the definitions' place: the directory with its names, and the name
abbrev pub place_of : Geometry → Disk → NamePlace → tree.Place
place_of g d p = record { directory = p.directory; names = (directory_of g (pieces g d) p.inode).names; name = p.name.now }

-- the inode to which the last part of a path leads, if it is a name and one of these
abbrev pub last_leads_to : Names → Way → Option ℕ
last_leads_to names way = if has_last_name way then inode_of names (last_part way.parts) else None

-- This is the place that the path means.
pub record IsPlace (g : Geometry) (d : Disk) (t : Tree) (user : User) (way : Way) (p : NamePlace) : Type 0 where
  pub walked : parent_walk t user way ≡ Ok (place_of g d p)
  pub name : p.name.now ≡ last_part way.parts
  pub inode : p.inode ≡ (pieces g d).inodes p.directory
  pub directory : IsTrue (is_directory_inode g (pieces g d) p.directory)
  pub there : p.there ≡ last_leads_to (place_of g d p).names way

-- the place, or the refusal of the walk there
abbrev pub FindsPlace : Geometry → Disk → Tree → User → Way → Result NamePlace Errno → Type 0
FindsPlace g d t user way (Ok p) = IsPlace g d t user way p
FindsPlace g d t user way (Err e) = parent_walk t user way ≡ Err e

-- what a path finds, or the refusal of the walk
abbrev pub Finds : Geometry → Disk → Tree → User → Way → Result Found Errno → Type 0
Finds g d t user way (Ok (found.There n)) = (look_up t user way ≡ Ok (is_there n)) × IsTrue (is_some (t.nodes n))
Finds g d t user way (Ok (found.Missing p)) = (look_up t user way ≡ Ok (is_missing (place_of g d p))) × IsPlace g d t user way p
Finds g d t user way (Err e) = look_up t user way ≡ Err e
