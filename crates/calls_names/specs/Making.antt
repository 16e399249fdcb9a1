-- Nodes that are made at places.
use Rattle.std.specs.Prelude.{◌≡◌, ◌<◌, ◌≤◌, ℕ, List, Bool, not, Some, Result, Ok, Err}
use Rattle.errno.specs.declared.Errno.{Errno}
use Rattle.errno.specs.declared.Errno.TheVariants.{EACCES, ENOENT, ENOSPC}
use Rattle.layout.specs.declared.Geometry.{Geometry}
use Rattle.tree.specs.declared.User.{User}
use Rattle.tree.specs.Tree.{Node, Tree, most_links, on_node, with_node}
use Rattle.tree.specs.Refusals.{◌>>=◌, refuse_if}
use Rattle.tree.specs.Walk.{may_access, node_at, to_write}
use Rattle.tree.specs.Walk as tree
use Rattle.tree.specs.Changes.{empty_directory, empty_file, free_inode, more_links, new_link, new_node}
use Rattle.tree.specs.Answers.{Effect}
use Rattle.tree.specs.NameCalls.{with_entry}
use Rattle.tree.specs.Space.{data_zones, zones_used}
use Rattle.volume.specs.Holds.{HoldsVolume}
use Rattle.volume.specs.Reading.{Disk}
use Rattle.path.specs.declared.place.NamePlace.{NamePlace}
use Rattle.path.specs.Places.{place_of}
use Rattle.inode_operations.specs.Stands.{Stands}
use Rattle.calls_names.specs.Vacant.{IsFreeFor, IsVacant}

-- the tree with a new directory at a place
abbrev pub with_new_directory : Tree → User → ℕ → ℕ → tree.Place → ℕ → Tree
with_new_directory t user now mode place n =
    on_node (with_entry (with_node t n (Some (new_node now user mode 2 (empty_directory place.directory)))) now place n)
    place.directory (more_links 1)

-- the tree with a new file at a place
abbrev pub with_new_file : Tree → User → ℕ → ℕ → tree.Place → ℕ → Tree
with_new_file t user now mode place n = with_entry (with_node t n (Some (new_node now user mode 1 empty_file))) now place n

-- the tree with a new symbolic link at a place
abbrev pub with_new_link : Tree → User → ℕ → List ℕ → tree.Place → ℕ → Tree
with_new_link t user now target place n = with_entry (with_node t n (Some (new_link now user target))) now place n

-- A tree is held in which the place is vacant, with a number for a new node and zones enough for its name and others beside.
pub record MayMakeAt (g : Geometry) (d : Disk) (p : NamePlace) (n others : ℕ) : Type 0 where
  pub tree : Tree
  pub holds : HoldsVolume g d tree
  pub parent : Node
  pub vacant : IsVacant g d tree p parent
  pub free : IsFreeFor g tree p.directory parent p.name.now others n

-- the same, where the directory may have a link more
pub record MayMakeDirectoryAt (g : Geometry) (d : Disk) (p : NamePlace) (n : ℕ) : Type 0 where
  pub make : MayMakeAt g d p n 1
  pub links : p.inode.links < most_links

-- The nodes are those with a new file, a new directory or a new symbolic link there.
abbrev pub MakesFileAt : Geometry → User → ℕ → ℕ → NamePlace → ℕ → Disk → Disk → Type 0
MakesFileAt g user now mode p n d e =
    (may : MayMakeAt g d p n 0) → Stands g d e (with_new_file may.tree user now mode (place_of g d p) n).nodes

abbrev pub MakesDirectoryAt : Geometry → User → ℕ → ℕ → NamePlace → ℕ → Disk → Disk → Type 0
MakesDirectoryAt g user now mode p n d e =
    (may : MayMakeDirectoryAt g d p n) → Stands g d e (with_new_directory may.make.tree user now mode (place_of g d p) n).nodes

abbrev pub MakesLinkAt : Geometry → User → ℕ → List ℕ → NamePlace → ℕ → Disk → Disk → Type 0
MakesLinkAt g user now target p n d e =
    (may : MayMakeAt g d p n 1) → Stands g d e (with_new_link may.tree user now target (place_of g d p) n).nodes

-- What open does where the name is missing, up to the number of the new file.
abbrev pub at_missing : Geometry → Tree → User → Bool → ℕ → (ℕ → Effect) → Effect
at_missing g t user creates directory rest = do
  _ ← refuse_if (not creates) ENOENT
  parent ← node_at t directory
  _ ← refuse_if (not (may_access user parent to_write)) EACCES
  n ← free_inode g t
  rest n

-- The call goes on with that number, and the volume has the file.
pub record IsFileMade (g : Geometry) (t : Tree) (user : User) (creates : Bool) (now mode : ℕ) (p : NamePlace) (d e : Disk) (n : ℕ) : Type 0 where
  pub goes_on : (rest : ℕ → Effect) → at_missing g t user creates p.directory rest ≡ rest n
  pub least : free_inode g t ≡ Ok n
  pub fits : zones_used g (with_new_file t user now mode (place_of g d p) n) ≤ data_zones g
  pub stands : Stands g d e (with_new_file t user now mode (place_of g d p) n).nodes

-- The call is refused for this where it refuses a tree that doesn't fit, and nothing is changed.
pub record IsFileRefused (g : Geometry) (t : Tree) (user : User) (creates : Bool) (now mode : ℕ) (p : NamePlace) (d e : Disk) (errno : Errno) : Type 0 where
  pub same : e ≡ d
  pub refused : (rest : ℕ → Effect)
      → ((n : ℕ) → data_zones g < zones_used g (with_new_file t user now mode (place_of g d p) n) → rest n ≡ Err ENOSPC)
      → at_missing g t user creates p.directory rest ≡ Err errno

abbrev pub MakesFileOr : Geometry → Tree → User → Bool → ℕ → ℕ → NamePlace → Disk → Disk → Result ℕ Errno → Type 0
MakesFileOr g t user creates now mode p d e (Ok n) = IsFileMade g t user creates now mode p d e n
MakesFileOr g t user creates now mode p d e (Err errno) = IsFileRefused g t user creates now mode p d e errno
