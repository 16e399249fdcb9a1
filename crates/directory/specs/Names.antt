-- What a change of a directory's names does to a volume.
use Rattle.std.specs.Prelude.{◌≡◌, ◌≢◌, ℕ, ◌+◌, ◌≤◌, List, length, None, Some, IsTrue}
use Rattle.layout.specs.declared.Geometry.{Geometry}
use Rattle.layout.specs.Places.{IsGeometry}
use Rattle.lemmas.specs.Sums.{put}
use Rattle.tree.specs.Names.{Name, Names, dot_dot, has_name, is_name, inode_of, with_name, without_name}
use Rattle.tree.specs.Tree.{Node, most_size}
use Rattle.tree.specs.Changes.{with_names, with_parent}
use Rattle.volume.specs.Reading.{Disk}
use Rattle.volume.specs.Pieces.{Pieces, pieces}
use Rattle.volume.specs.Nodes.{node_of, nodes_of}
use Rattle.volume.specs.Entries.{is_directory_inode}
use Rattle.volume.specs.Holds.{IsSound}
use Rattle.block_store.specs.Volume.{SameHead}
use Rattle.directory.specs.Directories.{before, row_of}
use Rattle.directory.specs.Rows.{SetsEntry}
use Rattle.file.specs.Changing.{HasZonesFor, written_at}
use Rattle.directory.specs.Places.{StandsLast, KeepsPlace}

-- a directory of a sound volume
pub record IsOfDirectory (g : Geometry) (v : Pieces) (n : ℕ) : Type 0 where
  pub geometry : IsGeometry g
  pub sound : IsSound g v
  pub directory : IsTrue (is_directory_inode g v n)

-- The volume stays sound, and its nodes change at n alone, which becomes this one.
pub record BecomesNode (g : Geometry) (v w : Pieces) (n : ℕ) (node : Node) : Type 0 where
  pub sound : IsSound g w
  pub marks : w.inode_map ≡ v.inode_map
  pub others : (m : ℕ) → m ≢ n → w.inodes m ≡ record (v.inodes m) { zones = (w.inodes m).zones }
  pub nodes : nodes_of g w ≡ put (nodes_of g v) n (Some node)

-- the node of inode n
abbrev pub node_at : Geometry → Pieces → ℕ → Node
node_at g v n = node_of g v (v.inodes n)

-- its names are changed by f at `now`
abbrev pub NamesBecome : Geometry → Pieces → Pieces → ℕ → ℕ → (Names → Names) → Type 0
NamesBecome g v w n now f = BecomesNode g v w n (with_names now f (node_at g v n))

-- A directory without the name, zones enough for an entry more, and an inode that isn't 0.
pub record MayInsert (g : Geometry) (v : Pieces) (n : ℕ) (name : Name) (number : ℕ) : Type 0 where
  pub of : IsOfDirectory g v n
  pub named : IsTrue (is_name name)
  pub some : number ≢ 0
  pub new : inode_of (before g v n).names name ≡ None
  pub size : (v.inodes n).size + 64 ≤ most_size
  pub room : (bytes : List ℕ) → length bytes ≡ 64 → HasZonesFor g v n (written_at g v n (v.inodes n).size bytes).held

-- The directory has the name more, which leads to that inode and stands last.
pub record Inserts (g : Geometry) (n : ℕ) (name : Name) (number now : ℕ) (d e : Disk) : Type 0 where
  pub head : SameHead d e
  pub becomes : let v = pieces g d in
      MayInsert g v n name number → NamesBecome g v (pieces g e) n now (λ names. with_name names name number)
  pub place : MayInsert g (pieces g d) n name number → StandsLast g (pieces g d) (pieces g e) n number name

-- A directory, and an inode that isn't 0.
pub record MaySetParent (g : Geometry) (v : Pieces) (n : ℕ) (parent : ℕ) : Type 0 where
  pub of : IsOfDirectory g v n
  pub some : parent ≢ 0

-- The directory has that parent, and its other entries are the same.
pub record SetsParent (g : Geometry) (n : ℕ) (parent : ℕ) (d e : Disk) : Type 0 where
  pub head : SameHead d e
  pub becomes : let v = pieces g d in
      MaySetParent g v n parent → BecomesNode g v (pieces g e) n (with_parent parent (node_at g v n))
  pub place : MaySetParent g (pieces g d) n parent → SetsEntry (row_of g (pieces g d) n) (row_of g (pieces g e) n) 1 parent dot_dot

-- A directory that has the name.
pub record HasName (g : Geometry) (v : Pieces) (n : ℕ) (name : Name) : Type 0 where
  pub of : IsOfDirectory g v n
  pub named : IsTrue (is_name name)
  pub size : (v.inodes n).size ≤ most_size
  pub there : IsTrue (has_name (before g v n).names name)

-- A directory that has the name, and an inode that isn't 0.
pub record MayReplace (g : Geometry) (v : Pieces) (n : ℕ) (name : Name) (number : ℕ) : Type 0 where
  pub has : HasName g v n name
  pub some : number ≢ 0

-- The name leads to that inode, and stands where it stood.
pub record Replaces (g : Geometry) (n : ℕ) (name : Name) (number now : ℕ) (d e : Disk) : Type 0 where
  pub head : SameHead d e
  pub becomes : let v = pieces g d in
      MayReplace g v n name number → NamesBecome g v (pieces g e) n now (λ names. with_name names name number)
  pub place : MayReplace g (pieces g d) n name number → KeepsPlace g (pieces g d) (pieces g e) n name number name

-- A directory that has the old name, which leads to that inode, and not the new one.
pub record MayRename (g : Geometry) (v : Pieces) (n : ℕ) (old new : Name) (number : ℕ) : Type 0 where
  pub has : HasName g v n old
  pub leads : inode_of (before g v n).names old ≡ Some number
  pub named : IsTrue (is_name new)
  pub free : inode_of (before g v n).names new ≡ None

-- a directory that may have some name renamed so
abbrev pub MayRenameIt : Geometry → Pieces → ℕ → Name → Name → Type 0
MayRenameIt g v n old new = (number : ℕ) × MayRename g v n old new number

-- The new name leads to the inode to which the old one led, and stands where that stood, which is gone.
pub record Renames (g : Geometry) (n : ℕ) (old new : Name) (now : ℕ) (d e : Disk) : Type 0 where
  pub head : SameHead d e
  pub becomes : (number : ℕ) → let v = pieces g d in
      MayRename g v n old new number → NamesBecome g v (pieces g e) n now (λ names. with_name (without_name names old) new number)
  pub place : (number : ℕ) → MayRename g (pieces g d) n old new number → KeepsPlace g (pieces g d) (pieces g e) n old number new
