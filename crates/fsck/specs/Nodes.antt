-- What the pieces of a volume say whose entries have this form: the names of a directory, and the nodes.
use Rattle.std.specs.Prelude.{ℕ, zero, suc, ◌+◌, ◌-◌, ◌*◌, ◌/◌, [], Bool, ◌&&◌, ◌==◌, nat_le, if◌then◌else◌, Option, None, Some}
use Rattle.layout.specs.declared.Geometry.{Geometry}
use Rattle.volume.specs.declared.Inode.{Inode}
use Rattle.tree.specs.Names.{Name, Names, with_name}
use Rattle.tree.specs.Tree.{Directory, Body, is_file, is_directory, Node}
use Rattle.volume.specs.Pieces.{Pieces}
use Rattle.volume.specs.Nodes.{text_in, file_byte, file_of, is_directory_mode, is_link_mode, permissions_in, is_marked}
use Rattle.fsck.specs.Form.{EntryForm}

-- the inode number of entry e of a directory's bytes
abbrev pub entry_inode : EntryForm → (ℕ → ℕ) → ℕ → ℕ
entry_inode form f e = form.number f (form.size * e)

-- the name of entry e of a directory's bytes, up to its first zero byte
abbrev pub entry_name : EntryForm → (ℕ → ℕ) → ℕ → Name
entry_name form f e = text_in f form.name_length (form.size * e + form.name_start)

-- entry e is past the first two, and free where it may be: it names nothing
abbrev pub is_dropped : EntryForm → (ℕ → ℕ) → ℕ → Bool
is_dropped form f e = form.may_be_free && (nat_le 2 e && (entry_inode form f e == 0))

-- the names of the first k entries of a directory's bytes after its first two
unfoldable pub names_in : EntryForm → (ℕ → ℕ) → ℕ → Names
names_in form f zero = []
names_in form f (suc k) =
    if is_dropped form f (k + 2)
    then names_in form f k
    else with_name (names_in form f k) (entry_name form f (k + 2)) (entry_inode form f (k + 2))

-- how many entries a directory has, free ones among them
abbrev pub entry_count_of : EntryForm → Inode → ℕ
entry_count_of form i = i.size / form.size

-- the directory that an inode says: entry 1 leads to its parent, and the names follow
abbrev pub directory_of : EntryForm → Geometry → Pieces → Inode → Directory
directory_of form g v i = record {
  parent = entry_inode form (file_byte g v i) 1;
  names = names_in form (file_byte g v i) (entry_count_of form i - 2);
}

-- the body that an inode says; a symbolic link has bytes, as a file has
abbrev pub body_of : EntryForm → Geometry → Pieces → Inode → Body
body_of form g v i = if is_directory_mode i.mode then is_directory (directory_of form g v i) else is_file (file_of g v i)

-- the node that an inode says
abbrev pub node_of : EntryForm → Geometry → Pieces → Inode → Node
node_of form g v i = record {
  permissions = permissions_in i.mode;
  symbolic = is_link_mode i.mode;
  uid = i.uid;
  gid = i.gid;
  links = i.links;
  atime = i.atime;
  mtime = i.mtime;
  ctime = i.ctime;
  body = body_of form g v i;
}

-- the nodes that a volume says: those of the marked inodes
abbrev pub nodes_of : EntryForm → Geometry → Pieces → ℕ → Option Node
nodes_of form g v n = if is_marked g v n then Some (node_of form g v (v.inodes n)) else None
