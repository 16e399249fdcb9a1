-- What the pieces of a volume say: the zone of each page, the bytes of a file, the names of a directory, the nodes.
use Rattle.std.specs.Prelude.{ℕ, zero, suc, ◌+◌, ◌-◌, ◌*◌, ◌/◌, ◌%◌, ◌^◌, List, [], ◌∷◌, slice_index, Bool, not, ◌&&◌, ◌||◌, ◌==◌, nat_lt, nat_le, if◌then◌else◌, Option, None, Some}
use Rattle.layout.specs.declared.Geometry.{Geometry}
use Rattle.volume.specs.declared.Inode.{Inode}
use Rattle.tree.specs.Names.{Name, Names, with_name}
use Rattle.tree.specs.Tree.{File, Directory, Body, is_file, is_directory, Node}
use Rattle.tree.specs.Space.{numbers_in_zone}
use Rattle.volume.specs.Reading.{u32_in, is_inode}
use Rattle.volume.specs.Pieces.{Pieces}

-- zone number j of an indirect zone
abbrev pub word : Pieces → ℕ → ℕ → ℕ
word v z j = u32_in (v.zones z) (4 * j)

-- the same where zone 0 is a hole, in which no number stands
abbrev pub number : Pieces → ℕ → ℕ → ℕ
number v z j = if z == 0 then 0 else word v z j

-- zone number s of the ten of an inode: 0 to 6 direct, 7 single, 8 double, 9 triple indirect
abbrev pub slot : Inode → ℕ → ℕ
slot i s = slice_index i.zones s

-- The indirect block that names blocks that name pages, where a block holds n numbers: number 0 is the double's, the next n
-- are those that the triple's block names.
abbrev pub second_block : ℕ → Pieces → Inode → ℕ → ℕ
second_block n v i m = if m == 0 then slot i 8 else (if nat_le m n then number v (slot i 9) (m - 1) else 0)

-- The indirect block that names pages: number 0 is the single's, the next n stand in the double's block, the next n * n in
-- the n blocks below the triple's.
abbrev pub last_block : ℕ → Pieces → Inode → ℕ → ℕ
last_block n v i k = if k == 0 then slot i 7 else number v (second_block n v i ((k - 1) / n)) ((k - 1) % n)

-- the zone of page p, or 0 for a hole, where an indirect block holds n numbers
abbrev pub zone_of : ℕ → Pieces → Inode → ℕ → ℕ
zone_of n v i p = if nat_lt p 7 then slot i p else number v (last_block n v i ((p - 7) / n)) ((p - 7) % n)

-- the zone of page p, or 0 for a hole
abbrev pub page_zone : Geometry → Pieces → Inode → ℕ → ℕ
page_zone g v i p = zone_of (numbers_in_zone g) v i p

-- the byte at an offset of a page that lies in zone z; a hole has zeros
abbrev pub page_byte : Pieces → ℕ → ℕ → ℕ
page_byte v z o = if z == 0 then 0 else v.zones z o

-- byte p of a file; those past its end are 0, whatever its last page holds
abbrev pub file_byte : Geometry → Pieces → Inode → ℕ → ℕ
file_byte g v i p =
    if nat_lt p i.size
    then page_byte v (page_zone g v i (p / g.block_size)) (p % g.block_size)
    else 0

-- the file that an inode says; a page is held where it has a zone
abbrev pub file_of : Geometry → Pieces → Inode → File
file_of g v i = record {
  size = i.size;
  byte = file_byte g v i;
  held = λ p. not (page_zone g v i p == 0);
}

-- A directory's file is a row of entries of 64 bytes: an inode number of four, and 60 of name, filled with zeros.

-- the inode number of entry e of a directory's bytes
abbrev pub entry_inode : (ℕ → ℕ) → ℕ → ℕ
entry_inode f e = u32_in f (64 * e)

-- the bytes from place p on, up to k of them and up to a zero byte
abbrev pub text_in : (ℕ → ℕ) → ℕ → ℕ → List ℕ
text_in f zero p = []
text_in f (suc k) p = if f p == 0 then [] else f p ∷ text_in f k (suc p)

-- the name of entry e of a directory's bytes
abbrev pub entry_name : (ℕ → ℕ) → ℕ → Name
entry_name f e = text_in f 60 (64 * e + 4)

-- the first k names of a directory's bytes after its first two entries
unfoldable pub names_in : (ℕ → ℕ) → ℕ → Names
names_in f zero = []
names_in f (suc k) = with_name (names_in f k) (entry_name f (k + 2)) (entry_inode f (k + 2))

-- how many entries a directory has
abbrev pub entry_count_of : Inode → ℕ
entry_count_of i = i.size / 64

-- the directory that an inode says: entry 1 leads to its parent, and the names follow
abbrev pub directory_of : Geometry → Pieces → Inode → Directory
directory_of g v i = record {
  parent = entry_inode (file_byte g v i) 1;
  names = names_in (file_byte g v i) (entry_count_of i - 2);
}

-- A mode is a type, the bits of octal 170000, and permissions, those of octal 777.

-- the type in a mode: 4 is a directory, 8 a file, 10 a symbolic link
abbrev pub type_in : ℕ → ℕ
type_in mode = mode / 8 ^ 4

-- the permissions in a mode
abbrev pub permissions_in : ℕ → ℕ
permissions_in mode = mode % 8 ^ 3

-- the type is that of directories, whatever the other bits are
abbrev pub is_directory_mode : ℕ → Bool
is_directory_mode mode = type_in mode == 4

-- the type is that of symbolic links, whatever the other bits are
abbrev pub is_link_mode : ℕ → Bool
is_link_mode mode = type_in mode == 10

-- A known type, and no bits between the type and the permissions.
abbrev pub is_mode : ℕ → Bool
is_mode mode = ((type_in mode == 4) || (type_in mode == 8) || (type_in mode == 10)) && nat_lt (mode % 8 ^ 4) (8 ^ 3)

-- The body that an inode says. A symbolic link has bytes, as a file has.
abbrev pub body_of : Geometry → Pieces → Inode → Body
body_of g v i = if is_directory_mode i.mode then is_directory (directory_of g v i) else is_file (file_of g v i)

-- the node that an inode says
abbrev pub node_of : Geometry → Pieces → Inode → Node
node_of g v i = record {
  permissions = permissions_in i.mode;
  symbolic = is_link_mode i.mode;
  uid = i.uid;
  gid = i.gid;
  links = i.links;
  atime = i.atime;
  mtime = i.mtime;
  ctime = i.ctime;
  body = body_of g v i;
}

-- inode n is marked: its number is one of the volume's, and its bit is set
abbrev pub is_marked : Geometry → Pieces → ℕ → Bool
is_marked g v n = is_inode g n && v.inode_map n

-- the nodes that a volume says: those of the marked inodes
abbrev pub nodes_of : Geometry → Pieces → ℕ → Option Node
nodes_of g v n = if is_marked g v n then Some (node_of g v (v.inodes n)) else None
