-- What is told of names.
use Rattle.std.specs.Prelude.{◌≡◌, ◌⊎◌, ℕ, Some, List, [], ◌∷◌, ◌++◌}
use Rattle.std.specs.List.{AllByRecursion}
use Rattle.fields.specs.Fields.{fields_bytes}
use Rattle.fuse.specs.Replies.{entry_fields, dirent_bytes}
use Rattle.fuse.specs.declared.entries.ReaddirEntry.{ReaddirEntry}
use Rattle.fuse.specs.declared.reply.Entry.{Entry}
use Rattle.fuse_nodes.specs.Known.{Known}

-- An entry names its inode's node, by what is known then.
abbrev pub IsKnown : Known → Entry → Type 0
IsKnown k e = k.numbers e.attributes.inode ≡ Some e.node

-- An entry that names nothing, which the kernel may keep for a day.
abbrev pub nothing : Entry
nothing = record {
  node = 0;
  generation = 0;
  name_valid = (86400, 0);
  attributes_valid = (0, 0);
  attributes = record {
    inode = 0;
    size = 0;
    blocks = 0;
    atime = (0, 0);
    mtime = (0, 0);
    ctime = (0, 0);
    mode = 0;
    links = 0;
    uid = 0;
    gid = 0;
    device = 0;
    block_size = 0;
    flags = 0;
  };
}

abbrev pub MaybeKnown : Known → Entry → Type 0
MaybeKnown k e = (e ≡ nothing) ⊎ IsKnown k e

-- the numbers that inodes have stay theirs
pub record KeepsNumbers (k l : Known) : Type 0 where
  pub numbers : (inode id : ℕ) → k.numbers inode ≡ Some id → l.numbers inode ≡ Some id

-- what a name leads to, and its entry in its directory, as READDIRPLUS tells them
abbrev pub found_bytes : Entry × ReaddirEntry → List ℕ
found_bytes e = fields_bytes (entry_fields e.0) ++ dirent_bytes e.1

unfoldable pub listed_bytes : List (Entry × ReaddirEntry) → List ℕ
listed_bytes [] = []
listed_bytes (e ∷ es) = found_bytes e ++ listed_bytes es

-- Bytes are those of such entries, each of which names its inode's node, by what is known then, or nothing.
pub record IsListed (k : Known) (bytes : List ℕ) : Type 0 where
  pub entries : List (Entry × ReaddirEntry)
  pub exact : bytes ≡ listed_bytes entries
  pub known : AllByRecursion (λ (e : Entry × ReaddirEntry). MaybeKnown k e.0) entries
