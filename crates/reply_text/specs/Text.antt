-- The texts of answers.
use Rattle.std.specs.Prelude.{ℕ, ◌/◌, ◌%◌, ◌++◌, [], ◌∷◌, List, codes, flat_map, length, decimal, false}
use Rattle.std.specs.Fmt.{digits}
use Rattle.errno.specs.Errors.{errno_name}
use Rattle.tree.specs.declared.Attributes.{Attributes}
use Rattle.tree.specs.declared.Statfs.{Statfs}
use Rattle.tree.specs.declared.Outcome.{Outcome}
use Rattle.tree.specs.declared.Outcome.TheVariants.{Reply, Cut}
use Rattle.tree.specs.Names.{Name}
use Rattle.tree.specs.Answers.{Answer, refused, done, descriptor, some_bytes, wrote, position, node_is, names_are, room_is, answer_of}

-- the two lower-case hexadecimal digits of a byte
abbrev pub hex_byte : ℕ → List ℕ
hex_byte n = digits 16 false (n / 16) ++ digits 16 false (n % 16)

-- bytes as hexadecimal
abbrev pub hex_text : List ℕ → List ℕ
hex_text bytes = flat_map hex_byte bytes

-- bytes as hexadecimal, or - where there are none
abbrev pub bytes_text : List ℕ → List ℕ
bytes_text [] = codes "-"
bytes_text (b ∷ bs) = hex_text (b ∷ bs)

-- the seven octal digits of a number of 16 bits
unfoldable pub octal_text : ℕ → List ℕ
octal_text n =
    codes "0" ++ decimal (n / 32768 % 8) ++ decimal (n / 4096 % 8) ++ decimal (n / 512 % 8)
    ++ decimal (n / 64 % 8) ++ decimal (n / 8 % 8) ++ decimal (n % 8)

-- who a node belongs to
unfoldable pub owner_text : ℕ → ℕ → List ℕ
owner_text uid gid = codes "uid " ++ decimal uid ++ codes " gid " ++ decimal gid

-- a node's times
unfoldable pub times_text : ℕ → ℕ → ℕ → List ℕ
times_text atime mtime ctime = decimal atime ++ codes " " ++ decimal mtime ++ codes " " ++ decimal ctime

-- a node's owner, size and times
unfoldable pub details_text : Attributes → List ℕ
details_text a =
    owner_text a.uid a.gid ++ codes " size " ++ decimal a.size ++ codes " times " ++ times_text a.atime a.mtime a.ctime

-- what stat tells of a node
abbrev pub attributes_text : Attributes → List ℕ
attributes_text a =
    codes "inode " ++ decimal a.inode ++ codes " mode " ++ octal_text a.mode ++ codes " links " ++ decimal a.links
    ++ codes " " ++ details_text a

-- what is free of the zones, and of so many inodes
unfoldable pub free_text : ℕ → ℕ → ℕ → List ℕ
free_text zones inodes free_inodes =
    codes "free " ++ decimal zones ++ codes " inodes " ++ decimal inodes ++ codes " free " ++ decimal free_inodes

-- what statfs tells of a volume
abbrev pub room_text : Statfs → List ℕ
room_text r =
    codes "block " ++ decimal r.block_size ++ codes " zones " ++ decimal r.zones ++ codes " "
    ++ free_text r.free_zones r.inodes r.free_inodes

-- a name and its inode, after a space
abbrev pub entry_text : Name × ℕ → List ℕ
entry_text e = codes " " ++ hex_text e.0 ++ codes ":" ++ decimal e.1

-- how many names, and each with its inode
abbrev pub names_text : List (Name × ℕ) → List ℕ
names_text names = decimal (length names) ++ flat_map entry_text names

-- an answer: a refusal by its name
abbrev pub answer_text : Answer → List ℕ
answer_text (refused e) = errno_name e
answer_text done = codes "ok"
answer_text (descriptor n) = codes "fd " ++ decimal n
answer_text (some_bytes bytes) = codes "bytes " ++ bytes_text bytes
answer_text (wrote n) = codes "wrote " ++ decimal n
answer_text (position n) = codes "at " ++ decimal n
answer_text (node_is a) = attributes_text a
answer_text (names_are names) = codes "names " ++ names_text names
answer_text (room_is r) = room_text r

-- the server's answer to a call
abbrev pub outcome_text : Outcome → List ℕ
outcome_text (Reply reply) = answer_text (answer_of reply)
outcome_text Cut = codes "cut"
