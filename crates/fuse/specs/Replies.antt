-- Replies, by their fields.
use Rattle.std.specs.Prelude.{⊤, ℕ, ◌+◌, ◌-◌, ◌<◌, ◌%◌, ◌^◌, List, [], ◌∷◌, ◌++◌, length, replicate}
use Rattle.fields.specs.Fields.{Two, Four, Eight, Field, Number, fields_bytes}
use Rattle.fuse.specs.declared.entries.ReaddirEntry.{ReaddirEntry}
use Rattle.fuse.specs.declared.reply.Attributes.{Attributes}
use Rattle.fuse.specs.declared.reply.Entry.{Entry}
use Rattle.fuse.specs.declared.reply.Opened.{Opened}
use Rattle.fuse.specs.declared.reply.StatfsReply.{StatfsReply}
use Rattle.fuse.specs.declared.reply.InitReply.{InitReply}
use Rattle.fuse.specs.declared.reply.Reply.{Reply}
use Rattle.fuse.specs.declared.reply.Reply.TheVariants as reply

-- 88 bytes
unfoldable pub attribute_fields : Attributes → List Field
attribute_fields a =
    Number Eight a.inode ∷ Number Eight a.size ∷ Number Eight a.blocks ∷ Number Eight a.atime.0 ∷ Number Eight a.mtime.0
    ∷ Number Eight a.ctime.0 ∷ Number Four a.atime.1 ∷ Number Four a.mtime.1 ∷ Number Four a.ctime.1 ∷ Number Four a.mode
    ∷ Number Four a.links ∷ Number Four a.uid ∷ Number Four a.gid ∷ Number Four a.device ∷ Number Four a.block_size
    ∷ Number Four a.flags ∷ []

-- what is told of a name before the attributes
unfoldable pub name_fields : Entry → List Field
name_fields e =
    Number Eight e.node ∷ Number Eight e.generation ∷ Number Eight e.name_valid.0 ∷ Number Eight e.attributes_valid.0
    ∷ Number Four e.name_valid.1 ∷ Number Four e.attributes_valid.1 ∷ []

-- 128 bytes
abbrev pub entry_fields : Entry → List Field
entry_fields e = name_fields e ++ attribute_fields e.attributes

-- how long attributes may be kept, and four bytes that say nothing
unfoldable pub valid_fields : ℕ × ℕ → List Field
valid_fields valid = Number Eight valid.0 ∷ Number Four valid.1 ∷ Number Four 0 ∷ []

-- 16 bytes, of which the last four say nothing
unfoldable pub opened_fields : Opened → List Field
opened_fields o = Number Eight o.handle ∷ Number Four o.flags ∷ Number Four 0 ∷ []

-- so many fields of four bytes that say nothing
abbrev pub spare : ℕ → List Field
spare n = replicate n (Number Four 0)

-- 80 bytes
unfoldable pub room_fields : StatfsReply → List Field
room_fields r =
    Number Eight r.blocks ∷ Number Eight r.free ∷ Number Eight r.available ∷ Number Eight r.files ∷ Number Eight r.free_files
    ∷ Number Four r.block_size ∷ Number Four r.name_length ∷ Number Four r.fragment_size ∷ spare 7

-- 64 bytes
unfoldable pub init_fields : InitReply → List Field
init_fields i =
    Number Four i.major ∷ Number Four i.minor ∷ Number Four i.readahead ∷ Number Four i.flags ∷ Number Two i.background
    ∷ Number Two i.busy ∷ Number Four i.max_write ∷ Number Four i.time_unit ∷ Number Two i.max_pages ∷ Number Two i.map_alignment
    ∷ Number Four i.more_flags ∷ spare 7

-- a reply's fields
abbrev pub reply_fields : Reply → List Field
reply_fields (reply.Error number) = []
reply_fields reply.Done = []
reply_fields (reply.Init settled) = init_fields settled
reply_fields (reply.Entry entry) = entry_fields entry
reply_fields (reply.Attributes valid attributes) = valid_fields valid ++ attribute_fields attributes
reply_fields (reply.Open opened) = opened_fields opened
reply_fields (reply.Create entry opened) = entry_fields entry ++ opened_fields opened
reply_fields (reply.Write count) = Number Four count ∷ Number Four 0 ∷ []
reply_fields (reply.Statfs room) = room_fields room
reply_fields (reply.Bytes bytes) = []

-- the bytes behind its fields
abbrev pub tail_of : Reply → List ℕ
tail_of (reply.Bytes bytes) = bytes.now
tail_of r = []

-- a refusal's number is told as a negative one of 32 bits
abbrev pub error_of : Reply → ℕ
error_of (reply.Error number) = 2 ^ 32 - number
error_of r = 0

-- the kernel takes errors from 1 to 511
abbrev pub IsReply : Reply → Type 0
IsReply (reply.Error number) = (0 < number) × (number < 512)
IsReply r = ⊤

abbrev pub reply_bytes : Reply → List ℕ
reply_bytes r = fields_bytes (reply_fields r) ++ tail_of r

-- how many bytes a reply has with the 16 before it
abbrev pub size_of : Reply → ℕ
size_of r = 16 + length (reply_bytes r)

-- The bytes of the answer to the request with this number: their length, the error, the number, and the reply.
abbrev pub answer : ℕ → Reply → List ℕ
answer unique r = fields_bytes (Number Four (size_of r) ∷ Number Four (error_of r) ∷ Number Eight unique ∷ []) ++ reply_bytes r

-- as many zeros as lead from so many bytes to a multiple of eight
abbrev pub padding : ℕ → List ℕ
padding n = replicate ((8 - n % 8) % 8) 0

-- an entry of a directory: its inode, where the next one begins, the length of its name, its type, and its name, padded
abbrev pub dirent_bytes : ReaddirEntry → List ℕ
dirent_bytes e =
    fields_bytes (Number Eight e.inode ∷ Number Eight e.next ∷ Number Four (length e.name.now) ∷ Number Four e.kind ∷ [])
    ++ (e.name.now ++ padding (length e.name.now))
