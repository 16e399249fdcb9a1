-- Replies, by their types and fields.
use Rattle.std.specs.Prelude.{ℕ, ◌+◌, List, [], ◌∷◌, ◌++◌, length}
use Rattle.std.specs.List.{flat_map}
use Rattle.ninep.specs.Fields.{One, Two, Four, Eight, Field, Number, Text, Data, fields_bytes}
use Rattle.ninep.specs.Requests.{Tagged}
use Rattle.ninep.specs.declared.entries.ReaddirEntry.{ReaddirEntry}
use Rattle.ninep.specs.declared.reply.Qid.{Qid}
use Rattle.ninep.specs.declared.reply.StatfsReply.{StatfsReply}
use Rattle.ninep.specs.declared.reply.Attributes.{Attributes}
use Rattle.ninep.specs.declared.reply.Held.{Held}
use Rattle.ninep.specs.declared.reply.Reply.{Reply}
use Rattle.ninep.specs.declared.reply.Reply.TheVariants as reply

abbrev pub qid_fields : Qid → List Field
qid_fields qid = Number One qid.kind ∷ Number Four qid.version ∷ Number Eight qid.path ∷ []

-- seconds and nanoseconds
abbrev pub time_fields : ℕ × ℕ → List Field
time_fields time = Number Eight time.0 ∷ Number Eight time.1 ∷ []

-- two numbers of eight bytes
abbrev pub pair_fields : ℕ → ℕ → List Field
pair_fields a b = Number Eight a ∷ Number Eight b ∷ []

-- how large blocks are, and how many of them there are
unfoldable pub block_fields : StatfsReply → List Field
block_fields room =
    Number Four room.kind ∷ Number Four room.block_size ∷ Number Eight room.blocks ∷ Number Eight room.free ∷ Number Eight room.available
    ∷ []

-- how many files there may be
unfoldable pub file_fields : StatfsReply → List Field
file_fields room =
    Number Eight room.files ∷ Number Eight room.free_files ∷ Number Eight room.id ∷ Number Four room.name_length ∷ []

abbrev pub room_fields : StatfsReply → List Field
room_fields room = block_fields room ++ file_fields room

-- which attributes are told, and of which file
unfoldable pub owner_fields : Attributes → List Field
owner_fields a = (Number Eight a.valid ∷ qid_fields a.qid) ++ (Number Four a.mode ∷ Number Four a.uid ∷ Number Four a.gid ∷ [])

unfoldable pub size_fields : Attributes → List Field
size_fields a = pair_fields a.links a.device ++ pair_fields a.size a.block_size ++ (Number Eight a.blocks ∷ [])

unfoldable pub times_fields : Attributes → List Field
times_fields a = (time_fields a.atime ++ time_fields a.mtime) ++ (time_fields a.ctime ++ time_fields a.made)

unfoldable pub version_fields : Attributes → List Field
version_fields a = pair_fields a.generation a.data_version

abbrev pub attribute_fields : Attributes → List Field
attribute_fields a = (owner_fields a ++ size_fields a) ++ (times_fields a ++ version_fields a)

abbrev pub held_fields : Held → List Field
held_fields held =
    Number One held.kind ∷ Number Eight held.start ∷ Number Eight held.length ∷ Number Four held.process ∷ Text held.client.now ∷ []

-- the type of a reply
abbrev pub number_of : Reply → ℕ
number_of (reply.Error number) = 7
number_of (reply.Statfs room) = 9
number_of (reply.Open qid unit) = 13
number_of (reply.Create qid unit) = 15
number_of (reply.Symlink qid) = 17
number_of reply.Rename = 21
number_of (reply.Readlink target) = 23
number_of (reply.Getattr attributes) = 25
number_of reply.Setattr = 27
number_of (reply.Readdir entries) = 41
number_of reply.Fsync = 51
number_of (reply.Lock status) = 53
number_of (reply.Getlock held) = 55
number_of reply.Link = 71
number_of (reply.Mkdir qid) = 73
number_of reply.Renameat = 75
number_of reply.Unlinkat = 77
number_of (reply.Version message_size version) = 101
number_of (reply.Attach qid) = 105
number_of reply.Flush = 109
number_of (reply.Walk qids) = 111
number_of (reply.Read bytes) = 117
number_of (reply.Write count) = 119
number_of reply.Clunk = 121
number_of reply.Remove = 123

-- its fields
abbrev pub reply_fields : Reply → List Field
reply_fields (reply.Error number) = Number Four number ∷ []
reply_fields (reply.Statfs room) = room_fields room
reply_fields (reply.Open qid unit) = qid_fields qid ++ Number Four unit ∷ []
reply_fields (reply.Create qid unit) = qid_fields qid ++ Number Four unit ∷ []
reply_fields (reply.Symlink qid) = qid_fields qid
reply_fields reply.Rename = []
reply_fields (reply.Readlink target) = Text target.now ∷ []
reply_fields (reply.Getattr attributes) = attribute_fields attributes
reply_fields reply.Setattr = []
reply_fields (reply.Readdir entries) = Data entries.now ∷ []
reply_fields reply.Fsync = []
reply_fields (reply.Lock status) = Number One status ∷ []
reply_fields (reply.Getlock held) = held_fields held
reply_fields reply.Link = []
reply_fields (reply.Mkdir qid) = qid_fields qid
reply_fields reply.Renameat = []
reply_fields reply.Unlinkat = []
reply_fields (reply.Version message_size version) = Number Four message_size ∷ Text version.now ∷ []
reply_fields (reply.Attach qid) = qid_fields qid
reply_fields reply.Flush = []
reply_fields (reply.Walk qids) = Number Two (length qids.now) ∷ flat_map qid_fields qids.now
reply_fields (reply.Read bytes) = Data bytes.now ∷ []
reply_fields (reply.Write count) = Number Four count ∷ []
reply_fields reply.Clunk = []
reply_fields reply.Remove = []

-- a reply with its tag
abbrev pub replied : ℕ → Reply → Tagged
replied tag r = record { tag = tag; body = record { number = number_of r; fields = reply_fields r } }

-- how many bytes a reply has with its size
abbrev pub size_of : Reply → ℕ
size_of r = 7 + length (fields_bytes (reply_fields r))

-- an entry of a directory: its qid, where the next one begins, its type and its name
abbrev pub entry_fields : ReaddirEntry → List Field
entry_fields e = qid_fields e.qid ++ Number Eight e.next ∷ Number One e.kind ∷ Text e.name.now ∷ []
