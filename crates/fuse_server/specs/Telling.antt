-- What the last exchange before an answer has to do with it.
use Rattle.std.specs.Prelude.{⊤, ◌≡◌, ◌<◌, ◌⊎◌, ◌+◌, ◌/◌, ◌%◌, min, ℕ, pos, Bool, true, false, List, [], ◌∷◌, ◌++◌, length, take, Option, Some, None, Result, Ok}
use Rattle.std.specs.Borrow.{Bor}
use Rattle.std.specs.Global.{Vec}
use Rattle.errno.specs.declared.Errno.TheVariants.{ENOENT}
use Rattle.fuse.specs.declared.reply.Attributes.{Attributes as Told}
use Rattle.fuse.specs.declared.reply.Entry.{Entry}
use Rattle.fuse.specs.declared.reply.StatfsReply.{StatfsReply}
use Rattle.fuse.specs.declared.request.Message.{Message}
use Rattle.fuse.specs.declared.request.Request.{Request}
use Rattle.fuse.specs.declared.request.Request.TheVariants as request
use Rattle.fuse_nodes.specs.Known.{Known}
use Rattle.fuse_nodes.specs.declared.node.Descriptor.{Descriptor}
use Rattle.tree.specs.declared.Attributes.{Attributes}
use Rattle.tree.specs.declared.Call.{Call}
use Rattle.tree.specs.declared.Call.TheVariants as call
use Rattle.tree.specs.declared.LinkTarget.{LinkTarget}
use Rattle.tree.specs.declared.OpenFlags.{OpenFlags}
use Rattle.tree.specs.declared.Outcome.{Outcome}
use Rattle.tree.specs.declared.PathFrom.{PathFrom}
use Rattle.tree.specs.declared.Reply.{Reply}
use Rattle.tree.specs.declared.Reply.TheVariants as reply
use Rattle.tree.specs.declared.Statfs.{Statfs}
use Rattle.tree.specs.declared.Whence.TheVariants.{Set}
use Rattle.talks.specs.Changes.{changes_wanted, in_order}
use Rattle.talks.specs.Hearing.{target_of}
use Rattle.talks.specs.Talks.{Exchange, Leads, EndsInSync, MayHear, Replies}
use Rattle.talks.specs.declared.ask.Ask.{Ask}
use Rattle.talks.specs.declared.ask.Ask.TheVariants as ask
use Rattle.talks.specs.declared.changes.Changes.{Changes}
use Rattle.talks.specs.declared.changes.Wanted.{Wanted}
use Rattle.talks.specs.declared.heard.Heard.{Heard}
use Rattle.talks.specs.declared.ask.Leaving.{Leaving}
use Rattle.talks.specs.declared.sessions.EnterRefusal.{EnterRefusal}
use Rattle.fuse_server.specs.Asking.{EndsWith, LookedAt, Talked, TalkedBy}
use Rattle.fuse_server.specs.Calls.{calls_in}
use Rattle.fuse_server.specs.Changing.{bits_of, changes_done}
use Rattle.fuse_server.specs.Losing.{Loses}
use Rattle.fuse_server.specs.Making.{Making, AreMaking, asker, given_to, itself, seen_at}
use Rattle.fuse_server.specs.Making.Making.{NewDirectory, NewFile, NewLink, NewName}
use Rattle.fuse_server.specs.Reach.{IsAt}
use Rattle.fuse_server.specs.Tries.{AreTries, sought_at, wrote_by}
use Rattle.fuse_server.specs.declared.making.Owner.{Owner}
use Rattle.fuse_server.specs.declared.said.FuseAnswer.{FuseAnswer}
use Rattle.fuse_server.specs.declared.said.FuseAnswer.TheVariants as answer_of
use Rattle.fuse_server.specs.declared.said.Said.{Said}
use Rattle.fuse_server.specs.declared.said.Said.TheVariants as said
use Rattle.fuse_server.specs.declared.work.Reach.{Reach}

-- attributes, as answers have them
abbrev pub told_of : Attributes → Told
told_of was = record {
  inode = was.inode;
  size = was.size;
  blocks = was.size / 512 + min 1 (was.size % 512);
  atime = (was.atime, 0);
  mtime = (was.mtime, 0);
  ctime = (was.ctime, 0);
  mode = was.mode;
  links = was.links;
  uid = was.uid;
  gid = was.gid;
  device = 0;
  block_size = 4096;
  flags = 0;
}

-- the room of a volume, as answers have it
abbrev pub room_of : Statfs → StatfsReply
room_of room = record {
  blocks = room.zones;
  free = room.free_zones;
  available = room.free_zones;
  files = room.inodes;
  free_files = room.free_inodes;
  block_size = room.block_size;
  name_length = 60;
  fragment_size = room.block_size;
}

-- what an answer tells of: a name in the message's node, what it made at one, the node, what it changed of it, its target, a name that was
-- taken away from a file or a directory or became another one in the second node, the room, its bytes from an offset on, at most so many,
-- or bytes that were put there, or nothing that is said here
pub data Telling : Type 0 where
  Name : List ℕ → Telling
  Made : List ℕ → Making → Telling
  Node : Telling
  Changed : Wanted → Telling
  Target : Telling
  Unlinked : List ℕ → Telling
  Removed : List ℕ → Telling
  Renamed : List ℕ → List ℕ → Telling
  Room : Telling
  ReadAt : ℕ → ℕ → Telling
  WrittenAt : ℕ → List ℕ → Telling
  Other : Telling

-- of a message at a time, by who asks
abbrev pub telling_of : ℕ → Owner → Request → Telling
telling_of now owner (request.Lookup name) = Name name.now
telling_of now owner (request.Getattr flags handle) = Node
telling_of now owner (request.Setattr valid handle size lock_owner atime mtime ctime mode uid gid) = Changed (record {
  valid = bits_of valid;
  mode = mode;
  uid = uid;
  gid = gid;
  size = size;
  atime = atime.0;
  mtime = mtime.0;
  now = now;
})
telling_of now owner request.Readlink = Target
telling_of now owner (request.Symlink name target) = Made name.now (NewLink target.now owner)
telling_of now owner (request.Mknod mode device umask name) = Made name.now (NewFile (mode % 512) owner)
telling_of now owner (request.Mkdir mode umask name) = Made name.now (NewDirectory (mode % 512) owner)
telling_of now owner (request.Unlink name) = Unlinked name.now
telling_of now owner (request.Rmdir name) = Removed name.now
telling_of now owner (request.Rename new_directory old_name new_name) = Renamed old_name.now new_name.now
telling_of now owner (request.Rename2 new_directory flags old_name new_name) = Renamed old_name.now new_name.now
telling_of now owner (request.Link file name) = Made name.now NewName
telling_of now owner (request.Create flags mode umask open_flags name) = Made name.now (NewFile (mode % 512) owner)
telling_of now owner request.Statfs = Room
telling_of now owner (request.Read span) = ReadAt span.offset span.count
telling_of now owner (request.Write handle offset write_flags lock_owner flags bytes) = WrittenAt offset bytes.now
telling_of now owner r = Other

abbrev pub telling : ℕ → Message → Telling
telling now m = telling_of now (asker m) m.request

-- something
abbrev pub tells : Request → Bool
tells (request.Lookup name) = true
tells (request.Getattr flags handle) = true
tells (request.Setattr valid handle size lock_owner atime mtime ctime mode uid gid) = true
tells request.Readlink = true
tells (request.Symlink name target) = true
tells (request.Mknod mode device umask name) = true
tells (request.Mkdir mode umask name) = true
tells (request.Unlink name) = true
tells (request.Rmdir name) = true
tells (request.Rename new_directory old_name new_name) = true
tells (request.Rename2 new_directory flags old_name new_name) = true
tells (request.Link file name) = true
tells (request.Create flags mode umask open_flags name) = true
tells request.Statfs = true
tells (request.Read span) = true
tells (request.Write handle offset write_flags lock_owner flags bytes) = true
tells r = false

-- The exchanges end in a look at a name in the message's node, by which these attributes are told.
pub record IsSeenAt (x : Reach) (name : List ℕ) (told : Told) (log : List Exchange) : Type 0 where
  pub session : ℕ
  pub path : PathFrom
  pub was : Attributes
  pub at : IsAt x.own name path
  pub ends : EndsWith session (call.Lstat path) (reply.Inode was) log
  pub is : told ≡ told_of was

-- The calls make something at a name in the message's node, and then look at it: its attributes are told.
pub record IsMadeAt (x : Reach) (name : List ℕ) (making : Making) (told : Told) (log : List Exchange) : Type 0 where
  pub path : PathFrom
  pub was : Attributes
  pub at : IsAt x.own name path
  pub made : AreMaking x making path was (calls_in log)
  pub is : told ≡ told_of was

-- or in a look at what its node's descriptor has open
pub record IsSeenOpen (x : Reach) (told : Told) (log : List Exchange) : Type 0 where
  pub descriptor : Descriptor
  pub was : Attributes
  pub has : x.descriptor ≡ Some descriptor
  pub ends : EndsWith descriptor.session (call.Fstat descriptor.fd) (reply.Inode was) log
  pub is : told ≡ told_of was

-- There is one call alone.
abbrev pub IsAlone : List Exchange → Type 0
IsAlone log = length (calls_in log) ≡ 1

-- It is a look at the message's node.
abbrev pub IsLooked : Reach → Told → List Exchange → Type 0
IsLooked x told log = (IsSeenAt x [] told log ⊎ IsSeenOpen x told log) × IsAlone log

-- The message's node is looked at; the changes that are wanted of what is so are made at its path, one by one, each of them done; then it
-- is looked at again, and that is told. Nothing else is called.
pub record IsChanged (x : Reach) (wanted : Wanted) (told : Told) (log : List Exchange) : Type 0 where
  pub was : Attributes
  pub changes : Changes
  pub path : PathFrom
  pub first : List Exchange
  pub made : List Exchange
  pub last : List Exchange
  pub all : log ≡ last ++ (made ++ first)
  pub looked : IsLooked x (told_of was) first
  pub wants : changes_wanted wanted was ≡ Ok changes
  pub at : IsAt x.own [] path
  pub done : calls_in made ≡ changes_done path (in_order changes)
  pub seen : IsLooked x told last

-- in a look at the target of the message's node
pub record IsTarget (x : Reach) (bytes : List ℕ) (log : List Exchange) : Type 0 where
  pub session : ℕ
  pub path : PathFrom
  pub target : LinkTarget
  pub at : IsAt x.own [] path
  pub ends : EndsWith session (call.Readlink path) (reply.Target target) log
  pub is : bytes ≡ target_of target

-- in a call that was done with a name in the message's node
pub record IsDoneAt (x : Reach) (name : List ℕ) (asked : PathFrom → Call) (log : List Exchange) : Type 0 where
  pub session : ℕ
  pub path : PathFrom
  pub at : IsAt x.own name path
  pub ends : EndsWith session (asked path) reply.Done log

pub record IsRenamed (x : Reach) (old new : List ℕ) (log : List Exchange) : Type 0 where
  pub session : ℕ
  pub from : PathFrom
  pub to : PathFrom
  pub at : IsAt x.own old from
  pub into : IsAt x.other new to
  pub ends : EndsWith session (call.Rename from to) reply.Done log

pub record IsRoom (told : StatfsReply) (log : List Exchange) : Type 0 where
  pub session : ℕ
  pub room : Statfs
  pub ends : EndsWith session call.Statfs (reply.Space room) log
  pub is : told ≡ room_of room

-- in an open at the message's node, which gave this descriptor
pub record EndsInOpen (x : Reach) (d : Descriptor) (log : List Exchange) : Type 0 where
  pub path : PathFrom
  pub flags : OpenFlags
  pub mode : ℕ
  pub at : IsAt x.own [] path
  pub ends : EndsWith d.session (call.Open path flags mode) (reply.Descriptor d.fd) log

-- The descriptor is the node's: that which it has, or one that was opened at it just now.
abbrev pub IsOwn : Reach → Descriptor → List Exchange → Type 0
IsOwn x d log = (x.descriptor ≡ Some d) ⊎ ((x.descriptor ≡ None) × EndsInOpen x d log)

-- By exchanges and nothing else sessions come from one state to another, and the descriptor is the node's behind them.
pub record HasOwn {S : Type 0} (called : S → ℕ → ℕ → Call → Outcome → S → Type 0)
    (entered : S → ℕ → ℕ → Result ℕ EnterRefusal → S → Type 0) (left : S → Leaving → S → Type 0) (now : ℕ)
    (s : S) (x : Reach) (d : Descriptor) (t : S) : Type 0 where
  pub talked : Talked called entered left now s t
  pub own : IsOwn x d talked.log

-- in a seek of the node's descriptor to a position, and then a call by it
abbrev pub EndsAt : Reach → Descriptor → ℕ → ℕ → Call → Reply → List Exchange → Type 0
EndsAt x d offset position asked r (last ∷ sought ∷ log) = (last.ask ≡ ask.Call d.session asked) × Replies last.heard r
    × (sought.ask ≡ ask.Call d.session (call.Seek d.fd Set (pos offset))) × Replies sought.heard (reply.At position) × IsOwn x d log
EndsAt x d offset position asked r log = ⊥

pub record IsAtPosition (x : Reach) (offset : ℕ) (asked : ℕ → Call) (r : Reply) (log : List Exchange) : Type 0 where
  pub descriptor : Descriptor
  pub position : ℕ
  pub ends : EndsAt x descriptor offset position (asked descriptor.fd) r log

-- in a read there: its bytes are told
pub record IsRead (x : Reach) (offset count : ℕ) (told : List ℕ) (log : List Exchange) : Type 0 where
  pub read : Vec ℕ
  pub there : IsAtPosition x offset (λ fd. call.Read fd (min count 65536)) (reply.Bytes read) log
  pub is : told ≡ take (min count 65536) read.items

-- in a seek of the node's descriptor there, and a write of bytes by it, behind the tries that give these, alone: of how many is told
pub record IsWritten (x : Reach) (offset : ℕ) (bytes : List ℕ) (told : ℕ) (log : List Exchange) : Type 0 where
  pub descriptor : Descriptor
  pub given : Bor (List ℕ)
  pub position : ℕ
  pub wrote : ℕ
  pub tries : List Exchange
  pub before : List Exchange
  pub all : log ≡ wrote_by descriptor given (reply.Wrote wrote) ∷ sought_at descriptor offset position ∷ (tries ++ before)
  pub tried : AreTries descriptor offset bytes given.now tries
  pub own : IsOwn x descriptor before
  pub is : told ≡ min wrote (length bytes)

-- Past the largest position of a file there are no bytes, and none are asked for.
abbrev pub IsReadOrPast : Reach → ℕ → ℕ → List ℕ → List Exchange → Type 0
IsReadOrPast x offset count told log = IsRead x offset count told log ⊎ ((2147483647 < offset) × (told ≡ []) × (log ≡ []))

-- in a look at a name in the message's node that leads to nothing
pub record IsMissing (x : Reach) (name : List ℕ) (log : List Exchange) : Type 0 where
  pub session : ℕ
  pub path : PathFrom
  pub at : IsAt x.own name path
  pub ends : EndsWith session (call.Lstat path) (reply.Refused ENOENT) log

-- A path was looked at, and these attributes are told.
pub record ShownAt {S : Type 0} (called : S → ℕ → ℕ → Call → Outcome → S → Type 0)
    (entered : S → ℕ → ℕ → Result ℕ EnterRefusal → S → Type 0) (left : S → Leaving → S → Type 0) (now : ℕ)
    (s : S) (path : PathFrom) (told : Told) (t : S) : Type 0 where
  pub was : Attributes
  pub looked : LookedAt called entered left now s path (Some was) t
  pub is : told ≡ told_of was

-- or nothing was found
abbrev pub FoundAt : {S : Type 0} → (S → ℕ → ℕ → Call → Outcome → S → Type 0) → (S → ℕ → ℕ → Result ℕ EnterRefusal → S → Type 0)
    → (S → Leaving → S → Type 0) → ℕ → S → PathFrom → Option Entry → S → Type 0
FoundAt called entered left now s path (Some entry) t = ShownAt called entered left now s path entry.attributes t
FoundAt called entered left now s path None t = LookedAt called entered left now s path None t

-- What the exchanges end in where this is answered.
abbrev pub IsToldAs : Reach → Telling → FuseAnswer → List Exchange → Type 0
IsToldAs x (Name name) (answer_of.Entry entry) log = IsSeenAt x name entry.attributes log × IsAlone log
IsToldAs x (Made name making) (answer_of.Entry entry) log = IsMadeAt x name making entry.attributes log
IsToldAs x (Made name making) (answer_of.Create entry opened) log = IsMadeAt x name making entry.attributes log
IsToldAs x Node (answer_of.Attributes told) log = IsLooked x told log
IsToldAs x (Changed wanted) (answer_of.Attributes told) log = IsChanged x wanted told log
IsToldAs x Target (answer_of.Bytes bytes) log = IsTarget x bytes.items log × IsAlone log
IsToldAs x (Unlinked name) answer_of.Done log = IsDoneAt x name (λ path. call.Unlink path) log
IsToldAs x (Removed name) answer_of.Done log = IsDoneAt x name (λ path. call.Rmdir path) log
IsToldAs x (Renamed old new) answer_of.Done log = IsRenamed x old new log
IsToldAs x Room (answer_of.Statfs room) log = IsRoom room log × IsAlone log
IsToldAs x (ReadAt offset count) (answer_of.Bytes bytes) log = IsReadOrPast x offset count bytes.items log
IsToldAs x (WrittenAt offset bytes) (answer_of.Write count) log = IsWritten x offset bytes count log
IsToldAs x about a log = ⊤

-- No entry has a longer name, so nothing is asked for one.
abbrev pub IsTooLong : List ℕ → List Exchange → Type 0
IsTooLong name log = (60 < length name) × (log ≡ [])

abbrev pub IsMissingAs : Reach → Telling → List Exchange → Type 0
IsMissingAs x (Name name) log = (IsMissing x name log × IsAlone log) ⊎ IsTooLong name log
IsMissingAs x about log = ⊥

-- Where it is said that a sync was done, they end in such a sync, and where it is said that a name leads to nothing, in a look that found
-- nothing, or there are none, for a name that is too long.
abbrev pub IsBehind : Reach → Telling → Said → List Exchange → Type 0
IsBehind x about (said.Plain a) log = IsToldAs x about a log
IsBehind x about said.Synced log = EndsInSync log × IsAlone log
IsBehind x about said.Missing log = IsMissingAs x about log

-- By exchanges and nothing else sessions come from one state to another, and this is answered behind them, by what is known then.
pub record ToldBehind {S : Type 0} (called : S → ℕ → ℕ → Call → Outcome → S → Type 0)
    (entered : S → ℕ → ℕ → Result ℕ EnterRefusal → S → Type 0) (left : S → Leaving → S → Type 0) (now : ℕ)
    (x : Reach) (about : Telling) (k : Known) (s : S) (a : FuseAnswer) (t : S) : Type 0 where
  pub log : List Exchange
  pub leads : Leads (MayHear called entered left now) s log t
  pub told : IsToldAs x about a log
  pub loses : Loses k log

-- Changes were made of the message's node, and then it was looked at.
pub record SetBehind {S : Type 0} (called : S → ℕ → ℕ → Call → Outcome → S → Type 0)
    (entered : S → ℕ → ℕ → Result ℕ EnterRefusal → S → Type 0) (left : S → Leaving → S → Type 0) (now : ℕ)
    (x : Reach) (changes : Changes) (k : Known) (s : S) (told : Told) (t : S) : Type 0 where
  pub path : PathFrom
  pub between : S
  pub at : IsAt x.own [] path
  pub made : TalkedBy called entered left now s (changes_done path (in_order changes)) between
  pub seen : ToldBehind called entered left now x Node k between (answer_of.Attributes told) t

-- By these calls, and then a look at a path, sessions come from one state to another: its attributes are told.
pub record ShownBy {S : Type 0} (called : S → ℕ → ℕ → Call → Outcome → S → Type 0)
    (entered : S → ℕ → ℕ → Result ℕ EnterRefusal → S → Type 0) (left : S → Leaving → S → Type 0) (now : ℕ)
    (s : S) (calls : List (Call × Heard)) (path : PathFrom) (told : Told) (t : S) : Type 0 where
  pub was : Attributes
  pub talked : TalkedBy called entered left now s (calls ++ (seen_at path was ∷ [])) t
  pub is : told ≡ told_of was

-- A link was looked at, and given to an owner.
abbrev pub LinkGiven : {S : Type 0} → (S → ℕ → ℕ → Call → Outcome → S → Type 0) → (S → ℕ → ℕ → Result ℕ EnterRefusal → S → Type 0)
    → (S → Leaving → S → Type 0) → ℕ → S → PathFrom → Owner → S → Type 0
LinkGiven called entered left now s path owner t = (link : Attributes)
    × TalkedBy called entered left now s (seen_at path link ∷ given_to (itself link.inode) owner ∷ []) t

-- and then looked at again
abbrev pub LinkShown : {S : Type 0} → (S → ℕ → ℕ → Call → Outcome → S → Type 0) → (S → ℕ → ℕ → Result ℕ EnterRefusal → S → Type 0)
    → (S → Leaving → S → Type 0) → ℕ → S → PathFrom → Owner → Told → S → Type 0
LinkShown called entered left now s path owner told t = (link : Attributes)
    × ShownBy called entered left now s (seen_at path link ∷ given_to (itself link.inode) owner ∷ []) path told t

abbrev pub AskedFor : {S : Type 0} → (S → Ask → Heard → S → Type 0) → Reach → Telling → Known → S → Said → S → Type 0
AskedFor may x about k s it t = (log : List Exchange) × Leads may s log t × IsBehind x about it log × Loses k log
