-- Which answer a request has.
use Rattle.std.specs.Prelude.{⊤, ◌≡◌, ◌<◌, ◌≤◌, ℕ, Bool, true, false, IsTrue, take, length, min, bit_and}
use Rattle.fuse.specs.declared.reply.InitReply.{InitReply}
use Rattle.fuse.specs.declared.reply.Reply.{Reply}
use Rattle.fuse.specs.declared.reply.Reply.TheVariants as reply
use Rattle.fuse.specs.declared.request.Request.{Request}
use Rattle.fuse.specs.declared.request.Request.TheVariants as request
use Rattle.fuse_nodes.specs.Known.{Known}
use Rattle.talks.specs.Numbers.{number_of}
use Rattle.talks.specs.Plain.{at}
use Rattle.fuse_server.specs.Entries.{IsKnown, IsListed, nothing}
use Rattle.fuse_server.specs.declared.said.FuseAnswer.{FuseAnswer}
use Rattle.fuse_server.specs.declared.said.FuseAnswer.TheVariants as answer_of
use Rattle.fuse_server.specs.declared.said.Said.{Said}
use Rattle.fuse_server.specs.declared.said.Said.TheVariants as said

-- whether an answer is a refusal
abbrev pub is_refusal : FuseAnswer → Bool
is_refusal (answer_of.Refused refused) = true
is_refusal answer_of.Unknown = true
is_refusal answer_of.OtherVersion = true
is_refusal a = false

-- the answers that some requests have, each with the refusals
abbrev pub is_done : FuseAnswer → Bool
is_done answer_of.Done = true
is_done a = is_refusal a

abbrev pub is_attributes : FuseAnswer → Bool
is_attributes (answer_of.Attributes attributes) = true
is_attributes a = is_refusal a

abbrev pub is_open : FuseAnswer → Bool
is_open (answer_of.Open opened) = true
is_open a = is_refusal a

abbrev pub is_room : FuseAnswer → Bool
is_room (answer_of.Statfs room) = true
is_room a = is_refusal a

abbrev pub is_bytes : FuseAnswer → Bool
is_bytes (answer_of.Bytes bytes) = true
is_bytes a = is_refusal a

abbrev pub IsEntry : Known → FuseAnswer → Type 0
IsEntry k (answer_of.Entry entry) = IsKnown k entry
IsEntry k a = IsTrue (is_refusal a)

abbrev pub IsCreate : Known → FuseAnswer → Type 0
IsCreate k (answer_of.Create entry opened) = IsKnown k entry
IsCreate k a = IsTrue (is_refusal a)

-- What a connection begins with: version 7.31, messages of 64 KiB, whole seconds. Of what the kernel offers it takes reads that nobody waits
-- for (bit 0), writes of more than a page (5), READDIRPLUS, where READDIR does, too (13, 14), lookups in one directory side by side (18), a
-- count of a message's pages (22), and targets of links that it keeps (23): so not its write-back cache (16).
abbrev pub settled_for : ℕ → ℕ → InitReply
settled_for readahead flags = record {
  major = 7;
  minor = 31;
  readahead = min readahead 65536;
  flags = bit_and flags 0xc46021;
  background = 0;
  busy = 0;
  max_write = 65536;
  time_unit = 1000000000;
  max_pages = 16;
  map_alignment = 0;
  more_flags = 0;
}

-- to a kernel of version 7, that; to an older one, that the server has another version
abbrev pub IsInit : ℕ → ℕ → ℕ → FuseAnswer → Type 0
IsInit major readahead flags (answer_of.Init settled) = (7 ≤ major) × (settled ≡ settled_for readahead flags)
IsInit major readahead flags answer_of.OtherVersion = major < 7
IsInit major readahead flags a = IsTrue (is_refusal a)

-- bytes, at most so many
abbrev pub IsWithin : ℕ → FuseAnswer → Type 0
IsWithin most (answer_of.Bytes bytes) = length bytes.items ≤ most
IsWithin most a = IsTrue (is_refusal a)

-- bytes of entries, at most so many
abbrev pub IsPlus : Known → ℕ → FuseAnswer → Type 0
IsPlus k most (answer_of.Bytes bytes) = (length bytes.items ≤ most) × IsListed k bytes.items
IsPlus k most a = IsTrue (is_refusal a)

-- a count of bytes that were written, at most so many
abbrev pub IsCount : ℕ → FuseAnswer → Type 0
IsCount most (answer_of.Write count) = count ≤ most
IsCount most a = IsTrue (is_refusal a)

-- Which answer a request has, by what is known behind it, unless it is a sync that was done or a name that leads to nothing. A READ and a
-- READDIR tell no more bytes than were asked for, and a WRITE no more than were given.
abbrev pub IsFor : Known → Request → FuseAnswer → Type 0
IsFor k (request.Lookup name) a = IsEntry k a
IsFor k (request.Getattr flags handle) a = IsTrue (is_attributes a)
IsFor k (request.Setattr valid handle size lock_owner atime mtime ctime mode uid gid) a = IsTrue (is_attributes a)
IsFor k request.Readlink a = IsTrue (is_bytes a)
IsFor k (request.Symlink name target) a = IsEntry k a
IsFor k (request.Mknod mode device umask name) a = IsEntry k a
IsFor k (request.Mkdir mode umask name) a = IsEntry k a
IsFor k (request.Unlink name) a = IsTrue (is_done a)
IsFor k (request.Rmdir name) a = IsTrue (is_done a)
IsFor k (request.Rename new_directory old_name new_name) a = IsTrue (is_done a)
IsFor k (request.Rename2 new_directory flags old_name new_name) a = IsTrue (is_done a)
IsFor k (request.Link file name) a = IsEntry k a
IsFor k (request.Open flags open_flags) a = IsTrue (is_open a)
IsFor k (request.Read span) a = IsWithin span.count a
IsFor k (request.Write handle offset write_flags lock_owner flags bytes) a = IsCount (length bytes.now) a
IsFor k request.Statfs a = IsTrue (is_room a)
IsFor k (request.Release handle flags release_flags lock_owner) a = IsTrue (is_done a)
IsFor k (request.Init major minor readahead flags more) a = IsInit major readahead flags a
IsFor k (request.Opendir flags open_flags) a = IsTrue (is_open a)
IsFor k (request.Readdir span) a = IsWithin span.count a
IsFor k (request.Readdirplus span) a = IsPlus k span.count a
IsFor k (request.Releasedir handle flags release_flags lock_owner) a = IsTrue (is_done a)
IsFor k (request.Create flags mode umask open_flags name) a = IsCreate k a
IsFor k request.Destroy a = IsTrue (is_done a)
IsFor k r a = IsTrue (is_refusal a)

-- FSYNC and FSYNCDIR may be answered that a sync was done
abbrev pub is_sync : Request → Bool
is_sync (request.Fsync handle fsync_flags) = true
is_sync (request.Fsyncdir handle fsync_flags) = true
is_sync r = false

-- LOOKUP, that a name leads to nothing
abbrev pub is_lookup : Request → Bool
is_lookup (request.Lookup name) = true
is_lookup r = false

abbrev pub IsSaidTo : Known → Request → Said → Type 0
IsSaidTo k r (said.Plain a) = IsFor k r a
IsSaidTo k r said.Synced = IsTrue (is_sync r)
IsSaidTo k r said.Missing = IsTrue (is_lookup r)

-- The reply of an answer. Numbers of errors are Linux's: 38 where a request isn't one that is answered here, 71 where the protocol has
-- another version. Attributes may be kept for a day.
abbrev pub reply_for : FuseAnswer → Reply
reply_for (answer_of.Refused refused) = reply.Error (number_of refused)
reply_for answer_of.Unknown = reply.Error 38
reply_for answer_of.OtherVersion = reply.Error 71
reply_for answer_of.Done = reply.Done
reply_for (answer_of.Init settled) = reply.Init settled
reply_for (answer_of.Entry entry) = reply.Entry entry
reply_for (answer_of.Attributes attributes) = reply.Attributes (86400, 0) attributes
reply_for (answer_of.Open opened) = reply.Open opened
reply_for (answer_of.Create entry opened) = reply.Create entry opened
reply_for (answer_of.Write count) = reply.Write count
reply_for (answer_of.Statfs room) = reply.Statfs room
reply_for (answer_of.Bytes bytes) = reply.Bytes (at (take 65536 bytes.items))

abbrev pub reply_to : Said → Reply
reply_to (said.Plain a) = reply_for a
reply_to said.Synced = reply.Done
reply_to said.Missing = reply.Entry nothing

-- what is said to a sync: that it was done, or a refusal
abbrev pub IsOfSync : Said → Type 0
IsOfSync (said.Plain a) = IsTrue (is_refusal a)
IsOfSync said.Synced = ⊤
IsOfSync said.Missing = ⊥

-- what is said to a LOOKUP: an entry, that there is nothing, or a refusal
abbrev pub IsOfLookup : Known → Said → Type 0
IsOfLookup k (said.Plain a) = IsEntry k a
IsOfLookup k said.Synced = ⊥
IsOfLookup k said.Missing = ⊤
