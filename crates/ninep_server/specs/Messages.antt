-- What each message asks, and what is answered.
use Rattle.std.specs.Prelude.{ℕ, ◌-◌, min, pos, ℤ, Bool, true, false, List, [], ◌∷◌, take, nat_lt, Option, Some, None, if◌then◌else◌}
use Rattle.errno.specs.declared.Errno.TheVariants.{EFBIG}
use Rattle.ninep.specs.Fields.{Text, Data}
use Rattle.ninep.specs.Requests.{names_in}
use Rattle.ninep.specs.declared.request.Request.{Request}
use Rattle.ninep.specs.declared.request.Request.TheVariants as request
use Rattle.tree.specs.declared.Call.TheVariants as call
use Rattle.tree.specs.declared.Whence.TheVariants.{Set}
use Rattle.ninep_fids.specs.Told.{room_told, attributes_told}
use Rattle.talks.specs.Hearing.{target_of}
use Rattle.ninep_fids.specs.Paths.{called}
use Rattle.ninep_fids.specs.Knowledge.{Known, File, found, named, opened, has_fid, without}
use Rattle.talks.specs.Hearing.{done_in, attributes_in, position_in, bytes_in, count_in, room_in, target_in}
use Rattle.ninep_fids.specs.Plans.{Plan, Says, Changes, OrNoMemory, Drops, reply, body_said, refuses, letting_go, with_it, calls}
use Rattle.talks.specs.Plain.{at, from_root}
use Rattle.ninep_fids.specs.Nodes.{says, said_of}
use Rattle.talks.specs.declared.refused.Refused.TheVariants.{By, Stale, Unsupported}
use Rattle.talks.specs.declared.heard.Heard.{Heard}
use Rattle.ninep_fids.specs.declared.answer.NinepAnswer.TheVariants as answer
use Rattle.ninep_fids.specs.declared.answer.Said.TheVariants as said
use Rattle.ninep_server.specs.Attaching.{begins, attaching}
use Rattle.ninep_server.specs.Walks.{walks}
use Rattle.ninep_server.specs.Opens.{opens, creates, makes_directory, makes_link}
use Rattle.ninep_server.specs.Naming.{links, renames, renames_at, unlinks, removes}
use Rattle.ninep_server.specs.Settings.{sets}
use Rattle.ninep_server.specs.Listings.{lists}
use Rattle.ninep_server.specs.declared.transfer.Moved.{Moved}
use Rattle.ninep_server.specs.declared.transfer.Moved.TheVariants as moved

-- Rread
abbrev pub says_bytes : List ℕ → Plan
says_bytes bytes = Says (λ most. reply 117 (Data (take most bytes) ∷ []) most)

-- a read or a write, at the position
abbrev pub moving : ℕ → ℕ → Moved → Plan
moving session fd (moved.Read count) = calls session (call.Read fd count) (λ h. with_it (bytes_in h) says_bytes)
moving session fd (moved.Write bytes) =
    calls session (call.Write fd (at bytes.now)) (λ h. with_it (count_in h) (λ count. says (answer.Write count)))

-- first a seek, where an offset is given
abbrev pub transferring : ℕ → ℕ → Option ℤ → Moved → Plan
transferring session fd None what = moving session fd what
transferring session fd (Some offset) what =
    calls session (call.Seek fd Set offset) (λ h. with_it (position_in h) (λ _. moving session fd what))

-- Tread: at most so many bytes from the offset on, and at most what an answer and a read of the server may have; past the largest offset
-- none
abbrev pub reading : Known → ℕ → ℕ → ℕ → Plan
reading k fid offset count = with_it (opened k.fids fid) (λ file.
    if nat_lt 2147483647 offset then says_bytes []
    else transferring file.0 file.1 (Some (pos offset)) (moved.Read (min (min count (k.message_size - 24)) 65536)))

-- Twrite: at most as many bytes as a write of the server takes
abbrev pub writing : Known → ℕ → ℕ → List ℕ → Plan
writing k fid offset bytes = with_it (opened k.fids fid) (λ file.
    if nat_lt 2147483647 offset then refuses (By EFBIG)
    else transferring file.0 file.1 (Some (pos offset)) (moved.Write (at (take 65536 bytes))))

-- Tgetattr: by the descriptor of an open fid, else by its path
abbrev pub looking : ℕ → List ℕ → Option ℕ → Plan
looking session path None =
    calls session (call.Lstat (from_root (called path))) (λ h. with_it (attributes_in h) (λ a. says (answer.Getattr (attributes_told a))))
looking session path (Some fd) =
    calls session (call.Fstat fd) (λ h. with_it (attributes_in h) (λ a. says (answer.Getattr (attributes_told a))))

abbrev pub attributes_of : File → Option ℕ → Bool → Plan
attributes_of file None true = refuses Stale
attributes_of file None false = OrNoMemory (looking file.user.session file.path None)
attributes_of file (Some fd) gone = OrNoMemory (looking file.user.session file.path (Some fd))

abbrev pub telling : Known → ℕ → Plan
telling k fid = with_it (found k.fids fid) (λ file. attributes_of file file.descriptor file.gone)

-- Tfsync: Rfsync behind a sync that was done
abbrev pub synced : Heard → Plan
synced h = with_it (done_in h) (λ _. Says (body_said said.Synced))

abbrev pub syncing : ℕ → Plan
syncing session = calls session call.Sync synced

-- Tclunk: the fid is let go; with the last fid of a user that one's session ends
abbrev pub clunking : Known → ℕ → Plan
clunking k fid = with_it (found k.fids fid)
    (λ file. Changes (Drops fid file.user.uid) (letting_go (has_fid (without k.fids fid) file.user.uid) file.user.session
    file.descriptor (said_of answer.Clunk)))

-- Tstatfs
abbrev pub measuring : ℕ → Plan
measuring session = calls session call.Statfs (λ h. with_it (room_in h) (λ room. says (answer.Statfs (room_told room))))

abbrev pub reading_link : ℕ → List ℕ → Plan
reading_link session path = calls session (call.Readlink (from_root (called path))) (λ h. with_it (target_in h)
    (λ target. OrNoMemory (Says (λ most. reply 23 (Text (take 1023 (target_of target)) ∷ []) most))))

abbrev pub following : Known → ℕ → Plan
following k fid = with_it (named k.fids fid) (λ file. OrNoMemory (reading_link file.user.session file.path))

-- Of an open file, or one that is opened. Tlock is granted, and Tgetlock finds none.
abbrev pub of_file : Known → Request → Plan
of_file k (request.Open fid flags) = opens k fid flags
of_file k (request.Create fid name flags mode gid) = creates k fid name.now flags mode gid
of_file k (request.Read fid offset count) = reading k fid offset count
of_file k (request.Write fid offset bytes) = writing k fid offset bytes.now
of_file k (request.Readdir fid offset count) = lists k fid offset count
of_file k (request.Lock fid kind flags start length process client) = with_it (opened k.fids fid) (λ _. says answer.Lock)
of_file k (request.Getlock fid kind start length process client) =
    with_it (opened k.fids fid) (λ _. says (answer.Getlock start length process))
of_file k r = refuses Unsupported

-- of a name
abbrev pub of_name : Known → Request → Plan
of_name k (request.Symlink directory name target gid) = makes_link k directory name.now target.now
of_name k (request.Mkdir directory name mode gid) = makes_directory k directory name.now mode gid
of_name k (request.Link directory fid name) = links k directory fid name.now
of_name k (request.Rename fid directory name) = renames k fid directory name.now
of_name k (request.Renameat old_directory old_name new_directory new_name) =
    renames_at k old_directory old_name.now new_directory new_name.now
of_name k (request.Unlinkat directory name flags) = unlinks k directory name.now flags
of_name k r = of_file k r

-- of a node
abbrev pub of_node : Known → ℕ → Request → Plan
of_node k now (request.Getattr fid mask) = telling k fid
of_node k now (request.Setattr fid valid mode uid gid size atime mtime) = sets k fid (record {
  valid = valid;
  mode = mode;
  uid = uid;
  gid = gid;
  size = size;
  atime = atime.0;
  mtime = mtime.0;
  now = now;
})
of_node k now (request.Readlink fid) = following k fid
of_node k now (request.Statfs fid) = with_it (found k.fids fid) (λ file. measuring file.user.session)
of_node k now r = of_name k r

-- of fids that are made or let go
abbrev pub of_fid : Known → ℕ → Request → Plan
of_fid k now (request.Version message_size version) = begins message_size version.now
of_fid k now (request.Attach fid auth_fid user_name tree uid) = attaching k fid uid
of_fid k now (request.Walk fid new_fid names) = walks k fid new_fid (names_in names)
of_fid k now (request.Clunk fid) = clunking k fid
of_fid k now (request.Remove fid) = removes k fid
of_fid k now (request.Flush old_tag) = says answer.Flush
of_fid k now r = of_node k now r

-- How a request is answered, by what is known and at this time, in seconds since 1970.
abbrev pub plan_of : Known → ℕ → Request → Plan
plan_of k now (request.Fsync fid data_only) = with_it (found k.fids fid) (λ file. syncing file.user.session)
plan_of k now r = of_fid k now r
