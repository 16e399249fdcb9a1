-- Requests, by their opcodes and fields.
use Rattle.std.specs.Prelude.{◌≡◌, ℕ, zero, suc, ◌+◌, ◌*◌, ◌<◌, ◌^◌, List, [], ◌∷◌}
use Rattle.std.specs.Prelude.{◌++◌, length, map, take, drop, get_or, Option, Some, None, MatchOption, if◌then◌else◌, ◌==◌}
use Rattle.std.specs.List.{AllByRecursion}
use Rattle.std.specs.Int.{w64, from_le_bytes}
use Rattle.fields.specs.Fields.{Four, Eight, Kind, IsNumber, IsUnused, IsName, Field, Number, Unused, Name, kind_of, seen}
use Rattle.fields.specs.Fields.{number_bytes, fields_bytes, Fits}
use Rattle.fuse.specs.declared.forgets.Forgets.{Forgets}
use Rattle.fuse.specs.declared.request.Span.{Span}
use Rattle.fuse.specs.declared.request.Request.{Request}
use Rattle.fuse.specs.declared.request.Request.TheVariants as request
use Rattle.fuse.specs.declared.request.Message.{Message}

abbrev u32 : Kind
u32 = IsNumber Four

abbrev u64 : Kind
u64 = IsNumber Eight

-- four bytes that say nothing
abbrev unused : Kind
unused = IsUnused Four

-- so many nodes with their counts
abbrev pub pairs_at : ℕ → List ℕ → List (ℕ × ℕ)
pairs_at zero bytes = []
pairs_at (suc n) bytes =
    (from_le_bytes w64 (take 8 bytes), from_le_bytes w64 (take 8 (drop 8 bytes))) ∷ pairs_at n (drop 8 (drop 8 bytes))

-- the nodes that are forgotten, each with its count
abbrev pub forgotten : Forgets → List (ℕ × ℕ)
forgotten nodes = pairs_at nodes.count nodes.bytes.now

abbrev pub span_kinds : List Kind
span_kinds = u64 ∷ u64 ∷ u32 ∷ u32 ∷ u64 ∷ u32 ∷ unused ∷ []

abbrev pub span_fields : Span → List Field
span_fields span =
    Number Eight span.handle ∷ Number Eight span.offset ∷ Number Four span.count ∷ Number Four span.read_flags
    ∷ Number Eight span.lock_owner ∷ Number Four span.flags ∷ Unused Four 0 ∷ []

-- the opcodes of requests, and the kinds of their fields
abbrev pub kinds_of : ℕ → Option (List Kind)
kinds_of opcode =
    if opcode == 1 then Some (IsName ∷ [])
    else if opcode == 2 then Some (u64 ∷ [])
    else if opcode == 3 then Some (u32 ∷ unused ∷ u64 ∷ [])
    else if opcode == 4 then Some (
    u32 ∷ unused ∷ u64 ∷ u64 ∷ u64 ∷ u64 ∷ u64 ∷ u64 ∷ u32 ∷ u32 ∷ u32 ∷ u32 ∷ unused ∷ u32 ∷ u32 ∷ unused ∷ [])
    else if opcode == 5 then Some []
    else if opcode == 6 then Some (IsName ∷ IsName ∷ [])
    else if opcode == 8 then Some (u32 ∷ u32 ∷ u32 ∷ unused ∷ IsName ∷ [])
    else if opcode == 9 then Some (u32 ∷ u32 ∷ IsName ∷ [])
    else if opcode == 10 then Some (IsName ∷ [])
    else if opcode == 11 then Some (IsName ∷ [])
    else if opcode == 12 then Some (u64 ∷ IsName ∷ IsName ∷ [])
    else if opcode == 13 then Some (u64 ∷ IsName ∷ [])
    else if opcode == 14 then Some (u32 ∷ u32 ∷ [])
    else if opcode == 15 then Some span_kinds
    else if opcode == 16 then Some (u64 ∷ u64 ∷ u32 ∷ u32 ∷ u64 ∷ u32 ∷ unused ∷ [])
    else if opcode == 17 then Some []
    else if opcode == 18 then Some (u64 ∷ u32 ∷ u32 ∷ u64 ∷ [])
    else if opcode == 20 then Some (u64 ∷ u32 ∷ unused ∷ [])
    else if opcode == 25 then Some (u64 ∷ unused ∷ unused ∷ u64 ∷ [])
    else if opcode == 26 then Some (u32 ∷ u32 ∷ u32 ∷ u32 ∷ [])
    else if opcode == 27 then Some (u32 ∷ u32 ∷ [])
    else if opcode == 28 then Some span_kinds
    else if opcode == 29 then Some (u64 ∷ u32 ∷ u32 ∷ u64 ∷ [])
    else if opcode == 30 then Some (u64 ∷ u32 ∷ unused ∷ [])
    else if opcode == 34 then Some (u32 ∷ unused ∷ [])
    else if opcode == 35 then Some (u32 ∷ u32 ∷ u32 ∷ u32 ∷ IsName ∷ [])
    else if opcode == 36 then Some (u64 ∷ [])
    else if opcode == 38 then Some []
    else if opcode == 42 then Some (u32 ∷ unused ∷ [])
    else if opcode == 44 then Some span_kinds
    else if opcode == 45 then Some (u64 ∷ u32 ∷ unused ∷ IsName ∷ IsName ∷ [])
    else None

-- a request's opcode, its fields, and the bytes behind these
pub record Body : Type 0 where
  pub opcode : ℕ
  pub fields : List Field
  pub tail : List ℕ

-- the number that a field is
abbrev pub number_in : Field → ℕ
number_in (Number size n) = n
number_in (Unused size n) = 0
number_in (Name bytes) = 0

abbrev pub number_at_place : ℕ → List Field → ℕ
number_at_place place fields = number_in (get_or fields place (Number Four 0))

-- How many bytes stand behind the fields, where so many are left: the data of WRITE, whose size is its third field; 16 for each node of
-- BATCH_FORGET, whose number is its first; behind INIT none, or the 48 of 7.36 and later.
abbrev pub tail_length : ℕ → List Field → ℕ → ℕ
tail_length opcode fields left =
    if opcode == 16 then number_at_place 2 fields
    else if opcode == 42 then 16 * number_at_place 0 fields
    else if opcode == 26 then (if left == 0 then 0 else 48)
    else 0

abbrev pub body_of : Request → Body
body_of (request.Lookup name) = record { opcode = 1; fields = Name name.now ∷ []; tail = [] }
body_of (request.Forget count) = record { opcode = 2; fields = Number Eight count ∷ []; tail = [] }
body_of (request.Getattr flags handle) =
    record { opcode = 3; fields = Number Four flags ∷ Unused Four 0 ∷ Number Eight handle ∷ []; tail = [] }
body_of (request.Setattr valid handle size lock_owner atime mtime ctime mode uid gid) = record {
  opcode = 4;
  fields = Number Four valid ∷ Unused Four 0 ∷ Number Eight handle ∷ Number Eight size ∷ Number Eight lock_owner ∷ Number Eight atime.0
      ∷ Number Eight mtime.0 ∷ Number Eight ctime.0 ∷ Number Four atime.1 ∷ Number Four mtime.1 ∷ Number Four ctime.1 ∷ Number Four mode
      ∷ Unused Four 0 ∷ Number Four uid ∷ Number Four gid ∷ Unused Four 0 ∷ [];
  tail = [];
}
body_of request.Readlink = record { opcode = 5; fields = []; tail = [] }
body_of (request.Symlink name target) = record { opcode = 6; fields = Name name.now ∷ Name target.now ∷ []; tail = [] }
body_of (request.Mknod mode device umask name) = record {
  opcode = 8;
  fields = Number Four mode ∷ Number Four device ∷ Number Four umask ∷ Unused Four 0 ∷ Name name.now ∷ [];
  tail = [];
}
body_of (request.Mkdir mode umask name) =
    record { opcode = 9; fields = Number Four mode ∷ Number Four umask ∷ Name name.now ∷ []; tail = [] }
body_of (request.Unlink name) = record { opcode = 10; fields = Name name.now ∷ []; tail = [] }
body_of (request.Rmdir name) = record { opcode = 11; fields = Name name.now ∷ []; tail = [] }
body_of (request.Rename new_directory old_name new_name) =
    record { opcode = 12; fields = Number Eight new_directory ∷ Name old_name.now ∷ Name new_name.now ∷ []; tail = [] }
body_of (request.Link file name) = record { opcode = 13; fields = Number Eight file ∷ Name name.now ∷ []; tail = [] }
body_of (request.Open flags open_flags) = record { opcode = 14; fields = Number Four flags ∷ Number Four open_flags ∷ []; tail = [] }
body_of (request.Read span) = record { opcode = 15; fields = span_fields span; tail = [] }
body_of (request.Write handle offset write_flags lock_owner flags bytes) = record {
  opcode = 16;
  fields = Number Eight handle ∷ Number Eight offset ∷ Number Four (length bytes.now) ∷ Number Four write_flags ∷ Number Eight lock_owner
      ∷ Number Four flags ∷ Unused Four 0 ∷ [];
  tail = bytes.now;
}
body_of request.Statfs = record { opcode = 17; fields = []; tail = [] }
body_of (request.Release handle flags release_flags lock_owner) = record {
  opcode = 18;
  fields = Number Eight handle ∷ Number Four flags ∷ Number Four release_flags ∷ Number Eight lock_owner ∷ [];
  tail = [];
}
body_of (request.Fsync handle fsync_flags) =
    record { opcode = 20; fields = Number Eight handle ∷ Number Four fsync_flags ∷ Unused Four 0 ∷ []; tail = [] }
body_of (request.Flush handle lock_owner) =
    record { opcode = 25; fields = Number Eight handle ∷ Unused Four 0 ∷ Unused Four 0 ∷ Number Eight lock_owner ∷ []; tail = [] }
body_of (request.Init major minor readahead flags more) =
    record { opcode = 26; fields = Number Four major ∷ Number Four minor ∷ Number Four readahead ∷ Number Four flags ∷ []; tail = more.now }
body_of (request.Opendir flags open_flags) = record { opcode = 27; fields = Number Four flags ∷ Number Four open_flags ∷ []; tail = [] }
body_of (request.Readdir span) = record { opcode = 28; fields = span_fields span; tail = [] }
body_of (request.Releasedir handle flags release_flags lock_owner) = record {
  opcode = 29;
  fields = Number Eight handle ∷ Number Four flags ∷ Number Four release_flags ∷ Number Eight lock_owner ∷ [];
  tail = [];
}
body_of (request.Fsyncdir handle fsync_flags) =
    record { opcode = 30; fields = Number Eight handle ∷ Number Four fsync_flags ∷ Unused Four 0 ∷ []; tail = [] }
body_of (request.Access mask) = record { opcode = 34; fields = Number Four mask ∷ Unused Four 0 ∷ []; tail = [] }
body_of (request.Create flags mode umask open_flags name) = record {
  opcode = 35;
  fields = Number Four flags ∷ Number Four mode ∷ Number Four umask ∷ Number Four open_flags ∷ Name name.now ∷ [];
  tail = [];
}
body_of (request.Interrupt unique) = record { opcode = 36; fields = Number Eight unique ∷ []; tail = [] }
body_of request.Destroy = record { opcode = 38; fields = []; tail = [] }
body_of (request.BatchForget nodes) = record { opcode = 42; fields = Number Four nodes.count ∷ Unused Four 0 ∷ []; tail = nodes.bytes.now }
body_of (request.Readdirplus span) = record { opcode = 44; fields = span_fields span; tail = [] }
body_of (request.Rename2 new_directory flags old_name new_name) = record {
  opcode = 45;
  fields = Number Eight new_directory ∷ Number Four flags ∷ Unused Four 0 ∷ Name old_name.now ∷ Name new_name.now ∷ [];
  tail = [];
}
body_of (request.Unknown opcode body) = record { opcode = opcode; fields = []; tail = body.now }

-- a request with the fields of its head that tell who asks: unique, node, uid, gid, pid, and four bytes that say nothing
pub record Asked : Type 0 where
  pub asker : List Field
  pub body : Body

abbrev pub asker_kinds : List Kind
asker_kinds = u64 ∷ u64 ∷ u32 ∷ u32 ∷ u32 ∷ unused ∷ []

abbrev pub asker_fields : ℕ → ℕ → ℕ → ℕ → ℕ → List Field
asker_fields unique node uid gid pid =
    Number Eight unique ∷ Number Eight node ∷ Number Four uid ∷ Number Four gid ∷ Number Four pid ∷ Unused Four 0 ∷ []

abbrev pub view : Message → Asked
view m = record { asker = asker_fields m.unique m.node m.uid m.gid m.pid; body = body_of m.request }

-- a request as its reader sees it: whatever says nothing is 0
abbrev pub as_seen : Asked → Asked
as_seen m = record {
  asker = map seen m.asker;
  body = record { opcode = m.body.opcode; fields = map seen m.body.fields; tail = m.body.tail };
}

abbrev pub body_bytes : Body → List ℕ
body_bytes body = fields_bytes body.fields ++ body.tail

-- the bytes behind the length
abbrev pub rest_bytes : Asked → List ℕ
rest_bytes m = number_bytes Four m.body.opcode ++ (fields_bytes m.asker ++ body_bytes m.body)

-- The bytes of a request. The length counts its own four bytes.
abbrev pub spelling : Asked → List ℕ
spelling m = number_bytes Four (4 + length (rest_bytes m)) ++ rest_bytes m

-- the fields are those of the opcode, and so is what stands behind them; of one that isn't known anything may stand there
abbrev pub IsBody : Body → Type 0
IsBody body = MatchOption (kinds_of body.opcode) (body.fields ≡ [])
    (λ kinds. (map kind_of body.fields ≡ kinds) × (length body.tail ≡ tail_length body.opcode body.fields (length body.tail)))

-- a request: its fields are those of its opcode, each fits, and so does the length
pub record IsRequest (m : Asked) : Type 0 where
  pub asker : map kind_of m.asker ≡ asker_kinds
  pub asker_fits : AllByRecursion Fits m.asker
  pub body : IsBody m.body
  pub fields_fit : AllByRecursion Fits m.body.fields
  pub opcode : m.body.opcode < 2 ^ 32
  pub size : 4 + length (rest_bytes m) < 2 ^ 32
