-- Requests, by their types and fields.
use Rattle.std.specs.Prelude.{◌≡◌, ℕ, ◌+◌, ◌<◌, ◌^◌, List, [], ◌∷◌, ◌++◌, length, map, Option, Some, None, if◌then◌else◌, ◌==◌}
use Rattle.std.specs.List.{AllByRecursion}
use Rattle.ninep.specs.Fields.{One, Two, Four, Eight, Kind, IsNumber, IsText, IsData, AreNames, Field, Number, Text, Data, Names, kind_of}
use Rattle.ninep.specs.Fields.{number_bytes, fields_bytes, Fits}
use Rattle.ninep.specs.Parts.{texts_at, texts_or_none}
use Rattle.ninep.specs.declared.names.Names.{Names as NamesOf}
use Rattle.ninep.specs.declared.request.Request.{Request}
use Rattle.ninep.specs.declared.request.Request.TheVariants as request
use Rattle.ninep.specs.declared.request.Message.{Message}

abbrev u8 : Kind
u8 = IsNumber One

abbrev u16 : Kind
u16 = IsNumber Two

abbrev u32 : Kind
u32 = IsNumber Four

abbrev u64 : Kind
u64 = IsNumber Eight

-- the names of a walk
abbrev pub names_in : NamesOf → List (List ℕ)
names_in names = texts_or_none (texts_at names.count names.bytes.now)

-- the types of requests, and the kinds of their fields
abbrev pub kinds_of : ℕ → Option (List Kind)
kinds_of number =
    if number == 8 then Some (u32 ∷ [])
    else if number == 12 then Some (u32 ∷ u32 ∷ [])
    else if number == 14 then Some (u32 ∷ IsText ∷ u32 ∷ u32 ∷ u32 ∷ [])
    else if number == 16 then Some (u32 ∷ IsText ∷ IsText ∷ u32 ∷ [])
    else if number == 18 then Some (u32 ∷ IsText ∷ u32 ∷ u32 ∷ u32 ∷ u32 ∷ [])
    else if number == 20 then Some (u32 ∷ u32 ∷ IsText ∷ [])
    else if number == 22 then Some (u32 ∷ [])
    else if number == 24 then Some (u32 ∷ u64 ∷ [])
    else if number == 26 then Some (u32 ∷ u32 ∷ u32 ∷ u32 ∷ u32 ∷ u64 ∷ u64 ∷ u64 ∷ u64 ∷ u64 ∷ [])
    else if number == 30 then Some (u32 ∷ u32 ∷ IsText ∷ [])
    else if number == 32 then Some (u32 ∷ IsText ∷ u64 ∷ u32 ∷ [])
    else if number == 40 then Some (u32 ∷ u64 ∷ u32 ∷ [])
    else if number == 50 then Some (u32 ∷ u32 ∷ [])
    else if number == 52 then Some (u32 ∷ u8 ∷ u32 ∷ u64 ∷ u64 ∷ u32 ∷ IsText ∷ [])
    else if number == 54 then Some (u32 ∷ u8 ∷ u64 ∷ u64 ∷ u32 ∷ IsText ∷ [])
    else if number == 70 then Some (u32 ∷ u32 ∷ IsText ∷ [])
    else if number == 72 then Some (u32 ∷ IsText ∷ u32 ∷ u32 ∷ [])
    else if number == 74 then Some (u32 ∷ IsText ∷ u32 ∷ IsText ∷ [])
    else if number == 76 then Some (u32 ∷ IsText ∷ u32 ∷ [])
    else if number == 100 then Some (u32 ∷ IsText ∷ [])
    else if number == 102 then Some (u32 ∷ IsText ∷ IsText ∷ u32 ∷ [])
    else if number == 104 then Some (u32 ∷ u32 ∷ IsText ∷ IsText ∷ u32 ∷ [])
    else if number == 108 then Some (u16 ∷ [])
    else if number == 110 then Some (u32 ∷ u32 ∷ AreNames ∷ [])
    else if number == 116 then Some (u32 ∷ u64 ∷ u32 ∷ [])
    else if number == 118 then Some (u32 ∷ u64 ∷ IsData ∷ [])
    else if number == 120 then Some (u32 ∷ [])
    else if number == 122 then Some (u32 ∷ [])
    else None

-- a request's type and fields
pub record Body : Type 0 where
  pub number : ℕ
  pub fields : List Field

abbrev pub body_of : Request → Body
body_of (request.Statfs fid) = record { number = 8; fields = Number Four fid ∷ [] }
body_of (request.Open fid flags) = record { number = 12; fields = Number Four fid ∷ Number Four flags ∷ [] }
body_of (request.Create fid name flags mode gid) =
    record { number = 14; fields = Number Four fid ∷ Text name.now ∷ Number Four flags ∷ Number Four mode ∷ Number Four gid ∷ [] }
body_of (request.Symlink directory name target gid) =
    record { number = 16; fields = Number Four directory ∷ Text name.now ∷ Text target.now ∷ Number Four gid ∷ [] }
body_of (request.Mknod directory name mode major minor gid) = record {
  number = 18;
  fields = Number Four directory ∷ Text name.now ∷ Number Four mode ∷ Number Four major ∷ Number Four minor ∷ Number Four gid ∷ [];
}
body_of (request.Rename fid directory name) = record { number = 20; fields = Number Four fid ∷ Number Four directory ∷ Text name.now ∷ [] }
body_of (request.Readlink fid) = record { number = 22; fields = Number Four fid ∷ [] }
body_of (request.Getattr fid mask) = record { number = 24; fields = Number Four fid ∷ Number Eight mask ∷ [] }
body_of (request.Setattr fid valid mode uid gid size atime mtime) = record {
  number = 26;
  fields = Number Four fid ∷ Number Four valid ∷ Number Four mode ∷ Number Four uid ∷ Number Four gid ∷ Number Eight size
      ∷ Number Eight atime.0 ∷ Number Eight atime.1 ∷ Number Eight mtime.0 ∷ Number Eight mtime.1 ∷ [];
}
body_of (request.Xattrwalk fid new_fid name) = record { number = 30; fields = Number Four fid ∷ Number Four new_fid ∷ Text name.now ∷ [] }
body_of (request.Xattrcreate fid name size flags) =
    record { number = 32; fields = Number Four fid ∷ Text name.now ∷ Number Eight size ∷ Number Four flags ∷ [] }
body_of (request.Readdir fid offset count) = record { number = 40; fields = Number Four fid ∷ Number Eight offset ∷ Number Four count ∷ [] }
body_of (request.Fsync fid data_only) = record { number = 50; fields = Number Four fid ∷ Number Four data_only ∷ [] }
body_of (request.Lock fid kind flags start length process client) = record {
  number = 52;
  fields = Number Four fid ∷ Number One kind ∷ Number Four flags ∷ Number Eight start ∷ Number Eight length ∷ Number Four process
      ∷ Text client.now ∷ [];
}
body_of (request.Getlock fid kind start length process client) = record {
  number = 54;
  fields = Number Four fid ∷ Number One kind ∷ Number Eight start ∷ Number Eight length ∷ Number Four process ∷ Text client.now ∷ [];
}
body_of (request.Link directory fid name) = record { number = 70; fields = Number Four directory ∷ Number Four fid ∷ Text name.now ∷ [] }
body_of (request.Mkdir directory name mode gid) =
    record { number = 72; fields = Number Four directory ∷ Text name.now ∷ Number Four mode ∷ Number Four gid ∷ [] }
body_of (request.Renameat old_directory old_name new_directory new_name) = record {
  number = 74;
  fields = Number Four old_directory ∷ Text old_name.now ∷ Number Four new_directory ∷ Text new_name.now ∷ [];
}
body_of (request.Unlinkat directory name flags) =
    record { number = 76; fields = Number Four directory ∷ Text name.now ∷ Number Four flags ∷ [] }
body_of (request.Version message_size version) = record { number = 100; fields = Number Four message_size ∷ Text version.now ∷ [] }
body_of (request.Auth auth_fid user_name tree uid) =
    record { number = 102; fields = Number Four auth_fid ∷ Text user_name.now ∷ Text tree.now ∷ Number Four uid ∷ [] }
body_of (request.Attach fid auth_fid user_name tree uid) = record {
  number = 104;
  fields = Number Four fid ∷ Number Four auth_fid ∷ Text user_name.now ∷ Text tree.now ∷ Number Four uid ∷ [];
}
body_of (request.Flush old_tag) = record { number = 108; fields = Number Two old_tag ∷ [] }
body_of (request.Walk fid new_fid names) =
    record { number = 110; fields = Number Four fid ∷ Number Four new_fid ∷ Names (names_in names) ∷ [] }
body_of (request.Read fid offset count) = record { number = 116; fields = Number Four fid ∷ Number Eight offset ∷ Number Four count ∷ [] }
body_of (request.Write fid offset bytes) = record { number = 118; fields = Number Four fid ∷ Number Eight offset ∷ Data bytes.now ∷ [] }
body_of (request.Clunk fid) = record { number = 120; fields = Number Four fid ∷ [] }
body_of (request.Remove fid) = record { number = 122; fields = Number Four fid ∷ [] }

-- a request with its tag
pub record Tagged : Type 0 where
  pub tag : ℕ
  pub body : Body

abbrev pub view : Message → Tagged
view m = record { tag = m.tag; body = body_of m.request }

-- the bytes behind the size: the type, the tag, and the fields
abbrev pub rest_bytes : Tagged → List ℕ
rest_bytes m = number_bytes One m.body.number ++ (number_bytes Two m.tag ++ fields_bytes m.body.fields)

-- The bytes of a request. The size counts its own four bytes.
abbrev pub spelling : Tagged → List ℕ
spelling m = number_bytes Four (4 + length (rest_bytes m)) ++ rest_bytes m

-- a request: its fields are those of its type, each fits, and so does the size
pub record IsRequest (m : Tagged) : Type 0 where
  pub kinds : kinds_of m.body.number ≡ Some (map kind_of m.body.fields)
  pub fields : AllByRecursion Fits m.body.fields
  pub number : m.body.number < 2 ^ 8
  pub tag : m.tag < 2 ^ 16
  pub size : 4 + length (rest_bytes m) < 2 ^ 32
