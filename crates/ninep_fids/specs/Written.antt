-- The bytes of what is said to a message.
use Rattle.std.specs.Prelude.{◌≡◌, ◌≤◌, ◌<◌, ◌⊎◌, ℕ, ◌+◌, ◌-◌, Bool, List, [], ◌∷◌, ◌++◌, length, take, slice_index, codes, if◌then◌else◌}
use Rattle.std.specs.List.{flat_map}
use Rattle.std.specs.Int.{w16, from_le_bytes}
use Rattle.errno.specs.declared.Errno.TheVariants.{EIO}
use Rattle.ninep.specs.Fields.{One, Two, Four, Eight, Field, Number, Text, Data, fields_bytes}
use Rattle.ninep.specs.Requests.{Tagged, spelling}
use Rattle.ninep.specs.Replies.{qid_fields, room_fields, attribute_fields}
use Rattle.ninep.specs.declared.reply.Qid.{Qid}
use Rattle.talks.specs.Numbers.{number_of}
use Rattle.talks.specs.declared.refused.Refused.TheVariants.{By}
use Rattle.ninep_fids.specs.declared.answer.NinepAnswer.{NinepAnswer}
use Rattle.ninep_fids.specs.declared.answer.NinepAnswer.TheVariants as answer
use Rattle.ninep_fids.specs.declared.answer.Said.{Said}
use Rattle.ninep_fids.specs.declared.answer.Said.TheVariants as said

-- the tag of a message: its bytes five and six, counted from 0
abbrev pub tag_in : List ℕ → ℕ
tag_in bytes = from_le_bytes w16 (slice_index bytes 5 ∷ slice_index bytes 6 ∷ [])

-- the type of an answer
abbrev pub answer_number : NinepAnswer → ℕ
answer_number (answer.Refused refused) = 7
answer_number (answer.Statfs room) = 9
answer_number (answer.Open qid) = 13
answer_number (answer.Create qid) = 15
answer_number (answer.Symlink qid) = 17
answer_number answer.Rename = 21
answer_number (answer.Readlink target) = 23
answer_number (answer.Getattr attributes) = 25
answer_number answer.Setattr = 27
answer_number (answer.Readdir entries) = 41
answer_number answer.Lock = 53
answer_number (answer.Getlock start len process) = 55
answer_number answer.Link = 71
answer_number (answer.Mkdir qid) = 73
answer_number answer.Renameat = 75
answer_number answer.Unlinkat = 77
answer_number (answer.Version message_size known) = 101
answer_number (answer.Attach qid) = 105
answer_number answer.Flush = 109
answer_number (answer.Walk qids) = 111
answer_number (answer.Read bytes) = 117
answer_number (answer.Write count) = 119
answer_number answer.Clunk = 121
answer_number answer.Remove = 123

-- the type of what is said
abbrev pub said_number : Said → ℕ
said_number (said.Plain a) = answer_number a
said_number said.Synced = 51

-- the name of the version that is spoken
abbrev pub version_text : Bool → List ℕ
version_text known = if known then codes "9P2000.L" else codes "unknown"

-- the qids of a walk: at most sixteen
abbrev pub walked : List Qid → List Qid
walked qids = take 16 qids

-- The fields of an answer, where data and texts have at most so many bytes.
abbrev pub answer_fields : ℕ → NinepAnswer → List Field
answer_fields most (answer.Refused refused) = Number Four (number_of refused) ∷ []
answer_fields most (answer.Statfs room) = room_fields room
answer_fields most (answer.Open qid) = qid_fields qid ++ Number Four 0 ∷ []
answer_fields most (answer.Create qid) = qid_fields qid ++ Number Four 0 ∷ []
answer_fields most (answer.Symlink qid) = qid_fields qid
answer_fields most answer.Rename = []
answer_fields most (answer.Readlink target) = Text (take 1023 target.items) ∷ []
answer_fields most (answer.Getattr attributes) = attribute_fields attributes
answer_fields most answer.Setattr = []
answer_fields most (answer.Readdir entries) = Data (take most entries.items) ∷ []
answer_fields most answer.Lock = Number One 0 ∷ []
answer_fields most (answer.Getlock start len process) =
    Number One 2 ∷ Number Eight start ∷ Number Eight len ∷ Number Four process ∷ Text [] ∷ []
answer_fields most answer.Link = []
answer_fields most (answer.Mkdir qid) = qid_fields qid
answer_fields most answer.Renameat = []
answer_fields most answer.Unlinkat = []
answer_fields most (answer.Version message_size known) = Number Four message_size ∷ Text (version_text known) ∷ []
answer_fields most (answer.Attach qid) = qid_fields qid
answer_fields most answer.Flush = []
answer_fields most (answer.Walk qids) = Number Two (length (walked qids.items)) ∷ flat_map qid_fields (walked qids.items)
answer_fields most (answer.Read bytes) = Data (take most bytes.items) ∷ []
answer_fields most (answer.Write count) = Number Four count ∷ []
answer_fields most answer.Clunk = []
answer_fields most answer.Remove = []

abbrev pub said_fields : ℕ → Said → List Field
said_fields most (said.Plain a) = answer_fields most a
said_fields most said.Synced = []

-- what is said, with the tag of its message, where a message has at most so many bytes
abbrev pub told : ℕ → ℕ → Said → Tagged
told limit tag s = record { tag = tag; body = record { number = said_number s; fields = said_fields (limit - 24) s } }

-- what is said where an answer is longer than a message may be
abbrev pub too_long : Said
too_long = said.Plain (answer.Refused (By EIO))

-- how many bytes that has: its size, its type and its tag are seven
abbrev pub size_told : ℕ → Said → ℕ
size_told limit s = 7 + length (fields_bytes (said_fields (limit - 24) s))

-- one message more, of at most so many bytes: this is said
abbrev pub IsWritten : ℕ → ℕ → Said → List ℕ → List ℕ → Type 0
IsWritten limit tag s old new = (new ≡ old ++ spelling (told limit tag s)) × (size_told limit s ≤ limit)

-- this is said, or that it has more bytes than a message may have
abbrev pub IsSaidIn : ℕ → ℕ → Said → List ℕ → List ℕ → Type 0
IsSaidIn limit tag s old new = IsWritten limit tag s old new ⊎ ((limit < size_told limit s) × IsWritten limit tag too_long old new)
