-- Replies: which are refusals, and how many bytes they have.
use Rattle.std.proofs.Common.{◌≡◌, ◌≤◌, ◌<◌, ℕ, List, [], ◌∷◌, ◌++◌, length, ap, ◌∙◌, arith, lit<}
use Rattle.std.proofs.lemmas.List.{append-nil, length-append}
use Rattle.std.specs.Borrow.{Bor}
use Rattle.errno.specs.declared.Errno.TheVariants as errno
use Rattle.fields.specs.Fields.{Four, Eight, Field, Number, fields_bytes}
use Rattle.fields.proofs.WritingLaws.{total_length, fields_length}
use Rattle.fuse.specs.declared.reply.Attributes.{Attributes}
use Rattle.fuse.specs.declared.reply.Entry.{Entry}
use Rattle.fuse.specs.declared.reply.Opened.{Opened}
use Rattle.fuse.specs.declared.reply.StatfsReply.{StatfsReply}
use Rattle.fuse.specs.declared.reply.InitReply.{InitReply}
use Rattle.fuse.specs.declared.reply.Reply.{Reply}
use Rattle.fuse.specs.declared.reply.Reply.TheVariants as reply
use Rattle.fuse.specs.Replies.{attribute_fields, name_fields, entry_fields, valid_fields, opened_fields, room_fields, init_fields}
use Rattle.fuse.specs.Replies.{IsReply, reply_bytes, size_of, error_of, answer}
use Rattle.talks.specs.Numbers.{number_of}
use Rattle.talks.specs.Plain.{at}
use Rattle.talks.specs.declared.refused.Refused.{Refused}
use Rattle.talks.specs.declared.refused.Refused.TheVariants.{By, Stale, Unsupported}
use Rattle.fuse_server.specs.declared.said.FuseAnswer.{FuseAnswer}
use Rattle.fuse_server.specs.declared.said.FuseAnswer.TheVariants as answer_of
use Rattle.fuse_server.specs.declared.said.Said.{Said}
use Rattle.fuse_server.specs.declared.said.Said.TheVariants as said
use Rattle.fuse_server.specs.Kinds.{reply_for, reply_to}

-- the kernel takes the number of each refusal
pub number_fits : (r : Refused) → (0 < number_of r) × (number_of r < 512)
number_fits (By errno.EPERM) = (lit< tt, lit< tt)
number_fits (By errno.ENOENT) = (lit< tt, lit< tt)
number_fits (By errno.EIO) = (lit< tt, lit< tt)
number_fits (By errno.EBADF) = (lit< tt, lit< tt)
number_fits (By errno.ENOMEM) = (lit< tt, lit< tt)
number_fits (By errno.EACCES) = (lit< tt, lit< tt)
number_fits (By errno.EBUSY) = (lit< tt, lit< tt)
number_fits (By errno.EEXIST) = (lit< tt, lit< tt)
number_fits (By errno.ENOTDIR) = (lit< tt, lit< tt)
number_fits (By errno.EISDIR) = (lit< tt, lit< tt)
number_fits (By errno.EINVAL) = (lit< tt, lit< tt)
number_fits (By errno.ENFILE) = (lit< tt, lit< tt)
number_fits (By errno.EMFILE) = (lit< tt, lit< tt)
number_fits (By errno.EFBIG) = (lit< tt, lit< tt)
number_fits (By errno.ENOSPC) = (lit< tt, lit< tt)
number_fits (By errno.EMLINK) = (lit< tt, lit< tt)
number_fits (By errno.ENAMETOOLONG) = (lit< tt, lit< tt)
number_fits (By errno.ENOTEMPTY) = (lit< tt, lit< tt)
number_fits (By errno.ELOOP) = (lit< tt, lit< tt)
number_fits Stale = (lit< tt, lit< tt)
number_fits Unsupported = (lit< tt, lit< tt)

-- what is told is a reply
pub is_reply : (a : FuseAnswer) → IsReply (reply_for a)
is_reply (answer_of.Refused refused) = number_fits refused
is_reply answer_of.Unknown = (lit< tt, lit< tt)
is_reply answer_of.OtherVersion = (lit< tt, lit< tt)
is_reply a = tt

pub said_is_reply : (it : Said) → IsReply (reply_to it)
said_is_reply (said.Plain a) = is_reply a
said_is_reply said.Synced = tt
said_is_reply said.Missing = tt

-- fields and nothing behind them
alone : (fields : List Field) → length (fields_bytes fields ++ []) ≡ total_length fields
alone fields = ap length (append-nil (fields_bytes fields)) ∙ fields_length fields

pub init_fits : (i : InitReply) → size_of (reply.Init i) ≤ 65552
unfolding init_fields
init_fits i = let e : length (reply_bytes (reply.Init i)) ≡ 64 = alone (init_fields i) in omega (arith, e)

pub entry_fits : (e : Entry) → size_of (reply.Entry e) ≤ 65552
unfolding name_fields attribute_fields
entry_fits it = let e : length (reply_bytes (reply.Entry it)) ≡ 128 = alone (entry_fields it) in omega (arith, e)

pub attributes_fit : (valid : ℕ × ℕ) (a : Attributes) → size_of (reply.Attributes valid a) ≤ 65552
unfolding valid_fields attribute_fields
attributes_fit valid a =
    let e : length (reply_bytes (reply.Attributes valid a)) ≡ 104 = alone (valid_fields valid ++ attribute_fields a) in omega (arith, e)

pub opened_fits : (o : Opened) → size_of (reply.Open o) ≤ 65552
unfolding opened_fields
opened_fits o = let e : length (reply_bytes (reply.Open o)) ≡ 16 = alone (opened_fields o) in omega (arith, e)

pub created_fits : (it : Entry) (o : Opened) → size_of (reply.Create it o) ≤ 65552
unfolding name_fields attribute_fields opened_fields
created_fits it o =
    let e : length (reply_bytes (reply.Create it o)) ≡ 144 = alone (entry_fields it ++ opened_fields o) in omega (arith, e)

pub written_fits : (n : ℕ) → size_of (reply.Write n) ≤ 65552
written_fits n =
    let e : length (reply_bytes (reply.Write n)) ≡ 8 = alone (Number Four n ∷ Number Four 0 ∷ []) in omega (arith, e)

pub room_fits : (r : StatfsReply) → size_of (reply.Statfs r) ≤ 65552
unfolding room_fields
room_fits r = let e : length (reply_bytes (reply.Statfs r)) ≡ 80 = alone (room_fields r) in omega (arith, e)

pub ruleset fits = (number_fits, init_fits, entry_fits, attributes_fit, opened_fits, created_fits, written_fits, room_fits)

-- an answer has bytes
pub has_bytes : (unique : ℕ) (r : Reply) (old new : List ℕ) → new ≡ old ++ answer unique r → new ≡ old → ⊥
has_bytes unique r old new is same =
    let head = Number Four (size_of r) ∷ Number Four (error_of r) ∷ Number Eight unique ∷ [] in
    let sixteen : length (fields_bytes head) ≡ 16 = fields_length head in
    omega (
      arith,
      length-append (fields_bytes head) (reply_bytes r),
      length-append old (answer unique r),
      sixteen,
      ap length is,
      ap length same,
    )

-- bytes are told wherever they stand
pub bytes_told : (unique : ℕ) (b : Bor (List ℕ)) (xs : List ℕ) → b.now ≡ xs
    → answer unique (reply.Bytes b) ≡ answer unique (reply.Bytes (at xs))
bytes_told unique b xs is = ap (λ (ys : List ℕ). answer unique (reply.Bytes (at ys))) is

pub bytes_fit : (b : Bor (List ℕ)) → length b.now ≤ 65536 → size_of (reply.Bytes b) ≤ 65552
bytes_fit b few = omega (arith, few)
