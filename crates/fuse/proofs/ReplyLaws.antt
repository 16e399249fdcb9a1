-- How many bytes replies and entries have.
use Rattle.std.proofs.Common.{◌≡◌, ℕ, ◌+◌, List, [], ◌∷◌, ◌++◌, length, ap, ◌∙◌, arith}
use Rattle.std.proofs.lemmas.List.{append-nil, length-append}
use Rattle.fields.specs.Fields.{Four, Eight, Field, Number, fields_bytes}
use Rattle.fields.proofs.WritingLaws.{total_length, fields_length}
use Rattle.fuse.specs.declared.entries.ReaddirEntry.{ReaddirEntry}
use Rattle.fuse.specs.declared.reply.Attributes.{Attributes}
use Rattle.fuse.specs.declared.reply.Entry.{Entry}
use Rattle.fuse.specs.declared.reply.Opened.{Opened}
use Rattle.fuse.specs.declared.reply.StatfsReply.{StatfsReply}
use Rattle.fuse.specs.declared.reply.InitReply.{InitReply}
use Rattle.fuse.specs.declared.reply.Reply.{Reply}
use Rattle.fuse.specs.declared.reply.Reply.TheVariants as reply
use Rattle.fuse.specs.Replies.{attribute_fields, name_fields, entry_fields, valid_fields, opened_fields, room_fields, init_fields}
use Rattle.fuse.specs.Replies.{reply_bytes, size_of, error_of, answer, padding, dirent_bytes}

-- fields and nothing behind them
alone : (fields : List Field) → length (fields_bytes fields ++ []) ≡ total_length fields
alone fields = ap length (append-nil (fields_bytes fields)) ∙ fields_length fields

pub init_length : (i : InitReply) → length (reply_bytes (reply.Init i)) ≡ 64
unfolding init_fields
init_length i = alone (init_fields i)

pub entry_length : (e : Entry) → length (reply_bytes (reply.Entry e)) ≡ 128
unfolding name_fields attribute_fields
entry_length e = alone (entry_fields e)

pub told_length : (valid : ℕ × ℕ) (a : Attributes) → length (reply_bytes (reply.Attributes valid a)) ≡ 104
unfolding valid_fields attribute_fields
told_length valid a = alone (valid_fields valid ++ attribute_fields a)

pub opened_length : (o : Opened) → length (reply_bytes (reply.Open o)) ≡ 16
unfolding opened_fields
opened_length o = alone (opened_fields o)

pub created_length : (e : Entry) (o : Opened) → length (reply_bytes (reply.Create e o)) ≡ 144
unfolding name_fields attribute_fields opened_fields
created_length e o = alone (entry_fields e ++ opened_fields o)

pub written_length : (n : ℕ) → length (reply_bytes (reply.Write n)) ≡ 8
written_length n = alone (Number Four n ∷ Number Four 0 ∷ [])

pub room_length : (r : StatfsReply) → length (reply_bytes (reply.Statfs r)) ≡ 80
unfolding room_fields
room_length r = alone (room_fields r)

-- an answer is as long as it tells
pub answer_length : (unique : ℕ) (r : Reply) → length (answer unique r) ≡ size_of r
answer_length unique r =
    let head = Number Four (size_of r) ∷ Number Four (error_of r) ∷ Number Eight unique ∷ [] in
    let sixteen : length (fields_bytes head) ≡ 16 = fields_length head in
    omega (arith, length-append (fields_bytes head) (reply_bytes r), sixteen)

pub dirent_length : (e : ReaddirEntry) (zeros : List ℕ) → zeros ≡ padding (length e.name.now)
    → 24 + length e.name.now + length zeros ≡ length (dirent_bytes e)
dirent_length e zeros is =
    let head = Number Eight e.inode ∷ Number Eight e.next ∷ Number Four (length e.name.now) ∷ Number Four e.kind ∷ [] in
    let so_many : length (fields_bytes head) ≡ 24 = fields_length head in
    omega (
      arith,
      length-append (fields_bytes head) (e.name.now ++ padding (length e.name.now)),
      length-append e.name.now (padding (length e.name.now)),
      so_many,
      ap length is,
    )
