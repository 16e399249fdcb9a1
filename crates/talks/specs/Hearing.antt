-- What the replies of calls tell, or why they don't: the call's own refusal, or EIO where it was cut or answered otherwise.
use Rattle.std.specs.Prelude.{ℕ, List, take, Result, Ok, Err}
use Rattle.errno.specs.declared.Errno.TheVariants.{EIO}
use Rattle.tree.specs.declared.Attributes.{Attributes}
use Rattle.tree.specs.declared.Entry.{Entry}
use Rattle.tree.specs.declared.LinkTarget.{LinkTarget}
use Rattle.tree.specs.declared.Statfs.{Statfs}
use Rattle.tree.specs.declared.Outcome.TheVariants as outcome
use Rattle.tree.specs.declared.Reply.{Reply}
use Rattle.tree.specs.declared.Reply.TheVariants as reply
use Rattle.talks.specs.Refusals.{then_of}
use Rattle.talks.specs.Refusals.{entering}
use Rattle.talks.specs.declared.heard.Heard.{Heard}
use Rattle.talks.specs.declared.heard.Heard.TheVariants as heard
use Rattle.talks.specs.declared.refused.Refused.{Refused}
use Rattle.talks.specs.declared.refused.Refused.TheVariants.{By}

abbrev pub eio : Refused
eio = By EIO

-- the reply of a call that wasn't refused
abbrev pub told_by : Reply → Result Reply Refused
told_by (reply.Refused errno) = Err (By errno)
told_by r = Ok r

abbrev pub reply_in : Heard → Result Reply Refused
reply_in (heard.Outcome (outcome.Reply r)) = told_by r
reply_in h = Err eio

-- that the call was done
abbrev pub as_done : Reply → Result Reply Refused
as_done reply.Done = Ok reply.Done
as_done r = Err eio

abbrev pub as_attributes : Reply → Result Attributes Refused
as_attributes (reply.Inode attributes) = Ok attributes
as_attributes r = Err eio

abbrev pub as_descriptor : Reply → Result ℕ Refused
as_descriptor (reply.Descriptor fd) = Ok fd
as_descriptor r = Err eio

-- the position that was set
abbrev pub as_position : Reply → Result ℕ Refused
as_position (reply.At position) = Ok position
as_position r = Err eio

abbrev pub as_bytes : Reply → Result (List ℕ) Refused
as_bytes (reply.Bytes bytes) = Ok bytes.items
as_bytes r = Err eio

-- how many bytes were written
abbrev pub as_count : Reply → Result ℕ Refused
as_count (reply.Wrote count) = Ok count
as_count r = Err eio

abbrev pub as_room : Reply → Result Statfs Refused
as_room (reply.Space room) = Ok room
as_room r = Err eio

abbrev pub as_target : Reply → Result LinkTarget Refused
as_target (reply.Target target) = Ok target
as_target r = Err eio

-- the bytes of a target
abbrev pub target_of : LinkTarget → List ℕ
target_of target = take target.length target.bytes

-- the names of a directory
abbrev pub as_names : Reply → Result (List Entry) Refused
as_names (reply.Names names) = Ok names.items
as_names r = Err eio

abbrev pub done_in : Heard → Result Reply Refused
done_in h = then_of (reply_in h) as_done

abbrev pub attributes_in : Heard → Result Attributes Refused
attributes_in h = then_of (reply_in h) as_attributes

abbrev pub descriptor_in : Heard → Result ℕ Refused
descriptor_in h = then_of (reply_in h) as_descriptor

abbrev pub position_in : Heard → Result ℕ Refused
position_in h = then_of (reply_in h) as_position

abbrev pub bytes_in : Heard → Result (List ℕ) Refused
bytes_in h = then_of (reply_in h) as_bytes

abbrev pub count_in : Heard → Result ℕ Refused
count_in h = then_of (reply_in h) as_count

abbrev pub room_in : Heard → Result Statfs Refused
room_in h = then_of (reply_in h) as_room

abbrev pub target_in : Heard → Result LinkTarget Refused
target_in h = then_of (reply_in h) as_target

abbrev pub names_heard : Heard → Result (List Entry) Refused
names_heard h = then_of (reply_in h) as_names

-- the number of a session
abbrev pub session_in : Heard → Result ℕ Refused
session_in (heard.Entered (Ok session)) = Ok session
session_in (heard.Entered (Err refusal)) = Err (By (entering refusal))
session_in h = Err eio
