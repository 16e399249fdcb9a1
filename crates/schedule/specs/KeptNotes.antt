-- How notes are kept: the bytes of requests and replies apart, and so the replies to calls.
use Rattle.std.specs.Prelude.{◌≡◌, ℕ, ◌+◌, ◌≤◌, List, [], ◌∷◌, ◌++◌, take, drop, slice_index_or, true, flat_map}
use Rattle.message.specs.declared.BlockRequest.{BlockRequest}
use Rattle.message.specs.declared.Incoming.{Incoming}
use Rattle.message.specs.declared.Incoming.TheVariants as incoming
use Rattle.tree.specs.declared.Reply.{Reply}
use Rattle.tree.specs.declared.Reply.TheVariants.{Done}
use Rattle.compact_message.specs.Padded.{reply_with, request_with}
use Rattle.schedule.specs.declared.log.LogEntry.{LogEntry}
use Rattle.schedule.specs.declared.log.LogEntry.TheVariants as entry
use Rattle.schedule.specs.declared.log.Post.{Post}
use Rattle.schedule.specs.declared.kept.ByteRange.{ByteRange}
use Rattle.schedule.specs.declared.kept.KeptRequest.{KeptRequest}
use Rattle.schedule.specs.declared.kept.KeptMessage.{KeptMessage}
use Rattle.schedule.specs.declared.kept.KeptMessage.TheVariants as kept
use Rattle.schedule.specs.declared.kept.Kept.{Kept}
use Rattle.schedule.specs.declared.kept.Kept.TheVariants.{Begun, Posted, Complained, Received, Handed, Faulted, Took}

-- the bytes at a place
abbrev pub part_of : List ℕ → ByteRange → List ℕ
part_of bytes p = take p.len (drop p.start bytes)

-- a place lies within so many bytes
abbrev pub IsPlaceWithin : ℕ → ByteRange → Type 0
IsPlaceWithin count p = p.start + p.len ≤ count

-- more came behind these
abbrev pub Grows : {X : Type 0} → List X → List X → Type 0
Grows {X} old new = (more : List X) × (new ≡ old ++ more)

-- the request that is kept so
abbrev pub request_at : List ℕ → KeptRequest → BlockRequest
request_at bytes r = request_with r.head (part_of bytes r.place)

-- the post that is kept so
abbrev pub post_at : List ℕ → KeptRequest → Post
post_at bytes r = record { to = r.to; request = request_at bytes r }

-- the message that is kept so
abbrev pub message_of : List ℕ → KeptMessage → Incoming
message_of bytes (kept.Reply head place) = incoming.Reply (reply_with head (part_of bytes place))
message_of bytes (kept.Started e) = incoming.Started e
message_of bytes kept.GaveUp = incoming.GaveUp
message_of bytes kept.Flush = incoming.Flush
message_of bytes kept.End = incoming.End

-- where its bytes end, if it has some
abbrev pub message_end : KeptMessage → ℕ
message_end (kept.Reply head place) = place.start + place.len
message_end (kept.Started e) = 0
message_end kept.GaveUp = 0
message_end kept.Flush = 0
message_end kept.End = 0

-- its bytes lie within so many
abbrev pub IsMessageWithin : ℕ → KeptMessage → Type 0
IsMessageWithin count m = message_end m ≤ count

-- the note that is kept so beside these bytes and these replies
abbrev pub entry_of : List ℕ → List Reply → Kept → LogEntry
entry_of bytes replies (Begun event) = entry.Begun event.now
entry_of bytes replies (Posted r accepted) = entry.Posted r.to (request_at bytes r) accepted
entry_of bytes replies (Complained e is_fault) = entry.Complained e is_fault
entry_of bytes replies (Received m) = entry.Received (message_of bytes m)
entry_of bytes replies (Handed m) = entry.Handed (message_of bytes m)
entry_of bytes replies (Faulted e cause) = entry.Faulted e cause
entry_of bytes replies (Took who now call at) = entry.Took who now call (slice_index_or replies at Done)

-- where its bytes end, if it has some
abbrev pub bytes_end : Kept → ℕ
bytes_end (Begun event) = 0
bytes_end (Posted r accepted) = r.place.start + r.place.len
bytes_end (Complained e is_fault) = 0
bytes_end (Received m) = message_end m
bytes_end (Handed m) = message_end m
bytes_end (Faulted e cause) = 0
bytes_end (Took who now call at) = 0

-- how many replies there are up to its own, if it has one
abbrev pub replies_end : Kept → ℕ
replies_end (Begun event) = 0
replies_end (Posted r accepted) = 0
replies_end (Complained e is_fault) = 0
replies_end (Received m) = 0
replies_end (Handed m) = 0
replies_end (Faulted e cause) = 0
replies_end (Took who now call at) = at + 1

-- its bytes lie within so many, and its reply is among so many
abbrev pub IsWithin : ℕ → ℕ → Kept → Type 0
IsWithin count answers k = (bytes_end k ≤ count) × (replies_end k ≤ answers)

-- the accepted post that a note is, if it is one
abbrev pub accepted_of : Kept → List KeptRequest
accepted_of (Posted r true) = r ∷ []
accepted_of _ = []

-- those among these notes, in their order
abbrev pub accepted_in : List Kept → List KeptRequest
accepted_in notes = flat_map accepted_of notes
