-- A note that is read.
use Rattle.schedule.specs.declared.log.LogEntry.{LogEntry}
use Rattle.schedule.specs.declared.log.LogEntry.TheVariants as entry
use Rattle.schedule.specs.declared.entry_ref.LogEntryRef.{LogEntryRef}
use Rattle.schedule.specs.declared.entry_ref.LogEntryRef.TheVariants.{Begun, Posted, Complained, Received, Handed, Faulted, Took}
use Rattle.compact_message.specs.Padded.{incoming_of, request_of}

-- the note that is borrowed
abbrev pub entry_in : LogEntryRef → LogEntry
entry_in (Begun event) = entry.Begun event.now
entry_in (Posted to request accepted) = entry.Posted to (request_of request) accepted
entry_in (Complained e is_fault) = entry.Complained e is_fault
entry_in (Received m) = entry.Received (incoming_of m)
entry_in (Handed m) = entry.Handed (incoming_of m)
entry_in (Faulted e cause) = entry.Faulted e cause
entry_in (Took who now call reply) = entry.Took who now call.now reply.now
