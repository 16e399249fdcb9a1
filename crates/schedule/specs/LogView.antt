-- A log, as contracts see it.
use Rattle.std.specs.Prelude.{ℕ, ◌-◌, ◌/◌, min, if◌then◌else◌, List, map, vec_len, vec_capacity}
use Rattle.schedule.specs.KeptNotes.{entry_of}
use Rattle.schedule.specs.Noted.{Noted, noted_of}
use Rattle.schedule.specs.declared.log.LogEntry.{LogEntry}
use Rattle.schedule.specs.declared.log.Log.{Log}

-- its notes
abbrev pub entries_of : Log → List LogEntry
entries_of l = map (entry_of l.bytes.items l.replies.items) l.notes.items

-- what it says
abbrev pub said : Log → Noted
said l = noted_of l.over (entries_of l)

-- how many things more may be noted before the next message, each of 4096 bytes: none once the link has ended
abbrev pub room_in : Log → ℕ
room_in l = if l.over then 0 else
    min (min (vec_capacity l.notes - vec_len l.notes) (vec_capacity l.posts - vec_len l.posts))
    (min (vec_capacity l.replies - vec_len l.replies) ((vec_capacity l.bytes - vec_len l.bytes) / 4096))
