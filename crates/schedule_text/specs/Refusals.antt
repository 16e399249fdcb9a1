-- Why a schedule isn't read.
use Rattle.std.specs.Prelude.{◌≡◌, ℕ, List, Err, IsTrue}
use Rattle.schedule_text.specs.Events.{schedule_in, has_event}
use Rattle.schedule_text.specs.declared.reading.ScheduleRefusal.{ScheduleRefusal}
use Rattle.schedule_text.specs.declared.reading.ScheduleRefusal.TheVariants.{BadLine, OutOfMemory}

-- this is its first bad line, or there was no memory for an event
abbrev pub IsRefused : List ℕ → ScheduleRefusal → Type 0
IsRefused text (BadLine number) = schedule_in text ≡ Err number
IsRefused text OutOfMemory = IsTrue (has_event text)
