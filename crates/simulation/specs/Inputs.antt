-- What files say, and why they aren't read.
use Rattle.std.specs.Prelude.{◌≡◌, ◌⊎◌, ℕ, List, ◌++◌, Some, None, Ok, Err, IsSome, IsTrue, codes, decimal}
use Rattle.std.specs.Borrow.{Bor}
use Rattle.schedule.specs.declared.Event.{Event}
use Rattle.schedule_text.specs.Events.{schedule_in, has_event}
use Rattle.simulation.specs.declared.inputs.File.{File}
use Rattle.simulation.specs.declared.inputs.InputRefusal.{InputRefusal}
use Rattle.simulation.specs.declared.inputs.InputRefusal.TheVariants.{CannotRead, BadLine, OutOfMemory}

-- the file could be read, and holds a schedule of these events
abbrev pub HasSchedule : File → List Event → Type 0
HasSchedule file events = (text : Bor (List ℕ)) × (file.bytes ≡ Some text) × (schedule_in text.now ≡ Ok events)

-- the file couldn't be read, and has this name
abbrev pub IsUnread : File → Bor (List ℕ) → Type 0
IsUnread file name = (file.bytes ≡ None) × (name ≡ file.name)

-- the file could be read, and this line of it is the first that can't
abbrev pub HasBadLine : File → ℕ → Type 0
HasBadLine file number = (text : Bor (List ℕ)) × (file.bytes ≡ Some text) × (schedule_in text.now ≡ Err number)

-- the file could be read, and has an event, for which memory is sought
abbrev pub HasEvent : File → Type 0
HasEvent file = (text : Bor (List ℕ)) × (file.bytes ≡ Some text) × IsTrue (has_event text.now)

-- why a file gives no schedule
abbrev pub IsNoSchedule : File → InputRefusal → Type 0
IsNoSchedule file (CannotRead name) = IsUnread file name
IsNoSchedule file (BadLine number name) = HasBadLine file number × (name ≡ file.name)
IsNoSchedule file OutOfMemory = HasEvent file

-- why the files of a run aren't read, in the order in which faults are looked for
abbrev pub IsNoInput : File → File → InputRefusal → Type 0
IsNoInput image schedule (CannotRead name) = IsUnread image name ⊎ (IsSome image.bytes × IsUnread schedule name)
IsNoInput image schedule (BadLine number name) = IsSome image.bytes × HasBadLine schedule number × (name ≡ schedule.name)
IsNoInput image schedule OutOfMemory = IsSome image.bytes × HasEvent schedule

-- the text of a refusal
abbrev pub refusal_text : InputRefusal → List ℕ
refusal_text (CannotRead name) = codes "cannot read " ++ name.now
refusal_text (BadLine number name) = codes "bad line " ++ decimal number ++ codes " of " ++ name.now
refusal_text OutOfMemory = codes "OutOfMemory"
