-- What a link's notes say.
use Rattle.std.specs.Prelude.{ℕ, ◌-◌, List, [], ◌∷◌, Bool, if◌then◌else◌}
use Rattle.message.specs.declared.Incoming.TheVariants as incoming
use Rattle.records.specs.Told.{Told, Posted, Complained, Received}
use Rattle.reissue.specs.declared.list_link.note.Note.{Note}
use Rattle.reissue.specs.declared.list_link.note.Note.TheVariants as note

-- what a note says
abbrev pub note_told : Note → Told
note_told (note.Posted to request accepted) = Posted to request accepted
note_told (note.Complained about) = Complained about
note_told (note.Received message) = Received message

-- notes stand oldest first, what was told newest first
abbrev pub told_onto : List Note → List Told → List Told
told_onto [] older = older
told_onto (n ∷ notes) older = told_onto notes (note_told n ∷ older)

abbrev pub told_of : List Note → List Told
told_of notes = told_onto notes []

-- with the End, where the link has ended
abbrev pub history_of : Bool → List Note → List Told
history_of ended notes = if ended then Received incoming.End ∷ told_of notes else told_of notes

-- how many more can be noted before the next message: none once the link has ended
abbrev pub room_of : Bool → ℕ → ℕ → ℕ
room_of ended capacity count = if ended then 0 else capacity - count
