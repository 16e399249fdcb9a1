-- What is noted stands at the front of the history.
use Rattle.std.proofs.Common.{◌≡◌, ℕ, ◌<◌, List, [], ◌∷◌, ◌++◌, Bool, true, false, refl, sym, ◌∙◌, ap, arith}
use Rattle.message.specs.declared.Incoming.{Incoming}
use Rattle.message.specs.declared.Incoming.TheVariants as incoming
use Rattle.records.specs.Told.{Told, Posted, Complained, Received, heard, took_end}
use Rattle.reissue.specs.declared.list_link.note.Note.{Note}
use Rattle.reissue.specs.declared.list_link.note.Note.TheVariants as note
use Rattle.reissue.specs.Notes.{note_told, told_onto, told_of, history_of, room_of}

-- a note at the end is what was told last
pub onto-push : (notes : List Note) (n : Note) (older : List Told) → told_onto (notes ++ n ∷ []) older ≡ note_told n ∷ told_onto notes older
onto-push [] n older = refl
onto-push (m ∷ notes) n older = onto-push notes n (note_told m ∷ older)

-- what is no End adds none
took_other : (t : Told) (told : List Told) → took_end (t ∷ []) ≡ false → took_end told ≡ false → took_end (t ∷ told) ≡ false
took_other (Posted to r accepted) told kind rest = rest
took_other (Complained about) told kind rest = rest
took_other (Received (incoming.Reply a)) told kind rest = rest
took_other (Received (incoming.Started e)) told kind rest = rest
took_other (Received incoming.GaveUp) told kind rest = rest
took_other (Received incoming.Flush) told kind rest = rest
took_other (Received incoming.End) told kind rest = kind

pub unended_push : (notes new : List Note) (n : Note) → new ≡ notes ++ n ∷ [] → took_end (note_told n ∷ []) ≡ false → took_end (told_of notes) ≡ false
    → took_end (told_of new) ≡ false
unended_push notes new n is kind rest = ap (λ (l : List Note). took_end (told_of l)) is ∙ ap took_end (onto-push notes n []) ∙ took_other (note_told n) (told_of notes) kind rest

-- there is room only before the end
has_room : (ended : Bool) (capacity count : ℕ) → 0 < room_of ended capacity count → ended ≡ false
has_room true capacity count some = absurd (omega arith)
has_room false capacity count some = refl

pub told_push : (ended : Bool) (notes new : List Note) (n : Note) → ended ≡ false → new ≡ notes ++ n ∷ []
    → history_of ended new ≡ note_told n ∷ history_of ended notes
told_push true notes new n live is = cc
told_push false notes new n live is = ap told_of is ∙ onto-push notes n []

pub told_room : (ended : Bool) (capacity count : ℕ) (notes new : List Note) (n : Note) → 0 < room_of ended capacity count → new ≡ notes ++ n ∷ []
    → history_of ended new ≡ note_told n ∷ history_of ended notes
told_room ended capacity count notes new n some is = told_push ended notes new n (has_room ended capacity count some) is

-- a message that is no End
pub heard_other : (m : Incoming) (told : List Told) → took_end (Received m ∷ []) ≡ false → heard m told ≡ Received m ∷ told
heard_other (incoming.Reply a) told kind = refl
heard_other (incoming.Started e) told kind = refl
heard_other incoming.GaveUp told kind = refl
heard_other incoming.Flush told kind = refl
heard_other incoming.End told kind = cc

pub heard_push : (ended : Bool) (notes new : List Note) (m : Incoming) → ended ≡ false → took_end (Received m ∷ []) ≡ false → new ≡ notes ++ note.Received m ∷ []
    → history_of ended new ≡ heard m (history_of ended notes)
heard_push ended notes new m live kind is = told_push ended notes new (note.Received m) live is ∙ sym (heard_other m (history_of ended notes) kind)
