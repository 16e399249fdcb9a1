-- What a link was told and what it gave, newest first, and the marks that follow from it.
use Rattle.std.specs.Prelude.{List, [], ◌∷◌, Bool, true, false, if◌then◌else◌}
use Rattle.message.specs.declared.endpoint.Endpoint.{Endpoint}
use Rattle.message.specs.declared.BlockRequest.{BlockRequest}
use Rattle.message.specs.declared.Incoming.{Incoming}
use Rattle.message.specs.declared.Incoming.TheVariants as incoming
use Rattle.records.specs.Marks.{Mark, Started, Answered, Flush, GaveUp, Issued}
use Rattle.records.specs.Open.{counts}

-- A request was posted, and the link accepted it or not; a complaint was made; a message was taken.
pub data Told : Type 0 where
  Posted : (to : Endpoint) (request : BlockRequest) (accepted : Bool) → Told
  Complained : (about : Endpoint) → Told
  Received : (message : Incoming) → Told

-- the record after a message: one that is dropped leaves no mark
abbrev pub received : Incoming → List Mark → List Mark
received (incoming.Reply a) marks = if counts marks a then Answered a ∷ marks else marks
received (incoming.Started e) marks = Started e ∷ marks
received incoming.GaveUp marks = GaveUp ∷ marks
received incoming.Flush marks = Flush ∷ marks
received incoming.End marks = marks

-- the record after one of these: a request that the link accepted is issued, a refused one isn't
abbrev pub with_told : Told → List Mark → List Mark
with_told (Posted to r true) marks = Issued r to ∷ marks
with_told (Posted to r false) marks = marks
with_told (Complained about) marks = marks
with_told (Received message) marks = received message marks

-- the record after all of these
abbrev pub grown : List Told → List Mark → List Mark
grown [] marks = marks
grown (t ∷ told) marks = with_told t (grown told marks)

-- whether a take gave End
abbrev pub took_end : List Told → Bool
took_end [] = false
took_end (Received incoming.End ∷ told) = true
took_end (_ ∷ told) = took_end told

-- whether no message was taken
abbrev pub took_nothing : List Told → Bool
took_nothing [] = true
took_nothing (Received message ∷ told) = false
took_nothing (_ ∷ told) = took_nothing told

-- what a take adds to what a link was told and gave: its message; of Ends the first alone, so that a link which has ended
-- needs no room for more
abbrev pub heard : Incoming → List Told → List Told
heard incoming.End told = if took_end told then told else Received incoming.End ∷ told
heard message told = Received message ∷ told
