-- How many posts and complaints a link can note.
use Rattle.std.specs.Prelude.{ℕ}
use Rattle.message.specs.declared.Incoming.{Incoming}
use Rattle.message.specs.declared.Incoming.TheVariants as incoming

-- what is done on a message needs this much room, with what is begun before the next one: one complaint, sixteen posts and
-- as many that are refused; End needs none
abbrev pub room_needed : Incoming → ℕ
room_needed incoming.End = 0
room_needed (incoming.Reply a) = 33
room_needed (incoming.Started e) = 33
room_needed incoming.GaveUp = 33
room_needed incoming.Flush = 33
