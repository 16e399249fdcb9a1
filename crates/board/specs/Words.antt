-- What the pulse word and the device word say, and which mark a message leaves.
use Rattle.std.specs.Prelude.{ℕ, ◌+◌, ◌*◌, Bool, true, false}
use Rattle.message.specs.declared.Incoming.{Incoming}
use Rattle.message.specs.declared.Incoming.TheVariants as incoming
use Rattle.records.specs.Marks.{Mark, Answered, Started, GaveUp, Flush}
use Rattle.board.specs.declared.board.Device.{Device}
use Rattle.board.specs.declared.board.Device.TheVariants.{Live, GivenUp}

-- a generation in the high 32 bits and its driver's count in the low 32
abbrev pub pulse_word : ℕ → ℕ → ℕ
pulse_word generation count = generation * 4294967296 + count

-- whether an answer says that the device was given up
abbrev pub is_given_up : Device → Bool
is_given_up Live = false
is_given_up GivenUp = true

-- the mark of a message. An End leaves none, and none is asked for
abbrev pub mark_of : Incoming → Mark
mark_of (incoming.Reply a) = Answered a
mark_of (incoming.Started e) = Started e
mark_of incoming.GaveUp = GaveUp
mark_of incoming.Flush = Flush
mark_of incoming.End = Flush
