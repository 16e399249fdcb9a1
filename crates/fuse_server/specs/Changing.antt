-- What a SETATTR changes.
use Rattle.std.specs.Prelude.{ℕ, not, ◌&&◌, if◌then◌else◌, List, map, bit_and}
use Rattle.std.specs.Int.Bits.{bit_or}
use Rattle.tree.specs.declared.Call.{Call}
use Rattle.tree.specs.declared.Outcome.TheVariants as outcome
use Rattle.tree.specs.declared.PathFrom.{PathFrom}
use Rattle.tree.specs.declared.Reply.TheVariants as reply
use Rattle.talks.specs.Changes.{change_call}
use Rattle.talks.specs.Flags.{is_set}
use Rattle.talks.specs.declared.changes.Change.{Change}
use Rattle.talks.specs.declared.heard.Heard.{Heard}
use Rattle.talks.specs.declared.heard.Heard.TheVariants as heard

-- The message says by bits what is changed: 1 the mode, 2 the owner, 4 the group, 8 the size, 16 and 32 the times; by 128 and 256 that a
-- time is now, where `changes_wanted` is told that it is given. Other bits mean nothing here.
abbrev pub given_bit : ℕ → ℕ → ℕ → ℕ
given_bit valid time now = if is_set valid time && not (is_set valid now) then now else 0

abbrev pub bits_of : ℕ → ℕ
bits_of valid = bit_or (bit_or (bit_and valid 0x3f) (given_bit valid 16 128)) (given_bit valid 32 256)

-- changes at a path, each of which is done
abbrev pub changes_done : PathFrom → List Change → List (Call × Heard)
changes_done path changes = map (λ (c : Change). (change_call path c, heard.Outcome (outcome.Reply reply.Done))) changes
