-- What a message taken does to the slots of blocks.
use Rattle.std.specs.Prelude.{◌≡◌, ℕ, List, Bool, true, false, Result, Ok, Err}
use Rattle.reissue.specs.Settlements.{Settlement}
use Rattle.reissue.specs.Settlements as settled
use Rattle.cache.specs.declared.slot.Slot.{Slot}
use Rattle.cache.specs.Edits.{IsWritten}
use Rattle.block_store.specs.declared.Cut.{Cut}
use Rattle.cache.specs.declared.settling.Took.{Took}
use Rattle.cache.specs.declared.settling.Took.TheVariants as took

-- what each message does to the slots
abbrev pub Settles : Settlement → List Slot → List Slot → Type 0
Settles (settled.Written t) old new = IsWritten t old new
Settles (settled.Read t bytes) old new = new ≡ old
Settles settled.Nothing old new = new ≡ old
Settles settled.Flush old new = new ≡ old
Settles settled.GaveUp old new = new ≡ old
Settles settled.End old new = new ≡ old

-- what comes of it, with the bytes of a read
pub data Taking : Type 0 where
  Nothing : Taking
  Read : ℕ → List ℕ → Taking

-- what the code answers, and the bytes that it leaves in the room for them
abbrev pub taking : Took → List ℕ → Taking
taking took.Nothing bytes = Nothing
taking (took.Read t) bytes = Read t bytes

-- the same, unless it was cut
abbrev pub taking_in : Result Took Cut → List ℕ → Result Taking Cut
taking_in (Ok t) bytes = Ok (taking t bytes)
taking_in (Err cut) bytes = Err cut

abbrev pub took_of : Settlement → Taking
took_of (settled.Read t bytes) = Read t bytes
took_of (settled.Written t) = Nothing
took_of settled.Nothing = Nothing
took_of settled.Flush = Nothing
took_of settled.GaveUp = Nothing
took_of settled.End = Nothing

-- the link gives no message any more
abbrev pub is_ended_by : Settlement → Bool
is_ended_by settled.End = true
is_ended_by (settled.Read t bytes) = false
is_ended_by (settled.Written t) = false
is_ended_by settled.Nothing = false
is_ended_by settled.Flush = false
is_ended_by settled.GaveUp = false

-- a flush is wanted if this is so, and else as before
abbrev pub IsWantedFor : Type 0 → Bool → Bool → Type 0
IsWantedFor IsSo old new = (IsSo → new ≡ true) × ((IsSo → ⊥) → new ≡ old)
