-- A session that was made for a script.
use Rattle.std.specs.Prelude.{◌≡◌, ℕ, List}
use Rattle.records.specs.Marks.{Mark}
use Rattle.records.specs.Session.{SessionState}
use Rattle.call_text.specs.declared.scripts.timed.TimedCall.{TimedCall}
use Rattle.tools.specs.declared.scripts.turns.Turn.{Turn}
use Rattle.tools.specs.Turns.{IsUnplayed, asked}

-- it has made no call, and what is asked in it is the script
abbrev pub IsAdmittedFor : {C : Type 0} → (List Mark → Type 0) → (C → SessionState) → ℕ × ℕ × List TimedCall → Turn C → Type 0
IsAdmittedFor Vouches state script turn = IsUnplayed Vouches (state turn.client) × (asked state turn ≡ script)
