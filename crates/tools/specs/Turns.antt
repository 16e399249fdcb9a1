-- Scripts played, each in a session of its own, at one time.
use Rattle.std.specs.Prelude.{◌≡◌, ℕ, ◌<◌, List, [], ◌∷◌, Option, Some, None, Result, Ok, Err, true, length, map, reverse}
use Rattle.tree.specs.Tree.{most_sessions}
use Rattle.records.specs.Marks.{Mark, IsBeginning}
use Rattle.records.specs.Session.{SessionState, caller_of, calls_of}
use Rattle.call_text.specs.declared.scripts.timed.TimedCall.{TimedCall}
use Rattle.call_text.specs.Scripts.{plain_timed}
use Rattle.reply_text.specs.declared.answers.Played.{Played}
use Rattle.tools.specs.declared.scripts.turns.Turn.{Turn}
use Rattle.tools.specs.declared.scripts.turns.Taken.{Taken}
use Rattle.tools.specs.Made.{calls_made, cuts_last, some_cut}

-- what is asked in a turn: the user and group of its session, and its calls, wherever their paths and bytes stand
abbrev pub asked : {C : Type 0} → (C → SessionState) → Turn C → ℕ × ℕ × List TimedCall
asked state turn = ((state turn.client).uid, (state turn.client).gid, map plain_timed turn.calls.items)

-- a session that has made no call: there is none with its number since it was made, and what it has seen is vouched for
pub record IsUnplayed (Vouches : List Mark → Type 0) (s : SessionState) : Type 0 where
  pub low : s.knows.number < most_sessions
  pub none : s.knows.mine ≡ []
  pub none_seen : calls_of s.knows.number s.knows.place s.knows.seen ≡ []
  pub vouched : Vouches s.knows.seen

-- what the session has seen that goes on, if there is one
abbrev pub seen_by : Option SessionState → List Mark
seen_by None = []
seen_by (Some s) = s.knows.seen

-- What came of a script, by what its session has seen: its user's calls and no others were made in it, each answered as told or cut, in
-- their order.
pub record IsTurn (Vouches Ended : List Mark → Type 0) (script : ℕ × ℕ × List TimedCall) (played : Played) (s : SessionState) : Type 0 where
  pub user : s.uid ≡ script.0
  pub group : s.gid ≡ script.1
  pub number : s.knows.number ≡ played.number
  pub low : played.number < most_sessions
  -- the calls, wherever their paths and bytes stood
  pub made : List TimedCall
  pub asked : map plain_timed made ≡ script.2
  pub each : length played.outcomes.items ≡ length made
  pub cuts : cuts_last played.outcomes.items ≡ true
  pub mine : s.knows.mine ≡ calls_made (caller_of s) made played.outcomes.items []
  pub calls : calls_of s.knows.number s.knows.place s.knows.seen ≡ calls_made (caller_of s) made played.outcomes.items []
  pub vouched : Vouches s.knows.seen
  -- where a call was cut, the link had ended, by what it had seen then
  pub at_end : List Mark
  pub begins : IsBeginning at_end s.knows.seen
  pub ended : some_cut played.outcomes.items ≡ true → Ended at_end

-- each script came to what was played of it, in a session that has seen this record
abbrev pub EachIn : (List Mark → Type 0) → (List Mark → Type 0) → List Mark → List (ℕ × ℕ × List TimedCall) → List Played → Type 0
EachIn Vouches Ended seen [] [] = Unit {0}
EachIn Vouches Ended seen (script ∷ scripts) (p ∷ played) =
    ((s : SessionState) × IsTurn Vouches Ended script p s × (s.knows.seen ≡ seen)) × EachIn Vouches Ended seen scripts played
EachIn Vouches Ended seen _ _ = ⊥

-- The scripts were played in sessions of one service. All have then seen one record, which is that of the last; no script, nothing seen.
pub record ArePlayed (Vouches Ended : List Mark → Type 0) (scripts : List (ℕ × ℕ × List TimedCall)) (played : List Played)
    (seen : List Mark) : Type 0 where
  pub each : EachIn Vouches Ended seen scripts played
  pub none : scripts ≡ [] → seen ≡ []

-- what came of a turn in a thread, if there was memory for it
abbrev pub IsTaken : {C E : Type 0} → (List Mark → Type 0) → (List Mark → Type 0) → (C → SessionState) → ℕ × ℕ × List TimedCall
    → Result (Taken C) E → Type 0
IsTaken Vouches Ended state script (Ok taken) = IsTurn Vouches Ended script taken.played (state taken.client)
IsTaken Vouches Ended state script (Err e) = Unit {0}

abbrev pub AreResults : {C E : Type 0} → (List Mark → Type 0) → (List Mark → Type 0) → (C → SessionState) → List (ℕ × ℕ × List TimedCall)
    → List (Result (Taken C) E) → Type 0
AreResults Vouches Ended state [] [] = Unit {0}
AreResults Vouches Ended state (script ∷ scripts) (r ∷ results) =
    IsTaken Vouches Ended state script r × AreResults Vouches Ended state scripts results
AreResults Vouches Ended state _ _ = ⊥

-- what came of each
abbrev pub AreTaken : {C : Type 0} → (List Mark → Type 0) → (List Mark → Type 0) → (C → SessionState) → List (ℕ × ℕ × List TimedCall)
    → List (Taken C) → Type 0
AreTaken Vouches Ended state [] [] = Unit {0}
AreTaken Vouches Ended state (script ∷ scripts) (t ∷ taken) =
    IsTurn Vouches Ended script t.played (state t.client) × AreTaken Vouches Ended state scripts taken
AreTaken Vouches Ended state _ _ = ⊥

-- each of these has seen a beginning of the record
abbrev pub HaveSeen : {C : Type 0} → (C → SessionState) → List (Taken C) → List Mark → Type 0
HaveSeen state [] seen = Unit {0}
HaveSeen state (t ∷ taken) seen = IsBeginning (state t.client).knows.seen seen × HaveSeen state taken seen

-- A session in which a script was played has met the others, which have then all seen a beginning of what it has. They stand in reverse.
abbrev pub HaveMet : {C E : Type 0} → (List Mark → Type 0) → (List Mark → Type 0) → (C → SessionState) → SessionState
    → List (Result (Taken C) E)
    → SessionState → List (Taken C) → Type 0
HaveMet Vouches Ended state old results new others =
    (script : ℕ × ℕ × List TimedCall) (played : Played) (scripts : List (ℕ × ℕ × List TimedCall)) → IsTurn Vouches Ended script played old
    → AreResults Vouches Ended state scripts results
    → IsTurn Vouches Ended script played new × AreTaken Vouches Ended state scripts (reverse others)
    × HaveSeen state (reverse others) new.knows.seen

-- The others, which stood in reverse and had seen beginnings of what a session has, have then seen all of it, and ended. The session has
-- seen no more.
abbrev pub HaveEnded : {C : Type 0} → (List Mark → Type 0) → (List Mark → Type 0) → (C → SessionState) → SessionState → List (Taken C)
    → SessionState → List Played → Type 0
HaveEnded Vouches Ended state old others new all =
    (script : ℕ × ℕ × List TimedCall) (played : Played) (scripts : List (ℕ × ℕ × List TimedCall)) → IsTurn Vouches Ended script played old
    → AreTaken Vouches Ended state scripts (reverse others) → HaveSeen state (reverse others) old.knows.seen
    → IsTurn Vouches Ended script played new × EachIn Vouches Ended new.knows.seen scripts all
