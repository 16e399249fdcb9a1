-- The calls of a session, made one after the other.
use Rattle.std.specs.Prelude.{◌≡◌, ℕ, List, [], ◌∷◌, Bool, true, false, length}
use Rattle.std.specs.List.{list_any}
use Rattle.errno.specs.declared.Errno.TheVariants.{EIO}
use Rattle.tree.specs.declared.Who.{Who}
use Rattle.tree.specs.declared.Call.{Call}
use Rattle.tree.specs.declared.Outcome.{Outcome}
use Rattle.tree.specs.declared.Outcome.TheVariants.{Reply, Cut}
use Rattle.tree.specs.declared.Reply.TheVariants.{Refused}
use Rattle.tree.specs.Answers.{answer_of}
use Rattle.records.specs.Marks.{Mark, Took, IsBeginning}
use Rattle.records.specs.Session.{SessionState, SessionGoesOn, caller_of, calls_of}
use Rattle.call_text.specs.declared.scripts.timed.TimedCall.{TimedCall}
use Rattle.reply_text.specs.declared.answers.Played.{Played}

-- the mark of a call, onto older ones; a call that was cut has none
abbrev pub call_made : Who → ℕ → Call → Outcome → List Mark → List Mark
call_made who now call (Reply reply) older = Took who now call (answer_of reply) ∷ older
call_made who now call Cut older = older

-- the marks of these calls, onto older ones, the newest first
abbrev pub calls_made : Who → List TimedCall → List Outcome → List Mark → List Mark
calls_made who (timed ∷ calls) (outcome ∷ outcomes) older = calls_made who calls outcomes
    (call_made who timed.time timed.call outcome older)
calls_made who _ _ older = older

-- whether a call was cut
abbrev pub cuts : Outcome → Bool
cuts Cut = true
cuts (Reply reply) = false

-- whether some call was cut
abbrev pub some_cut : List Outcome → Bool
some_cut [] = false
some_cut (Cut ∷ outcomes) = true
some_cut (Reply reply ∷ outcomes) = some_cut outcomes

-- whether each call was cut
abbrev pub all_cut : List Outcome → Bool
all_cut [] = true
all_cut (Cut ∷ outcomes) = all_cut outcomes
all_cut (Reply reply ∷ outcomes) = false

-- whether no call was answered after one that was cut
abbrev pub cuts_last : List Outcome → Bool
cuts_last [] = true
cuts_last (Cut ∷ outcomes) = all_cut outcomes
cuts_last (Reply reply ∷ outcomes) = cuts_last outcomes

-- whether a call was answered EIO, as it is once the device was given up
abbrev pub is_eio : Outcome → Bool
is_eio (Reply (Refused EIO)) = true
is_eio _ = false

-- whether some call of a session was
abbrev pub has_eio : Played → Bool
has_eio session = list_any is_eio session.outcomes.items

-- the session's own calls are those of its number since it was made, in what it has seen
abbrev pub IsOwn : SessionState → Type 0
IsOwn s = s.knows.mine ≡ calls_of s.knows.number s.knows.place s.knows.seen

-- the same session later, which has seen as much and more
pub record IsLater (old new : SessionState) : Type 0 where
  pub caller : caller_of new ≡ caller_of old
  pub place : new.knows.place ≡ old.knows.place
  pub beginning : IsBeginning old.knows.seen new.knows.seen
  pub own : IsOwn old → IsOwn new

-- These calls were made in a session, each in its turn and with its outcome; from the first that is cut on all are. Its own calls grew by
-- those that were answered, and what it has seen is still vouched for. Where one was cut, the link had ended, by what it has seen.
pub record Plays (Vouches Ended : List Mark → Type 0) (old : SessionState) (calls : List TimedCall) (outcomes : List Outcome)
    (new : SessionState) : Type 0 where
  pub later : IsLater old new
  pub each : length outcomes ≡ length calls
  pub cuts_last : cuts_last outcomes ≡ true
  pub mine : new.knows.mine ≡ calls_made (caller_of old) calls outcomes old.knows.mine
  pub vouched : Vouches old.knows.seen → Vouches new.knows.seen
  pub ended : some_cut outcomes ≡ true → Ended new.knows.seen

-- One call, unless an earlier one was cut.
pub record Calls (Vouches Ended : List Mark → Type 0) (old : SessionState) (cut : Bool) (timed : TimedCall) (outcome : Outcome)
    (new : SessionState) : Type 0 where
  pub after_cut : cut ≡ true → (outcome ≡ Cut) × (new ≡ old)
  pub goes_on : cut ≡ false → SessionGoesOn old new
  pub mine : cut ≡ false → new.knows.mine ≡ call_made (caller_of old) timed.time timed.call outcome old.knows.mine
  pub vouched : cut ≡ false → Vouches new.knows.seen
  pub ended : cut ≡ false → cuts outcome ≡ true → Ended new.knows.seen
