-- What is asked of sessions for the answer to a message, and what they answer.
use Rattle.std.specs.Prelude.{◌≡◌, ℕ, List, [], ◌∷◌, Result}
use Rattle.tree.specs.declared.Call.{Call}
use Rattle.tree.specs.declared.Call.TheVariants as call
use Rattle.tree.specs.declared.Outcome.{Outcome as TreeOutcome}
use Rattle.tree.specs.declared.Outcome.TheVariants as outcome
use Rattle.tree.specs.declared.Reply.{Reply}
use Rattle.tree.specs.declared.Reply.TheVariants as reply
use Rattle.talks.specs.declared.sessions.EnterRefusal.{EnterRefusal}
use Rattle.talks.specs.declared.ask.Leaving.{Leaving}
use Rattle.talks.specs.declared.ask.Ask.{Ask}
use Rattle.talks.specs.declared.ask.Ask.TheVariants as ask
use Rattle.talks.specs.declared.heard.Heard.{Heard}
use Rattle.talks.specs.declared.heard.Heard.TheVariants as heard

-- a call was answered this reply
abbrev pub Replies : Heard → Reply → Type 0
Replies h r = h ≡ heard.Outcome (outcome.Reply r)

-- a call was done
abbrev pub IsDone : Heard → Type 0
IsDone h = Replies h reply.Done

-- something that was asked, and what was answered
pub record Exchange : Type 0 where
  pub ask : Ask
  pub heard : Heard

-- What sessions may answer at a time, by their relations: of calls, of users that enter, of sessions that end.
abbrev pub MayHear : {S : Type 0} → (S → ℕ → ℕ → Call → TreeOutcome → S → Type 0) → (S → ℕ → ℕ → Result ℕ EnterRefusal → S → Type 0)
    → (S → Leaving → S → Type 0) → ℕ → S → Ask → Heard → S → Type 0
MayHear called entered left now s (ask.Enter uid gid) (heard.Entered r) t = entered s uid gid r t
MayHear called entered left now s (ask.Enter uid gid) heard.Left t = ⊥
MayHear called entered left now s (ask.Enter uid gid) (heard.Outcome o) t = ⊥
MayHear called entered left now s (ask.Leave who) (heard.Entered r) t = ⊥
MayHear called entered left now s (ask.Leave who) heard.Left t = left s who t
MayHear called entered left now s (ask.Leave who) (heard.Outcome o) t = ⊥
MayHear called entered left now s (ask.Call session c) (heard.Entered r) t = ⊥
MayHear called entered left now s (ask.Call session c) heard.Left t = ⊥
MayHear called entered left now s (ask.Call session c) (heard.Outcome o) t = called s session now c o t

-- By these exchanges, the last one first, and by nothing else, sessions come from one state to another. The first argument says what they
-- may answer.
abbrev pub Leads : {S : Type 0} → (S → Ask → Heard → S → Type 0) → S → List Exchange → S → Type 0
Leads may s [] t = s ≡ t
Leads {S} may s (e ∷ es) t = (u : S) × Leads may s es u × may u e.ask e.heard t

-- the last exchange is a sync that was done
abbrev pub EndsInSync : List Exchange → Type 0
EndsInSync [] = ⊥
EndsInSync (e ∷ es) = (session : ℕ) × (e.ask ≡ ask.Call session call.Sync) × IsDone e.heard

-- By exchanges and nothing else sessions come from one state to another. Where it is said that a sync was done, that is the last one.
abbrev pub Asked : {S : Type 0} → (S → Ask → Heard → S → Type 0) → S → Type 0 → S → Type 0
Asked may s synced t = (log : List Exchange) × Leads may s log t × (synced → EndsInSync log)
