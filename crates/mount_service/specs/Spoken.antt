-- What the sessions of a mount answer, and so what is spoken on its streams.
use Rattle.std.specs.Prelude.{⊤, ◌≡◌, ◌≢◌, ◌⊎◌, ◌++◌, ℕ, Bool, true, false, List, [], ◌∷◌, slice_get, slice_set}
use Rattle.std.specs.Prelude.{Option, Some, Result, Ok, Err}
use Rattle.std.specs.List.{remove}
use Rattle.layout.specs.declared.Geometry.{Geometry}
use Rattle.errno.specs.declared.Errno.TheVariants.{EINVAL}
use Rattle.tree.specs.declared.Call.{Call}
use Rattle.tree.specs.declared.Outcome.{Outcome}
use Rattle.tree.specs.declared.Outcome.TheVariants.{Reply}
use Rattle.tree.specs.declared.Reply.TheVariants.{Refused}
use Rattle.records.specs.Marks.{Mark, IsBeginning}
use Rattle.records.specs.Opening.{Opening}
use Rattle.records.specs.Session.{SessionState}
use Rattle.archive.specs.Called.{IsAnsweredBy}
use Rattle.archive.specs.Behind.{Puts, IsAnsweredKept}
use Rattle.talks.specs.declared.ask.Leaving.{Leaving}
use Rattle.talks.specs.declared.ask.Leaving.TheVariants as leaving
use Rattle.talks.specs.declared.sessions.EnterRefusal.{EnterRefusal}
use Rattle.message_stream.specs.Answered.{IsAnsweredAll}
use Rattle.message_stream.specs.Exchanges.{by_both}

-- what a session is answered, with an archive or without
abbrev pub IsAnswered : {A : Type 0} → Puts A → Geometry → Opening → Bool → SessionState → ℕ → Call → Outcome → SessionState → Type 0
IsAnswered puts g v true before now call outcome after = IsAnsweredKept puts g v before now call outcome after
IsAnswered puts g v false before now call outcome after = IsAnsweredBy g v before now call outcome after

-- the sessions of a mount, each with what it has seen, in the order in which they were made; what the mount's own session has seen, which
-- makes no call, and meets each that ends; and whether there is an archive
pub record Users : Type 0 where
  pub sessions : List SessionState
  pub met : List Mark
  pub kept : Bool

abbrev pub users : List SessionState → List Mark → Bool → Users
users sessions met kept = record { sessions = sessions; met = met; kept = kept }

-- each of these has seen a beginning of this record
abbrev pub HaveSeen : List SessionState → List Mark → Type 0
HaveSeen [] marks = ⊤
HaveSeen (s ∷ sessions) marks = IsBeginning s.knows.seen marks × HaveSeen sessions marks

-- the session of this number made the call; the others stay
pub record IsOwnAnswer {A : Type 0} (puts : Puts A) (g : Geometry) (v : Opening) (s : Users) (session now : ℕ) (call : Call)
    (outcome : Outcome) (t : Users) : Type 0 where
  pub place : ℕ
  pub before : SessionState
  pub after : SessionState
  pub is : slice_get s.sessions place ≡ Some before
  pub number : before.knows.number ≡ session
  pub answered : IsAnswered puts g v s.kept before now call outcome after
  pub others : t ≡ users (slice_set s.sessions place after) s.met s.kept

-- no session has this number
abbrev pub IsNone : Users → ℕ → Type 0
IsNone s session = (place : ℕ) (it : SessionState) → slice_get s.sessions place ≡ Some it → it.knows.number ≢ session

-- no session has this number, which is EINVAL
pub record HasNone (s : Users) (session : ℕ) (outcome : Outcome) (t : Users) : Type 0 where
  pub none : IsNone s session
  pub answer : outcome ≡ Reply (Refused EINVAL)
  pub same : t ≡ s

-- what a call of the session of this number is answered
abbrev pub MayAnswer : {A : Type 0} → Puts A → Geometry → Opening → Users → ℕ → ℕ → Call → Outcome → Users → Type 0
MayAnswer puts g v s session now call outcome t = IsOwnAnswer puts g v s session now call outcome t ⊎ HasNone s session outcome t

-- a new session, which is this user's and this group's, has this number, and has made no call
pub record IsNew (s : Users) (uid gid number : ℕ) (t : Users) : Type 0 where
  pub session : SessionState
  pub user : session.uid ≡ uid
  pub group : session.gid ≡ gid
  pub named : session.knows.number ≡ number
  pub none : session.knows.mine ≡ []
  pub last : t ≡ users (s.sessions ++ session ∷ []) s.met s.kept

-- a user and a group got a session, or none
abbrev pub IsEntered : Users → ℕ → ℕ → Result ℕ EnterRefusal → Users → Type 0
IsEntered s uid gid (Ok number) t = IsNew s uid gid number t
IsEntered s uid gid (Err e) t = t ≡ s

-- the session of this number ended, and the mount's own has then seen all that it had; the others stay
pub record IsOneGone (s : Users) (session : ℕ) (t : Users) : Type 0 where
  pub place : ℕ
  pub it : SessionState
  pub is : slice_get s.sessions place ≡ Some it
  pub number : it.knows.number ≡ session
  pub more : IsBeginning s.met t.met
  pub met : IsBeginning it.knows.seen t.met
  pub others : t ≡ users (remove s.sessions place) t.met s.kept

-- all ended so
pub record AreAllGone (s t : Users) : Type 0 where
  pub more : IsBeginning s.met t.met
  pub met : HaveSeen s.sessions t.met
  pub none : t ≡ users [] t.met s.kept

-- all sessions ended, or the one of a number, if there is one
abbrev pub HaveLeft : Users → Leaving → Users → Type 0
HaveLeft s leaving.All t = AreAllGone s t
HaveLeft s (leaving.One session) t = IsOneGone s session t ⊎ (IsNone s session × (t ≡ s))

-- how a message may be answered, by what sessions may answer: the message, its answer, and the sessions and the answerer before and after
abbrev pub Speaks : Type 0 → Type 1
Speaks W = (S : Type 0) → (S → ℕ → ℕ → Call → Outcome → S → Type 0) → (S → ℕ → ℕ → Result ℕ EnterRefusal → S → Type 0)
    → (S → Leaving → S → Type 0) → List ℕ → List ℕ → S → W → S → W → Type 0

-- A stream was messages, one after the other, and an answer to each went out, in the same order: as the answerer answers it by what was
-- asked of the mount's sessions, from none on, and by what the answerer knows, from its first state on. What each session has seen, whether
-- it ended or not, is a beginning of this record.
abbrev pub IsSpoken : {A W : Type 0} → Puts A → ℕ → Speaks W → W → Geometry → Opening → Option (List ℕ) → Option (List ℕ)
    → Option (List ℕ) → Bool → List Mark → Type 0
IsSpoken puts fewest speaks first g v stream old new kept marks = (begun : List Mark) × (last : Users)
    × IsAnsweredAll fewest (by_both (speaks Users (MayAnswer puts g v) IsEntered HaveLeft)) stream old new (users [] begun kept, first) last
    × IsBeginning last.met marks × HaveSeen last.sessions marks
