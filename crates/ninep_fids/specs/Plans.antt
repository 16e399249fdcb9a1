-- How a message is answered: what is asked of the sessions, one thing after the other, and what is said in the end, as a function of what
-- was heard.
use Rattle.std.specs.Prelude.{◌≡◌, ◌⊎◌, ℕ, Bool, true, false, List, [], ◌∷◌, ◌++◌, Option, Some, None, Result, Ok, Err}
use Rattle.std.specs.Ordering.{nat_cmp}
use Rattle.std.specs.BTreeMap.{is_at, insert_entry}
use Rattle.std.specs.Map.{set_value}
use Rattle.errno.specs.declared.Errno.TheVariants.{ENOMEM}
use Rattle.ninep.specs.Fields.{Four, Field, Number}
use Rattle.ninep.specs.Requests.{Body}
use Rattle.tree.specs.declared.Call.{Call}
use Rattle.tree.specs.declared.Call.TheVariants as call
use Rattle.talks.specs.Plain.{plain}
use Rattle.ninep_fids.specs.Knowledge.{Known, File, parted}
use Rattle.ninep_fids.specs.Fids.{IsRenamed, IsUnlinked, EachBecomes}
use Rattle.talks.specs.Numbers.{number_of}
use Rattle.ninep_fids.specs.Written.{said_number, said_fields}
use Rattle.ninep_fids.specs.declared.users.User.{User}
use Rattle.talks.specs.declared.refused.Refused.{Refused}
use Rattle.talks.specs.declared.refused.Refused.TheVariants.{By}
use Rattle.talks.specs.declared.ask.Leaving.TheVariants.{One}
use Rattle.talks.specs.declared.ask.Ask.{Ask}
use Rattle.talks.specs.declared.ask.Ask.TheVariants as ask
use Rattle.talks.specs.declared.heard.Heard.{Heard}
use Rattle.ninep_fids.specs.declared.answer.Said.{Said}

-- what becomes of what is known
pub data Change : Type 0 where
  -- a connection begins, whose messages have at most so many bytes
  Begins : ℕ → Change
  -- a user is attached
  Attaches : User → Change
  -- a number that stood for nothing stands for this
  Puts : ℕ → File → Change
  -- a fid stands for this in place of what it stood for
  Becomes : ℕ → File → Change
  -- a fid is let go, and its user, who is this one, where no other fid is that one's
  Drops : ℕ → ℕ → Change
  -- a name became another one
  Renames : (old new : List ℕ) → Change
  -- a name was taken away
  Unlinks : List ℕ → Change

abbrev pub IsChanged : Change → Known → Known → Type 0
IsChanged (Begins most) k l = l ≡ record { message_size = most; users = []; fids = [] }
IsChanged (Attaches user) k l = l ≡ record k { users = k.users ++ user ∷ [] }
IsChanged (Puts fid file) k l = l ≡ record k { fids = insert_entry nat_cmp k.fids fid file }
IsChanged (Becomes fid file) k l = l ≡ record k { fids = set_value (is_at (nat_cmp fid)) k.fids file }
IsChanged (Drops fid uid) k l = l ≡ parted k fid uid
IsChanged (Renames old new) k l =
    (fids : List (ℕ × File)) × EachBecomes (IsRenamed old new) k.fids fids × (l ≡ record k { fids = fids })
IsChanged (Unlinks path) k l = (fids : List (ℕ × File)) × EachBecomes (IsUnlinked path) k.fids fids × (l ≡ record k { fids = fids })

pub data Plan : Type 0 where
  -- this is said, where data and texts have at most so many bytes
  Says : (ℕ → Body) → Plan
  -- this is asked, and it goes on by what is heard
  Asks : Ask → (Heard → Plan) → Plan
  -- what is known changes, and it goes on
  Changes : Change → Plan → Plan
  -- it goes on, or no memory is found for that, and ENOMEM is said
  OrNoMemory : Plan → Plan

abbrev pub body_said : Said → ℕ → Body
body_said it most = record { number = said_number it; fields = said_fields most it }

abbrev pub reply : ℕ → List Field → ℕ → Body
reply number fields most = record { number = number; fields = fields }

-- Rlerror
abbrev pub error : Refused → ℕ → Body
error refused = reply 7 (Number Four (number_of refused) ∷ [])

abbrev pub refuses : Refused → Plan
refuses refused = Says (error refused)

-- how it goes on where something was found
abbrev pub with_it : {A : Type 0} → Result A Refused → (A → Plan) → Plan
with_it (Ok a) next = next a
with_it (Err refused) next = refuses refused

abbrev pub calls : ℕ → Call → (Heard → Plan) → Plan
calls session c next = Asks (ask.Call session c) next

-- a descriptor is closed, if there is one, and then this is said, whatever the close says
abbrev pub closing : ℕ → Option ℕ → (ℕ → Body) → Plan
closing session None body = Says body
closing session (Some fd) body = calls session (call.Close fd) (λ h. Says body)

-- a session ends, which closes its descriptors, and then this is said
abbrev pub ending : ℕ → (ℕ → Body) → Plan
ending session body = Asks (ask.Leave (One session)) (λ h. Says body)

-- A fid was let go: its descriptor is closed, if there is one, where its user stays; else its user's session ends. Then this is said.
abbrev pub letting_go : Bool → ℕ → Option ℕ → (ℕ → Body) → Plan
letting_go true session descriptor body = closing session descriptor body
letting_go false session descriptor body = ending session body

abbrev pub IsSaid : Said → (ℕ → Body) → Type 0
IsSaid it body = (most : ℕ) → body_said it most ≡ body most

-- A plan is followed: the sessions come from one state to another by what it asks, and by nothing else; this is said in the end, and what
-- is known has become this. The first argument says what the sessions may answer.
abbrev pub Follows : {S : Type 0} → (S → Ask → Heard → S → Type 0) → Plan → S → Known → Said → S → Known → Type 0
Follows may (Says body) s k it t l = IsSaid it body × (t ≡ s) × (l ≡ k)
Follows {S} may (Asks asked next) s k it t l =
    (a : Ask) × (h : Heard) × (u : S) × (plain a ≡ asked) × may s a h u × Follows may (next h) u k it t l
Follows may (Changes change next) s k it t l = (m : Known) × IsChanged change k m × Follows may next s m it t l
Follows may (OrNoMemory next) s k it t l = Follows may next s k it t l ⊎ (IsSaid it (error (By ENOMEM)) × (t ≡ s) × (l ≡ k))
