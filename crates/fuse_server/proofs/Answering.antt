-- How a message is answered, from what is said to it.
use Rattle.std.proofs.Common.{◌≡◌, ◌∙◌, ◌↔◌, ◌<◌, ◌+◌, ℕ, Bool, true, false, IsTrue, List, [], ◌++◌, length, Result, Ok, Err, OnOk, OnErr}
use Rattle.std.proofs.Common.{refl, sym, ap, subst, inl, inr}
use Rattle.errno.specs.declared.Errno.TheVariants.{EINVAL}
use Rattle.fields.specs.declared.fault.MalformedMessage.{MalformedMessage}
use Rattle.fields.specs.Parts.{Gives}
use Rattle.fuse.specs.declared.request.Message.{Message}
use Rattle.fuse.specs.Reading.{request_at}
use Rattle.fuse.specs.Requests.{view}
use Rattle.fuse.specs.declared.reply.Reply.{Reply}
use Rattle.fuse.specs.Replies.{answer}
use Rattle.fuse_nodes.specs.Known.{Known}
use Rattle.fuse_nodes.specs.Laws.{Steps}
use Rattle.tree.specs.declared.Call.{Call}
use Rattle.tree.specs.declared.Outcome.{Outcome}
use Rattle.talks.specs.declared.ask.Leaving.{Leaving}
use Rattle.talks.specs.declared.sessions.EnterRefusal.{EnterRefusal}
use Rattle.talks.specs.declared.ask.Ask.{Ask}
use Rattle.talks.specs.declared.heard.Heard.{Heard}
use Rattle.talks.specs.declared.refused.Refused.TheVariants.{By}
use Rattle.fuse_server.specs.declared.said.FuseAnswer.TheVariants as answer_of
use Rattle.fuse_server.specs.declared.said.Said.{Said}
use Rattle.fuse_server.specs.declared.said.Said.TheVariants as said
use Rattle.fuse_server.specs.Reach.{reach_of}
use Rattle.fuse_server.specs.Telling.{AskedFor, telling}
use Rattle.fuse_server.specs.declared.work.Reach.{Reach}
use Rattle.fuse_server.specs.Messages.{opcode_in, unique_in, is_silent}
use Rattle.fuse_server.specs.Kinds.{IsSaidTo, reply_to}
use Rattle.fuse_server.specs.Answering.{IsSaidToRead, IsSaidToBytes, IsSent, IsTold, IsAnswered, IsAnsweredAs, IsAnsweredBy, MayHearFrom, no_memory}
use Rattle.fuse_server.proofs.Replies.{said_is_reply, has_bytes}

-- the reply of what is said was written
pub sent : (unique : ℕ) (it : Said) (r : Reply) (old new : List ℕ) → ((u : ℕ) → answer u r ≡ answer u (reply_to it))
    → new ≡ old ++ answer unique r → IsSent unique it old new
sent unique it r old new same is = (said_is_reply it, is ∙ ap (λ (x : List ℕ). old ++ x) (same unique))

-- what is said to bytes was written
pub told : {S : Type 0} (may : Reach → S → Ask → Heard → S → Type 0) (now : ℕ) (k l : Known) (bytes : List ℕ) (unique capacity : ℕ) (s : S)
    (old mid : List ℕ) (t : S) (new : List ℕ) (it : Said) → mid ≡ old → IsSaidToBytes may now k l bytes s it t
    → IsSent unique it mid new → IsTold may now k l bytes unique capacity s old t new
told may now k l bytes unique capacity s old mid t new it same fits written =
    let P : List ℕ → Type 0 = λ x. IsSent unique it x new in (it, subst P same written, inl fits)

-- there was no room for the longest answer
pub no_room : {S A E : Type 0} (may : Reach → S → Ask → Heard → S → Type 0) (now : ℕ)
    (k l : Known) (bytes : List ℕ) (unique capacity : ℕ) (s : S)
    (old mid new : List ℕ) (r : Result A E) → mid ≡ old → capacity < length old + 65552 → OnOk r (IsSent unique no_memory mid new)
    → OnOk r (IsTold may now k l bytes unique capacity s old s new)
no_room may now k l bytes unique capacity s old mid new (Ok a) same less written =
    let P : List ℕ → Type 0 = λ x. IsSent unique no_memory x new in
    (no_memory, subst P same written, inr (refl, refl, less))
no_room may now k l bytes unique capacity s old mid new (Err e) same less written = tt

-- a message that has an answer was answered
pub loud : {S A E : Type 0} (may : Reach → S → Ask → Heard → S → Type 0) (now : ℕ)
    (k l : Known) (bytes : List ℕ) (opcode unique capacity : ℕ) (s : S)
    (old : List ℕ) (t : S) (new : List ℕ) (r : Result A E) → opcode ≡ opcode_in bytes → unique ≡ unique_in bytes → is_silent opcode ≡ false
    → OnOk r (IsTold may now k l bytes unique capacity s old t new) → OnOk r (IsAnswered may now k l bytes capacity s old t new)
loud may now k l bytes opcode unique capacity s old t new (Ok a) same_opcode same_unique answers it =
    let U : ℕ → Type 0 = λ u. IsTold may now k l bytes u capacity s old t new in
    let L : ℕ → Type 0 = λ o. is_silent o ≡ false in
    let P : Bool → Type 0 = λ b. IsAnsweredAs may now k l b bytes capacity s old t new in
    subst P (sym (subst L same_opcode answers)) (subst U same_unique it)
loud may now k l bytes opcode unique capacity s old t new (Err e) same_opcode same_unique answers it = tt

-- one that has none was not
pub silently : {S : Type 0}
    (may : Reach → S → Ask → Heard → S → Type 0) (now : ℕ) (k l : Known) (bytes : List ℕ) (opcode capacity : ℕ) (s : S) (old : List ℕ)
    → opcode ≡ opcode_in bytes → is_silent opcode ≡ true → IsAnswered may now k l bytes capacity s old s old
silently may now k l bytes opcode capacity s old same_opcode silent =
    let L : ℕ → Type 0 = λ o. is_silent o ≡ true in
    let P : Bool → Type 0 = λ b. IsAnsweredAs may now k l b bytes capacity s old s old in
    subst P (sym (subst L same_opcode silent)) (refl, refl)

never : (b : Bool) → b ≡ false → IsTrue b → ⊥
never true e h = cc
never false e h = cc

-- an answer has bytes
pub loud_has_bytes : {S A E : Type 0}
    (may : Reach → S → Ask → Heard → S → Type 0) (now : ℕ) (k l : Known) (bytes : List ℕ) (opcode unique capacity : ℕ) (s : S)
    (old : List ℕ) (t : S) (new : List ℕ) (r : Result A E) → opcode ≡ opcode_in bytes → is_silent opcode ≡ false
    → OnOk r (IsTold may now k l bytes unique capacity s old t new) → OnOk r ((new ≡ old) ↔ IsTrue (is_silent (opcode_in bytes)))
loud_has_bytes may now k l bytes opcode unique capacity s old t new (Ok a) same_opcode answers (it, written, fits) =
    let L : ℕ → Type 0 = λ o. is_silent o ≡ false in (
      λ same. absurd (has_bytes unique (reply_to it) old new written.1 same),
      λ silent. absurd (never (is_silent (opcode_in bytes)) (subst L same_opcode answers) silent),
    )
loud_has_bytes may now k l bytes opcode unique capacity s old t new (Err e) same_opcode answers it = tt

-- what was read is answered
pub to_read : {S : Type 0} (may : Reach → S → Ask → Heard → S → Type 0) (now : ℕ) (k l : Known) (bytes : List ℕ)
    (read : Result Message MalformedMessage) (m : Message) (s : S) (it : Said) (t : S) (x : Reach) → read ≡ Ok m
    → Gives (λ (y : Message). view y) read (request_at bytes) → x ≡ reach_of k m → IsSaidTo l m.request it
    → AskedFor (may x) x (telling now m) l s it t → IsSaidToBytes may now k l bytes s it t
to_read may now k l bytes read m s it t x is gives reach fits asked =
    let P : Result Message MalformedMessage → Type 0 = λ r. IsSaidToRead may now k l r s it t in
    let Q : Reach → Type 0 = λ y. AskedFor (may y) y (telling now m) l s it t in
    (read, gives, subst P (sym is) (fits, subst Q reach asked))

-- what can't be read is refused
pub to_unread : {S : Type 0} (may : Reach → S → Ask → Heard → S → Type 0) (now : ℕ) (k l : Known) (bytes : List ℕ)
    (read : Result Message MalformedMessage) (fault : MalformedMessage) (s : S) → read ≡ Err fault
    → Gives (λ (y : Message). view y) read (request_at bytes)
    → IsSaidToBytes may now k l bytes s (said.Plain (answer_of.Refused (By EINVAL))) s
to_unread may now k l bytes read fault s is gives =
    let P : Result Message MalformedMessage → Type 0 = λ r. IsSaidToRead may now k l r s (said.Plain (answer_of.Refused (By EINVAL))) s in
    (read, gives, subst P (sym is) (refl, refl))

-- a message is answered into an empty buffer
pub by_any : {S A E : Type 0} (called : S → ℕ → ℕ → Call → Outcome → S → Type 0) (entered : S → ℕ → ℕ → Result ℕ EnterRefusal → S → Type 0)
    (left : S → Leaving → S → Type 0) (now : ℕ) (k l : Known) (bytes : List ℕ) (capacity : ℕ) (s : S) (old : List ℕ) (t : S) (new : List ℕ)
    (r : Result A E) → old ≡ [] → Steps k l → OnOk r (IsAnswered (MayHearFrom called entered left now) now k l bytes capacity s old t new)
    → OnOk r (IsAnsweredBy called entered left k l bytes new s t)
by_any called entered left now k l bytes capacity s old t new (Ok a) empty steps it =
    let P : List ℕ → Type 0 = λ x. IsAnswered (MayHearFrom called entered left now) now k l bytes capacity s x t new in
    (steps, now, capacity, subst P empty it)
by_any called entered left now k l bytes capacity s old t new (Err e) empty steps it = tt

-- nothing was asked, and an empty buffer stays so
pub stays_empty : {S M A E : Type 0} (s t : S) (m n : M) (old new : List ℕ) (r : Result A E) → old ≡ []
    → OnErr r ((t ≡ s) × (n ≡ m) × (new ≡ old)) → OnErr r ((t ≡ s) × (new ≡ []))
stays_empty s t m n old new (Ok a) empty it = tt
stays_empty s t m n old new (Err e) empty it = (it.0, it.2 ∙ empty)
