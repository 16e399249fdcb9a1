-- What is answered to a message.
use Rattle.std.specs.Prelude.{◌≡◌, ◌<◌, ◌+◌, ◌⊎◌, ℕ, Bool, true, false, List, [], ◌++◌, length, Result, Ok, Err}
use Rattle.errno.specs.declared.Errno.TheVariants.{EINVAL, ENOMEM}
use Rattle.fields.specs.declared.fault.MalformedMessage.{MalformedMessage}
use Rattle.fields.specs.Parts.{Gives}
use Rattle.fuse.specs.declared.request.Message.{Message}
use Rattle.fuse.specs.Reading.{request_at}
use Rattle.fuse.specs.Requests.{view}
use Rattle.fuse.specs.Replies.{IsReply, answer}
use Rattle.fuse_nodes.specs.Known.{Known}
use Rattle.fuse_nodes.specs.Laws.{Steps}
use Rattle.tree.specs.declared.Call.{Call}
use Rattle.tree.specs.declared.Outcome.{Outcome}
use Rattle.talks.specs.Talks.{MayHear}
use Rattle.talks.specs.declared.ask.Leaving.{Leaving}
use Rattle.talks.specs.declared.sessions.EnterRefusal.{EnterRefusal}
use Rattle.talks.specs.declared.ask.Ask.{Ask}
use Rattle.talks.specs.declared.heard.Heard.{Heard}
use Rattle.talks.specs.declared.refused.Refused.TheVariants.{By}
use Rattle.fuse_server.specs.declared.said.FuseAnswer.TheVariants as answer_of
use Rattle.fuse_server.specs.declared.said.Said.{Said}
use Rattle.fuse_server.specs.declared.said.Said.TheVariants as said
use Rattle.fuse_server.specs.Reach.{CalledFrom, reach_of}
use Rattle.fuse_server.specs.Telling.{AskedFor, telling}
use Rattle.fuse_server.specs.declared.work.Reach.{Reach}
use Rattle.fuse_server.specs.Kinds.{IsSaidTo, reply_to}
use Rattle.fuse_server.specs.Messages.{opcode_in, unique_in, is_silent}

-- what may be said at a time to what was read, by what is known before and behind it; nothing is asked for what can't be read
abbrev pub IsSaidToRead : {S : Type 0} → (Reach → S → Ask → Heard → S → Type 0) → ℕ → Known → Known → Result Message MalformedMessage
    → S → Said → S → Type 0
IsSaidToRead may now k l (Ok m) s it t =
    IsSaidTo l m.request it × AskedFor (may (reach_of k m)) (reach_of k m) (telling now m) l s it t
IsSaidToRead may now k l (Err fault) s it t = (it ≡ said.Plain (answer_of.Refused (By EINVAL))) × (t ≡ s)

-- What may be said to the bytes of a message. Calls name their paths from the message's own nodes, as they are known before it, alone.
abbrev pub IsSaidToBytes : {S : Type 0} → (Reach → S → Ask → Heard → S → Type 0) → ℕ → Known → Known → List ℕ → S → Said → S → Type 0
IsSaidToBytes may now k l bytes s it t = (read : Result Message MalformedMessage)
    × Gives (λ (m : Message). view m) read (request_at bytes) × IsSaidToRead may now k l read s it t

-- where the buffer has no room for the longest answer
abbrev pub no_memory : Said
no_memory = said.Plain (answer_of.Refused (By ENOMEM))

-- One answer more, with this number, stands behind those before.
abbrev pub IsSent : ℕ → Said → List ℕ → List ℕ → Type 0
IsSent unique it old new = IsReply (reply_to it) × (new ≡ old ++ answer unique (reply_to it))

-- One answer more, with this number: what may be said to the bytes, behind exchanges that led the sessions from one state to the other, or
-- that there is no memory, and then nothing was asked.
abbrev pub IsTold : {S : Type 0} → (Reach → S → Ask → Heard → S → Type 0) → ℕ → Known → Known → List ℕ → ℕ → ℕ → S → List ℕ → S → List ℕ
    → Type 0
IsTold may now k l bytes unique capacity s old t new = (it : Said) × IsSent unique it old new
    × (IsSaidToBytes may now k l bytes s it t ⊎ ((it ≡ no_memory) × (t ≡ s) × (capacity < length old + 65552)))

-- A message that has no answer: nothing is asked, and nothing is said.
abbrev pub IsAnsweredAs : {S : Type 0} → (Reach → S → Ask → Heard → S → Type 0) → ℕ → Known → Known → Bool → List ℕ → ℕ → S → List ℕ → S
    → List ℕ
    → Type 0
IsAnsweredAs may now k l true bytes capacity s old t new = (t ≡ s) × (new ≡ old)
IsAnsweredAs may now k l false bytes capacity s old t new = IsTold may now k l bytes (unique_in bytes) capacity s old t new

-- how a message is answered, into a buffer of this capacity, by what is known before and behind it
abbrev pub IsAnswered : {S : Type 0} → (Reach → S → Ask → Heard → S → Type 0) → ℕ → Known → Known → List ℕ → ℕ → S → List ℕ → S → List ℕ
    → Type 0
IsAnswered may now k l bytes capacity s old t new = IsAnsweredAs may now k l (is_silent (opcode_in bytes)) bytes capacity s old t new

-- what sessions may answer at a time to what a message asks that may name so much
abbrev pub MayHearFrom : {S : Type 0} → (S → ℕ → ℕ → Call → Outcome → S → Type 0) → (S → ℕ → ℕ → Result ℕ EnterRefusal → S → Type 0)
    → (S → Leaving → S → Type 0) → ℕ → Reach → S → Ask → Heard → S → Type 0
MayHearFrom called entered left now x = MayHear (CalledFrom x called) entered left now

-- How a mount answers a message at some time, into an empty buffer, by what sessions may answer. What is known goes on by steps alone, of
-- which the laws of fuse_nodes speak.
abbrev pub IsAnsweredBy : {S : Type 0} → (S → ℕ → ℕ → Call → Outcome → S → Type 0) → (S → ℕ → ℕ → Result ℕ EnterRefusal → S → Type 0)
    → (S → Leaving → S → Type 0) → Known → Known → List ℕ → List ℕ → S → S → Type 0
IsAnsweredBy called entered left k l bytes told s t =
    Steps k l × (now : ℕ) × (capacity : ℕ) × IsAnswered (MayHearFrom called entered left now) now k l bytes capacity s [] t told
