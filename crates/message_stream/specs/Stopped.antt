-- What was answered where a stream is answered no further.
use Rattle.std.specs.Prelude.{⊤, ◌≡◌, ℕ, List, Option}
use Rattle.std.specs.Io.KnownBytes.{Appends, Consumes, Keeps, IsAtEnd}
use Rattle.message_stream.specs.Messages.{IsMessage}
use Rattle.message_stream.specs.Answered.{AreAnswered, AppendsSome}
use Rattle.message_stream.specs.declared.framing.InputRefusal.TheVariants.{CutShort}
use Rattle.message_stream.specs.declared.answering.StreamRefusal.{StreamRefusal}
use Rattle.message_stream.specs.declared.answering.StreamRefusal.TheVariants.{Input, OutOfMemory, NotWritten}

-- no message came: a stream that ends within a message has no byte left
abbrev pub IsUnread : StreamRefusal → Option (List ℕ) → Type 0
IsUnread (Input CutShort) after = IsAtEnd after
IsUnread (Input r) after = ⊤
IsUnread e after = ⊥

-- a message is answered so, and that went out
pub record Responds {S : Type 0} (answers : List ℕ → List ℕ → S → S → Type 0) (message : List ℕ) (old new : Option (List ℕ))
    (s t : S) : Type 0 where
  pub answer : List ℕ
  pub given : Appends old new answer
  pub leads : answers message answer s t

-- why it isn't: no memory, and the state stays; or of its answer a beginning went out, maybe all of it
abbrev pub RespondsNot : {S : Type 0} → (List ℕ → List ℕ → S → S → Type 0) → StreamRefusal → List ℕ → Option (List ℕ) → Option (List ℕ)
    → S → S → Type 0
RespondsNot answers OutOfMemory message old new s t = Keeps old new × (t ≡ s)
RespondsNot answers NotWritten message old new s t = (answer : List ℕ) × AppendsSome old new answer × answers message answer s t
RespondsNot answers e message old new s t = ⊥

-- It stops before an answer: of one message more a beginning was taken, maybe all of it; nothing went out, and the state stays.
pub record StopsSilent {S : Type 0} (before after old new : Option (List ℕ)) (s t : S) : Type 0 where
  pub part : List ℕ
  pub taken : Consumes before after part
  pub silent : Keeps old new
  pub same : t ≡ s

-- It stops within an answer: one message more was taken, and of its answer a beginning went out, maybe all of it.
pub record StopsWriting {S : Type 0} (fewest : ℕ) (answers : List ℕ → List ℕ → S → S → Type 0) (before after old new : Option (List ℕ))
    (s t : S) : Type 0 where
  pub message : List ℕ
  pub answer : List ℕ
  pub whole : IsMessage fewest message
  pub taken : Consumes before after message
  pub given : AppendsSome old new answer
  pub leads : answers message answer s t

-- by why it stops: within an answer where that can't be written, else before one
abbrev pub Stops : {S : Type 0} → ℕ → (List ℕ → List ℕ → S → S → Type 0) → StreamRefusal → Option (List ℕ) → Option (List ℕ)
    → Option (List ℕ) → Option (List ℕ) → S → S → Type 0
Stops fewest answers (Input r) before after old new s t = StopsSilent before after old new s t × IsUnread (Input r) after
Stops fewest answers NotWritten before after old new s t = StopsWriting fewest answers before after old new s t
Stops fewest answers e before after old new s t = StopsSilent before after old new s t

-- messages were answered, one after the other, and then it stopped
pub record IsStoppedAt {S : Type 0} (fewest : ℕ) (answers : List ℕ → List ℕ → S → S → Type 0) (e : StreamRefusal)
    (before after old new : Option (List ℕ)) (s t : S) : Type 0 where
  pub between : Option (List ℕ)
  pub written : Option (List ℕ)
  pub here : S
  pub answered : AreAnswered fewest answers before between old written s here
  pub stops : Stops fewest answers e between after written new here t

-- The same, by states of two parts, of which the second one, the answerer's in the end, may be any.
abbrev pub IsStopped : {S K : Type 0} → ℕ → (List ℕ → List ℕ → S × K → S × K → Type 0) → StreamRefusal → Option (List ℕ) → Option (List ℕ)
    → Option (List ℕ) → Option (List ℕ) → S × K → S → Type 0
IsStopped {S} {K} fewest answers e before after old new s t = (l : K) × IsStoppedAt fewest answers e before after old new s (t, l)
