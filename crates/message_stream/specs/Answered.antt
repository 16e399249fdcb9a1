-- What answering the messages of a stream comes to, where the bytes of the streams are known.
use Rattle.std.specs.Prelude.{⊤, ◌≡◌, ℕ, List, [], ◌∷◌, ◌++◌, Option, Some, None, All}
use Rattle.std.specs.List.{concat}
use Rattle.std.specs.Io.KnownBytes.{Consumes, Appends}
use Rattle.message_stream.specs.Messages.{IsMessage}

-- One message was taken, and bytes went out, or none. A relation says of both that they are a message and its answer, and how the state of the
-- sessions went on with it.
pub record IsAnswered {S : Type 0} (fewest : ℕ) (answers : List ℕ → List ℕ → S → S → Type 0) (before after old new : Option (List ℕ))
    (s t : S) : Type 0 where
  pub message : List ℕ
  pub answer : List ℕ
  pub whole : IsMessage fewest message
  pub taken : Consumes before after message
  pub given : Appends old new answer
  pub leads : answers message answer s t

-- each of the answers is one to the message at its place, and so the state of the sessions went on from one to the next
abbrev pub Lead : {S : Type 0} → (List ℕ → List ℕ → S → S → Type 0) → List (List ℕ) → List (List ℕ) → S → S → Type 0
Lead answers [] [] s t = s ≡ t
Lead answers [] (r ∷ rs) s t = ⊥
Lead answers (m ∷ ms) [] s t = ⊥
Lead {S} answers (m ∷ ms) (r ∷ rs) s t = (u : S) × answers m r s u × Lead answers ms rs u t

-- messages were taken, one after the other, and an answer to each went out, in the same order
pub record AreAnswered {S : Type 0} (fewest : ℕ) (answers : List ℕ → List ℕ → S → S → Type 0) (before after old new : Option (List ℕ))
    (s t : S) : Type 0 where
  pub messages : List (List ℕ)
  pub replies : List (List ℕ)
  pub whole : All (IsMessage fewest) messages
  pub taken : Consumes before after (concat messages)
  pub given : Appends old new (concat replies)
  pub leads : Lead answers messages replies s t

-- bytes that are known are these
abbrev pub IsAllOf : Option (List ℕ) → List ℕ → Type 0
IsAllOf None bytes = ⊤
IsAllOf (Some known) bytes = known ≡ bytes

-- a stream was messages, one after the other, and an answer to each went out, in the same order
pub record IsAnsweredWhole {S : Type 0} (fewest : ℕ) (answers : List ℕ → List ℕ → S → S → Type 0) (stream old new : Option (List ℕ))
    (s t : S) : Type 0 where
  pub messages : List (List ℕ)
  pub replies : List (List ℕ)
  pub whole : All (IsMessage fewest) messages
  pub taken : IsAllOf stream (concat messages)
  pub given : Appends old new (concat replies)
  pub leads : Lead answers messages replies s t

-- The same, by states of two parts, of which the second one, the answerer's in the end, may be any.
abbrev pub IsAnsweredAll : {S K : Type 0} → ℕ → (List ℕ → List ℕ → S × K → S × K → Type 0) → Option (List ℕ) → Option (List ℕ)
    → Option (List ℕ) → S × K → S → Type 0
IsAnsweredAll {S} {K} fewest answers stream old new s t = (l : K) × IsAnsweredWhole fewest answers stream old new s (t, l)

-- a beginning of an answer went out, maybe all of it
abbrev pub AppendsSome : Option (List ℕ) → Option (List ℕ) → List ℕ → Type 0
AppendsSome old new answer = (part : List ℕ) × (rest : List ℕ) × (answer ≡ part ++ rest) × Appends old new part
