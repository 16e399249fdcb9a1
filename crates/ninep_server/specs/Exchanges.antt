-- How a message is answered by a connection.
use Rattle.std.specs.Prelude.{ℕ, List, [], Result}
use Rattle.tree.specs.declared.Call.{Call}
use Rattle.tree.specs.declared.Outcome.{Outcome}
use Rattle.ninep_server.specs.Connections.{Answers, Says}
use Rattle.ninep_fids.specs.Knowledge.{Known}
use Rattle.ninep_fids.specs.Written.{tag_in}
use Rattle.talks.specs.Talks.{MayHear}
use Rattle.talks.specs.declared.ask.Leaving.{Leaving}
use Rattle.talks.specs.declared.sessions.EnterRefusal.{EnterRefusal}

-- what is known where a connection begins: nobody is attached
abbrev pub nobody : Known
nobody = record { message_size = 65560; users = []; fids = [] }

-- At some time, and with some room for an answer, a connection answers this message so, by what it knows and asks of the sessions: as the
-- plan of the message says, and by what it asks and nothing else. So the sessions go on, and what is known does.
abbrev pub IsExchanged : (S : Type 0) → (S → ℕ → ℕ → Call → Outcome → S → Type 0) → (S → ℕ → ℕ → Result ℕ EnterRefusal → S → Type 0)
    → (S → Leaving → S → Type 0) → List ℕ → List ℕ → S → Known → S → Known → Type 0
IsExchanged S called entered left message answer s k t l = (now : ℕ) × (capacity : ℕ)
    × Answers (MayHear called entered left now) (tag_in message) l.message_size s t [] answer
    × Says (MayHear called entered left now) now message s k t l 0 capacity [] answer
