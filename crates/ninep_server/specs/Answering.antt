-- What is answered to the bytes of a message.
use Rattle.std.specs.Prelude.{ℕ, List, Bool, true, false, Result, Ok, Err}
use Rattle.errno.specs.declared.Errno.TheVariants.{ENOMEM}
use Rattle.ninep.specs.Parts.{Gives}
use Rattle.ninep.specs.Reading.{request_at}
use Rattle.ninep.specs.Requests.{view}
use Rattle.ninep.specs.declared.fault.MalformedMessage.{MalformedMessage}
use Rattle.ninep.specs.declared.request.Message.{Message}
use Rattle.ninep_fids.specs.Knowledge.{Known}
use Rattle.ninep_fids.specs.Plans.{Plan, Follows, refuses}
use Rattle.ninep_fids.specs.Faults.{refusal_for}
use Rattle.talks.specs.declared.refused.Refused.TheVariants.{By}
use Rattle.talks.specs.declared.ask.Ask.{Ask}
use Rattle.talks.specs.declared.heard.Heard.{Heard}
use Rattle.ninep_fids.specs.declared.answer.Said.{Said}
use Rattle.ninep_server.specs.Messages.{plan_of}

abbrev pub plan_for : Known → ℕ → Result Message MalformedMessage → Plan
plan_for k now (Ok m) = plan_of k now m.request
plan_for k now (Err fault) = refuses (refusal_for fault)

-- The plan for what these bytes say is followed; where there is no room for the longest answer, ENOMEM is said and nothing is asked.
abbrev pub IsAnswered : {S : Type 0} → (S → Ask → Heard → S → Type 0) → ℕ → List ℕ → Bool → S → Known → Said → S → Known → Type 0
IsAnswered may now bytes true s k it t l =
    (read : Result Message MalformedMessage) × Gives (λ (m : Message). view m) read (request_at bytes) × Follows may (plan_for k now read) s k it t l
IsAnswered may now bytes false s k it t l = Follows may (refuses (By ENOMEM)) s k it t l
