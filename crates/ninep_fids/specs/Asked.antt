-- What is said behind exchanges with sessions.
use Rattle.std.specs.Prelude.{◌≡◌}
use Rattle.talks.specs.Talks.{Asked}
use Rattle.talks.specs.declared.ask.Ask.{Ask}
use Rattle.talks.specs.declared.heard.Heard.{Heard}
use Rattle.ninep_fids.specs.declared.answer.Said.{Said}
use Rattle.ninep_fids.specs.declared.answer.Said.TheVariants as said

-- What was said, behind exchanges that led the sessions from one state to another: that a sync was done, behind one alone.
abbrev pub HasAsked : {S : Type 0} → (S → Ask → Heard → S → Type 0) → S → Said → S → Type 0
HasAsked may s it t = Asked may s (it ≡ said.Synced) t
