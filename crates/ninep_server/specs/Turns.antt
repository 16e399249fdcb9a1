-- What turns of an answer lie behind, of what was asked.
use Rattle.std.specs.Prelude.{⊤, ◌≡◌, List}
use Rattle.talks.specs.Talks.{Exchange, Leads, EndsInSync}
use Rattle.talks.specs.declared.ask.Ask.{Ask}
use Rattle.talks.specs.declared.heard.Heard.{Heard}
use Rattle.ninep_fids.specs.declared.answer.Said.{Said}
use Rattle.ninep_fids.specs.declared.answer.Said.TheVariants as said
use Rattle.ninep_server.specs.declared.turn.Turn.{Turn}
use Rattle.ninep_server.specs.declared.turn.Turn.TheVariants as turn

-- it isn't said that a sync was done
abbrev pub IsPlain : Turn → Type 0
IsPlain (turn.Go work) = ⊤
IsPlain (turn.Sync session) = ⊤
IsPlain (turn.Said (said.Plain answer)) = ⊤
IsPlain (turn.Said said.Synced) = ⊥

-- That a sync was done is said behind one alone.
abbrev pub IsBehindSync : Turn → List Exchange → Type 0
IsBehindSync (turn.Go work) log = ⊤
IsBehindSync (turn.Sync session) log = ⊤
IsBehindSync (turn.Said s) log = s ≡ said.Synced → EndsInSync log

-- By exchanges the sessions came from one state to another, and the answer to a message to this turn.
abbrev pub Reaches : {S : Type 0} → (S → Ask → Heard → S → Type 0) → S → Turn → S → Type 0
Reaches may s here t = (log : List Exchange) × Leads may s log t × IsBehindSync here log
