-- What a link's guarantee doesn't rest on.
use Rattle.std.proofs.Common.{◌≢◌, ℕ, ◌≤◌, List, ◌∷◌, le-add_right}
use Rattle.message.specs.declared.Incoming.{Incoming}
use Rattle.message.specs.declared.Incoming.TheVariants.{End, GaveUp}
use Rattle.tree.specs.declared.Who.{Who}
use Rattle.tree.specs.declared.Call.{Call}
use Rattle.tree.specs.Answers.{Answer}
use Rattle.records.specs.Marks.{Mark, Took, Flush}
use Rattle.records.specs.Opening.{Opening}
use Rattle.reissue.specs.Calls.{Truth}

-- the guarantee doesn't rest on calls: what holds of a record holds of it and a call
abbrev pub RestsNotOnCalls : Truth → Type 0
RestsNotOnCalls guarantee =
    (v : Opening) (marks : List Mark) (who : Who) (now : ℕ) (call : Call) (answer : Answer) → guarantee v marks
    → guarantee v (Took who now call answer ∷ marks)

-- nor on Flushes
abbrev pub RestsNotOnFlushes : Truth → Type 0
RestsNotOnFlushes guarantee = (v : Opening) (marks : List Mark) → guarantee v marks → guarantee v (Flush ∷ marks)

-- room for what is done on a message
abbrev pub enough_room : 33 ≤ 34
enough_room = le-add_right 33 1

-- a message that may be handed over between two calls: that the device was given up is told to a call, and an End is none
abbrev pub IsAside : Incoming → Type 0
IsAside message = (message ≢ End) × (message ≢ GaveUp)
