-- A server serves after each call and message.
use Rattle.records.specs.ServerCall.{Serving}
use Rattle.records.specs.Lives.{Begins, Calls, Absorbs, StillServes}

-- each call and each message keeps it
pub still_serves : {Server : Type 0} (serving : Server → Serving) → StillServes Server serving
still_serves serving image tree s marks (Begins s' marks' serves) = serves
still_serves serving image tree t marks (Calls s t' before who now call outcome keeps life) =
    keeps.serves image tree before (still_serves serving image tree s before life)
still_serves serving image tree t marks (Absorbs s t' before message keeps life) =
    keeps.serves image tree before (still_serves serving image tree s before life)
