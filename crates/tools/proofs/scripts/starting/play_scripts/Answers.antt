use Rattle.std.proofs.Common.{ℕ, List, map, subst}
use Rattle.std.specs.Prelude.{IfOk}
use Rattle.call_text.specs.Said.{said}
use Rattle.call_text.specs.declared.scripts.script.Script.{Script}
use Rattle.service_start.specs.Servable.{HasServed}
use Rattle.service_start.specs.Spent.{IsSpent}
use Rattle.tools.specs.Served.{AreServed}
use Rattle.tools.proofs.scripts.starting.play_scripts.Goals as goal

-- the media's bytes are the image's
pub returns-clause-played : goal.returns-clause-played
returns-clause-played g c =
    let Played : List ℕ → List Script → Type 0 = λ l s. HasServed l c.args.setup.now (map g.D.BlockDriver.state c.args.supply.items) (λ h v.
    IfOk c.in_ok-start_and_play.field-0 (λ came.
    AreServed IsSpent h v (map said s) came.sessions.items came.last_sync came.image.items)) in
    subst (λ l. Played l c.args.scripts.items) c.in_ok-checked.ensures.bytes
    (subst (Played _) c.as_slice.ensures.value c.in_ok-start_and_play.ensures.played)
