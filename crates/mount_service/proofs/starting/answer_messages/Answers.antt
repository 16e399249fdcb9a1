use Rattle.std.proofs.Common.{ℕ, List, map, subst}
use Rattle.std.specs.Prelude.{IfOk}
use Rattle.service_start.specs.Servable.{HasServed}
use Rattle.mount_service.specs.Left.{IsLeftBy}
use Rattle.mount_service.proofs.starting.answer_messages.Goals as goal

-- the media's bytes are the image's
pub returns-clause-played : goal.returns-clause-played
returns-clause-played g c =
    subst (λ (l : List ℕ). HasServed l c.args.setup.now (map g.D.BlockDriver.state c.args.supply.items) (λ h v.
    IfOk c.in_ok-start_and_answer.field-0 (λ came.
    IsLeftBy g.A.Archive.puts g.W.Answers.fewest g.W.Answers.answers c.args.streams.answerer h v
    (g.I.Read.remaining c.args.streams.input) (g.O.Write.contents c.args.streams.output) (g.O.Write.contents came.streams.output)
    c.args.streams.archive came.streams.archive came.answered came.last_sync came.image.items)))
    c.in_ok-checked.ensures.bytes c.in_ok-start_and_answer.ensures.played
