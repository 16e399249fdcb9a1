use Rattle.std.proofs.Common.{map}
use Rattle.std.specs.Prelude.{IfOk}
use Rattle.service_start.proofs.Servable.{has_served}
use Rattle.mount_service.specs.Left.{IsLeftBy}
use Rattle.mount_service.proofs.starting.start_and_answer.Goals as goal

pub returns : goal.returns
returns g c = record {
  played =
      has_served g.N.ServiceParameters.opening.media c.args.setup.now (map g.D.BlockDriver.state c.args.supply.items)
      c.args.checked.prepared.range g.N.ServiceParameters.opening g.N.ServiceParameters.geometry c.args.checked.clean.geometry
      (λ h v o. IfOk o (λ came. IsLeftBy g.A.Archive.puts g.W.Answers.fewest g.W.Answers.answers c.args.streams.answerer h v
      (g.I.Read.remaining c.args.streams.input) (g.O.Write.contents c.args.streams.output) (g.O.Write.contents came.streams.output)
      c.args.streams.archive came.streams.archive came.answered came.last_sync came.image.items))
      c.open_and_answer.result c.requires.at_hand.opening c.requires.at_hand.prepared c.requires.clean.sizes c.requires.clean.holds
      c.open_and_answer.ensures.played;
}
