use Rattle.std.proofs.Common.{◌≡◌, sym, ◌∙◌, ap}
use Rattle.std.specs.Prelude.{Some}
use Rattle.modeldisk.specs.Mover.{run_of}
use Rattle.modeldisk.proofs.MoverLaws.{next_past, next_some}
use Rattle.modeldisk.proofs.sector_mover.mover.Mover.next_sector.Goals as goal

pub returns-then-self-run : goal.returns-then-self-run
returns-then-self-run c =
    let is : run_of c.args.self.now ≡ Some c.in_ok-run.run' = sym c.plan.ensures.value ∙ c.in_ok-run.was in
    sym (next_past c.args.self.now.from _ c.in_ok-run.run' c.args.self.now.done is c.if-self-run.true)

pub returns : goal.returns
returns c =
    let is : run_of c.args.self.now ≡ Some c.in_ok-run.run' = sym c.plan.ensures.value ∙ c.in_ok-run.was in
    ap Some (sym c.number_at.ensures.at) ∙ sym (next_some c.args.self.now.from _ c.in_ok-run.run' c.args.self.now.done is c.if-self-run.false)
