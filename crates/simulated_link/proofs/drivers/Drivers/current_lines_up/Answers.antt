use Rattle.std.proofs.Common.{sym, arith}
use Rattle.simulated_link.specs.Disks.{NoneLinesUp, Dead, CurrentIsFull, CurrentIsDead}
use Rattle.simulated_link.proofs.DisksLaws.{current_lines}
use Rattle.simulated_link.proofs.drivers.Drivers.current_lines_up.Goals as goal
use Rattle.simulated_link.proofs.drivers.Drivers.current_lines_up.Goals.{then-not-self-via-then-not-self, then-not-self-via-else-not-self+then-len-ge-FEW}

pub returns-then-not-self : goal.returns-then-not-self
returns-then-not-self g c = elim c.then-not-self.branch [
  | then-not-self-via-then-not-self w ↦ NoneLinesUp (Dead (CurrentIsDead (sym c.args.self.now.current_is) w.if-not-self.true))
  | then-not-self-via-else-not-self+then-len-ge-FEW w ↦ NoneLinesUp
      (CurrentIsFull (sym c.args.self.now.current_is) (omega (arith, w.len.ensures, w.if-len-ge-FEW.true, c.args.self.now.current.line.ok.0)))
]

pub returns : goal.returns
returns g c =
    current_lines _ _ _ _ (sym c.args.self.now.current_is) c.if-not-self.false
    (omega (arith, c.len.ensures, c.if-len-ge-FEW.false, c.args.self.now.current.line.ok.0)) c.push_back_reserved.ensures.items
