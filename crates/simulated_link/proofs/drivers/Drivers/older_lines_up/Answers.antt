use Rattle.std.proofs.Common.{refl, arith}
use Rattle.simulated_link.specs.Disks.{NoneLinesUp, Dead, OlderIsFull, NotStarted, OlderIsDead}
use Rattle.simulated_link.proofs.DisksLaws.{is_older, older_lines, lined_slot}
use Rattle.simulated_link.proofs.drivers.Drivers.older_lines_up.Goals as goal
use Rattle.simulated_link.proofs.drivers.Drivers.older_lines_up.Goals.{then-not-index-via-then-not-index, then-not-index-via-else-not-index+then-len-ge-FEW}

pub returns-in_default : goal.returns-in_default
returns-in_default g c = NoneLinesUp (Dead (NotStarted c.in_default.ensures.none))

pub returns-then-not-index : goal.returns-then-not-index
returns-then-not-index g c = elim c.then-not-index.branch [
  | then-not-index-via-then-not-index w ↦ NoneLinesUp
      (Dead (OlderIsDead _ _ (is_older _ _ _ _ _ _ refl c.in-Some.ensures.number c.in-Some.ensures.before (omega (arith, c.in-Some.ensures.there, c.args.self.now.older.ok.0)) c.index.ensures) w.if-not-index.true))
  | then-not-index-via-else-not-index+then-len-ge-FEW w ↦ NoneLinesUp
      (OlderIsFull _ _ (is_older _ _ _ _ _ _ refl c.in-Some.ensures.number c.in-Some.ensures.before (omega (arith, c.in-Some.ensures.there, c.args.self.now.older.ok.0)) w.index-else-not-index.ensures)
      (omega (arith, w.len.ensures, w.if-len-ge-FEW.true, w.index-else-not-index.result.now.line.ok.0)))
]

pub returns : goal.returns
returns g c =
    older_lines _ _ _ _ _ _ _ _ _ _ refl c.in-Some.ensures.number c.in-Some.ensures.before (omega (arith, c.in-Some.ensures.there, c.args.self.now.older.ok.0)) c.index.ensures c.index-else-not-index.ensures
    c.index_mut.ensures.value
    c.if-not-index.false (omega (arith, c.len.ensures, c.if-len-ge-FEW.false, c.index-else-not-index.result.now.line.ok.0))
    (lined_slot _ _ _ c.push_back_reserved.ensures.items)
