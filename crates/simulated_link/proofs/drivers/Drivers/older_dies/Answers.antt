use Rattle.std.proofs.Common.{refl, arith}
use Rattle.simulated_link.specs.Disks.{NoneDies, NotStarted, OlderIsDead}
use Rattle.simulated_link.proofs.DisksLaws.{is_older, older_dies}
use Rattle.simulated_link.proofs.drivers.Drivers.older_dies.Goals as goal

pub returns-in_default : goal.returns-in_default
returns-in_default g c = NoneDies (NotStarted c.in_default.ensures.none)

pub returns-then-not-index : goal.returns-then-not-index
returns-then-not-index g c =
    NoneDies (OlderIsDead _ _ (is_older _ _ _ _ _ _ refl c.in-Some.ensures.number c.in-Some.ensures.before (omega (arith, c.in-Some.ensures.there, c.args.self.now.older.ok.0)) c.index.ensures) c.if-not-index.true)

pub returns : goal.returns
returns g c =
    older_dies _ _ _ _ _ _ _ _ _ refl c.in-Some.ensures.number c.in-Some.ensures.before (omega (arith, c.in-Some.ensures.there, c.args.self.now.older.ok.0)) c.index.ensures c.index_mut.ensures.value
    c.if-not-index.false refl
