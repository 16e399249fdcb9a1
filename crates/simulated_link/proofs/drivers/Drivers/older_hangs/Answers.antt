use Rattle.std.proofs.Common.{refl, arith}
use Rattle.simulated_link.specs.Disks.{NoneHangs}
use Rattle.simulated_link.proofs.DisksLaws.{older_hangs}
use Rattle.simulated_link.proofs.drivers.Drivers.older_hangs.Goals as goal

pub returns-in_default : goal.returns-in_default
returns-in_default g c = NoneHangs c.in_default.ensures.none

pub returns : goal.returns
returns g c = older_hangs _ _ _ _ _ _ _ refl c.in-Some.ensures.number c.in-Some.ensures.before (omega (arith, c.in-Some.ensures.there, c.args.self.now.older.ok.0)) c.index_mut.ensures.value refl
