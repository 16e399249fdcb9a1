use Rattle.std.proofs.Common.{refl}
use Rattle.volume.specs.Verdict.{verdict_of}
use Rattle.volume_commands.proofs.verify.verdict_on.Goals as goal

pub returns-in-Err-check-clause-refused : goal.returns-in-Err-check-clause-refused
returns-in-Err-check-clause-refused c =
    (verdict_of c.in-Ok.volume.now, (c.in-Some.bytes, c.in-Ok.volume.now, c.in-Some.is, c.in-Ok.ensures.volume, refl))
