use Rattle.std.proofs.Common.{refl, inl}
use Rattle.fsck.specs.Shown.{shown}
use Rattle.volume_commands.proofs.verify.try_verify.Goals as goal

pub returns-in_default-clause-refused : goal.returns-in_default-clause-refused
returns-in_default-clause-refused g c = inl ((shown c.in_ok-verdict.verdict, c.in_ok-verdict.ensures.verdict), refl)
