use Rattle.std.proofs.Common.{◌∙◌, sym, ap}
use Rattle.std.specs.Option.{option_copied}
use Rattle.media.proofs.Volumes.{placed}
use Rattle.media.proofs.partition.place.volume_place.Goals as goal

pub returns-in-Some-clause-place : goal.returns-in-Some-clause-place
returns-in-Some-clause-place c =
    c.partition_by.ensures.place
    ∙ sym (placed c.args.sectors.now c.args.minor c.in-Some.first.now c.if-minor-eq0.false (ap option_copied (sym c.in-Some.is) ∙ c.first.ensures.value))
