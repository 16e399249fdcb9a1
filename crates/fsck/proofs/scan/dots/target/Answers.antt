use Rattle.std.proofs.Common.{◌∙◌}
use Rattle.fsck.proofs.scan.dots.target.Goals as goal

pub returns : goal.returns
returns c = c.u32_at.ensures ∙ c.entry.ensures.number
