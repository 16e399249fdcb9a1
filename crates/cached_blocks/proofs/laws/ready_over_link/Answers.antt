use Rattle.cached_blocks.proofs.Links.{ready_over}
use Rattle.cached_blocks.proofs.laws.ready_over_link.Goals as goal

pub returns : goal.returns
returns g c = λ s link room budget ready. ready_over g.L.Link s link room budget ready
