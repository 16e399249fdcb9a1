use Rattle.std.proofs.Common.{refl, rules}
use Rattle.release.proofs.Releasing.{tells_none, tells_some}
use Rattle.release.proofs.telling.release_and_tell.Goals as goal

pub returns-then-count-gt0 : goal.returns-then-count-gt0
returns-then-count-gt0 g c = (c.in-Ok.count, c.in-Ok.ensures.ok, tells_some _ c.in-Ok.count _ _ c.tell.result (search rules) c.tell.ensures)

pub returns-else-count-gt0 : goal.returns-else-count-gt0
returns-else-count-gt0 g c = (c.in-Ok.count, c.in-Ok.ensures.ok, tells_none _ c.in-Ok.count _ _ (search rules) refl)
