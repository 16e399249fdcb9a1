use Rattle.changes.proofs.UnitBytes.{unit_is}
use Rattle.changes.proofs.unit_at.Goals as goal

pub returns : goal.returns
returns c = unit_is c.args.image.now c.put_front.new.unit c.args.number c.min-first.result c.min-last.result c.min-first.ensures c.min-last.ensures c.put_front.ensures
