use Rattle.std.proofs.Common.{refl}
use Rattle.redo.proofs.Writing.{head_made}
use Rattle.redo.proofs.parts.head.Goals as goal

pub returns : goal.returns
returns c = head_made c.args.name c.args.count c.put_bytes.new.unit c.put_bytes-2.new.unit c.put_bytes-3.new.unit _ c.to_be_bytes.result c.to_be_bytes-2.result refl c.to_be_bytes.ensures c.to_be_bytes-2.ensures c.put_bytes.ensures c.put_bytes-2.ensures c.put_bytes-3.ensures
