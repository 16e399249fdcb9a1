use Rattle.lemmas.proofs.Lists.{bytes_are_low}
use Rattle.migrate.proofs.are_bytes.Goals as goal

pub returns : goal.returns
returns c = bytes_are_low c.args.bytes.now c.type_inv.bytes
