use Rattle.std.proofs.Common.{refl}
use Rattle.migrate.proofs.Marked.{bit_marked}
use Rattle.migrate.proofs.write.set_bit.Goals as goal

pub returns : goal.returns
returns c = bit_marked c.args.block c.args.bit _ c.args.image.now c.requires.there refl
