use Rattle.cache.proofs.Sizes.{whole_product}
use Rattle.cache.proofs.shape.Shape.place.Goals as goal

pub returns-clause-whole : goal.returns-clause-whole
returns-clause-whole c = whole_product c.args.block c.args.self.now.block_size 512 c.args.self.now.whole
