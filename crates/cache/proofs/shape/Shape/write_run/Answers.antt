use Rattle.cache.proofs.Sizes.{whole_product}
use Rattle.cache.proofs.shape.Shape.write_run.Goals as goal

pub write-requires-clause-whole_count : goal.write-requires-clause-whole_count
write-requires-clause-whole_count c = whole_product c.args.count c.args.self.now.block_size 512 c.args.self.now.whole
