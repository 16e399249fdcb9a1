use Rattle.bitmap.proofs.Blocks.{whole_words}
use Rattle.bitmap.proofs.search.part_of.Goals as goal

pub returns-clause-words : goal.returns-clause-words
returns-clause-words c = whole_words c.args.k c.args.geometry.now.block_size c.requires.geometry.block_size
