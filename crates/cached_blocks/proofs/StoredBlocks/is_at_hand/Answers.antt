use Rattle.std.proofs.Common.{◌∙◌}
use Rattle.cached_blocks.proofs.AtHand.{at_hand}
use Rattle.cached_blocks.proofs.StoredBlocks.is_at_hand.Goals as goal

pub returns : goal.returns
returns g c = c.is_some.ensures ∙ at_hand c.args.self.now.cache c.find.result c.args.block c.find.ensures.frame
