use Rattle.image.proofs.Counting.{all_counted}
use Rattle.image.proofs.uses.count_uses.Goals as goal

pub returns : goal.returns
returns c =
    all_counted c.args.image.now c.args.entered.now c.args.uses.now c.count_inodes.new.uses c.count_level.new.uses c.count_level-2.new.uses c.count_level-3.new.uses
    c.requires.entered c.requires.size c.requires.fresh c.count_inodes.ensures.counted c.count_level.ensures.counted c.count_level-2.ensures.counted c.count_level-3.ensures.counted
