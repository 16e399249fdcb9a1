use Rattle.std.proofs.Common.{sym, ◌∙◌}
use Rattle.new_volume.proofs.Made.{made_for_user_0}
use Rattle.new_volume.proofs.mkfs.Goals as goal

pub returns-clause-made : goal.returns-clause-made
returns-clause-made c = made_for_user_0 c.args.blocks c.args.block_size c.args.inodes c.args.now c.in_ok-volume.volume c.in_ok-image.image.items
    (sym c.sizes.ensures ∙ c.in_ok-volume.was) c.ranges.now.fits c.in_ok-image.ensures
