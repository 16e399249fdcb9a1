use Rattle.std.proofs.Common.{◌++◌, ap, sym, ◌∙◌}
use Rattle.tree.specs.declared.User.{User}
use Rattle.volume.specs.Fresh.{fresh_entries}
use Rattle.new_volume.specs.Image.{filled_image}
use Rattle.new_volume.proofs.Made.{made, ranges}
use Rattle.new_volume.proofs.Parts.{front_filled}
use Rattle.new_volume.proofs.mkfs_front.Goals as goal

pub returns-clause-made : goal.returns-clause-made
returns-clause-made c =
    let g = c.in_ok-geometry.geometry in
    let sized = sym c.sizes.ensures ∙ c.in_ok-geometry.was in
    let owner : User = record { uid = c.args.uid; gid = c.args.gid } in
    let ok = ranges c.args.blocks c.args.block_size c.args.inodes g sized in
    let bytes = c.in_ok-extend_from_slice.ensures.items ∙ ap (λ l. l ++ fresh_entries) c.in_ok-front.ensures in
    made c.args.blocks c.args.block_size c.args.inodes c.args.now owner g _ sized c.ranges.now.fits
    (record { uid = c.ranges.uid.fits; gid = c.ranges.gid.fits })
    (ap (filled_image g) bytes ∙ front_filled g c.args.now owner ok)

pub returns-clause-geometry : goal.returns-clause-geometry
returns-clause-geometry c = ranges c.args.blocks c.args.block_size c.args.inodes c.in_ok-geometry.geometry
    (sym c.sizes.ensures ∙ c.in_ok-geometry.was)
