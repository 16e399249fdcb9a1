use Rattle.std.proofs.Common.{◌-◌, refl, sym, ap, ◌∙◌, subst, arith}
use Rattle.image.specs.Contents.{contents}
use Rattle.image.proofs.Contents.{is_geometry}
use Rattle.new_volume.specs.Sizes.{sizes_of}
use Rattle.new_volume.specs.Made.{IsRefused}
use Rattle.new_volume.specs.declared.MkfsRefusal.TheVariants.{TooFewBlocks}
use Rattle.migrate.proofs.RoomLeft.{begun_so, none_left, room_left, none_enough}
use Rattle.migrate.proofs.room.empty_volume.Goals as goal

pub returns-in-Err-TooFewBlocks-clause-refused : goal.returns-in-Err-TooFewBlocks-clause-refused
returns-in-Err-TooFewBlocks-clause-refused c =
    let i = c.args.old.now.image in
    let sizes = is_geometry i in
    let same = ap (λ g. g.inodes) c.geometry-inodes.ensures in
    none_left i.geometry (contents i) c.args.blocks TooFewBlocks (omega arith) sizes.some_inode sizes.inodes
    (ap (sizes_of c.args.blocks 1024) (sym same) ∙ subst (IsRefused c.args.blocks 1024 c.geometry-inodes.result.inodes)
    c.in-Err-TooFewBlocks.field-0-is
    c.in-Err-TooFewBlocks.ensures.refused)

pub returns-then-zones_used-zones-clause-refused : goal.returns-then-zones_used-zones-clause-refused
returns-then-zones_used-zones-clause-refused c =
    let i = c.args.old.now.image in
    let new = c.in-Ok.empty.volume in
    let same = ap (λ g. g.inodes) c.geometry-inodes.ensures in
    none_enough i.geometry (contents i) c.args.old.now.sized c.args.blocks c.zones_used.result (new.zones - new.first_zone)
    c.zones_used.ensures
    new (ap (sizes_of c.args.blocks 1024) (sym same) ∙ c.in-Ok.ensures.sizes) refl c.if-zones_used-zones.true

pub returns-clause-room : goal.returns-clause-room
returns-clause-room c =
    let i = c.args.old.now.image in
    let new = c.in-Ok.empty.volume in
    let same = ap (λ g. g.inodes) c.geometry-inodes.ensures in
    room_left i.geometry (contents i) c.args.old.now.sized c.args.blocks c.zones_used.result (new.zones - new.first_zone)
    c.zones_used.ensures
    new (ap (sizes_of c.args.blocks 1024) (sym same) ∙ c.in-Ok.ensures.sizes) refl c.if-zones_used-zones.false

pub returns-clause-begun : goal.returns-clause-begun
returns-clause-begun c =
    begun_so c.args.blocks c.geometry-inodes.result.inodes c.in-Ok.empty.volume c.in-Ok.empty.front.items c.in-Ok.ensures.sizes
    c.in-Ok.ensures.made
