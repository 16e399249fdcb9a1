use Rattle.std.proofs.Common.{◌≡◌, ◌+◌, ◌-◌, ◌*◌, arith}
use Rattle.media.proofs.SectorLaws.{sectors_of-put}
use Rattle.media.proofs.put_sector.Goals as goal

pub returns : goal.returns
returns c =
    let few : 512 * c.args.n + 512 - 512 * c.args.n ≡ 512 = omega arith in
    rw (few, c.copy_from_slice.ensures.after) (sectors_of-put c.args.n c.args.bytes.now c.args.sector.now c.requires c.told-sector)
