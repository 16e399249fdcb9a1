use Rattle.std.proofs.Common.{◌<◌, length, arith}
use Rattle.image_file.proofs.Lying.{there, unit_copied}
use Rattle.image_file.proofs.changed.CopiesPuts.unit.Goals as goal

pub index-requires : goal.index-requires
index-requires c =
    let changes = c.args.self.now.changes.now in
    let lt : c.args.at < length changes.units.items = there changes.numbers.items changes.units.items c.args.at changes.same c.requires in
    omega (arith, lt, changes.units.ok.0)

pub returns : goal.returns
returns c =
    let changes = c.args.self.now.changes.now in
    unit_copied changes.numbers.items changes.units.items c.args.at c.index.result.now changes.same c.requires c.index.ensures
