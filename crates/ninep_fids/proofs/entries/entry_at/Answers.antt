use Rattle.std.proofs.Common.{◌≡◌, ◌<◌, ◌≤◌, ◌-◌, suc, length, arith}
use Rattle.ninep_fids.proofs.EntryLaws.{entry_there}
use Rattle.ninep_fids.proofs.entries.entry_at.Goals as goal

pub returns-in_default : goal.returns-in_default
returns-in_default c =
    let two : 2 ≤ c.args.at = omega arith in
    let is : c.args.at ≡ suc (suc (c.args.at - 2)) = omega (arith, two) in
    let less : c.args.at - 2 < length c.args.names.now = omega (arith, two, c.requires) in
    rw c.deref.ensures.value (entry_there c.args.own c.args.above c.args.names.now c.args.at (c.args.at - 2) c.index-names-at.result is less
    c.index-names-at.is)
