use Rattle.std.proofs.Common.{rules, ◌≡◌, length, take}
use Rattle.cache.specs.Slots.{held}
use Rattle.cache.proofs.Begun.{at_held}
use Rattle.cache.proofs.Copying.{copied}
use Rattle.cache.proofs.table.Slots.copy.Goals as goal

pub returns : goal.returns
returns c =
    let s = c.args.self.now in
    let slot = c.get-slot.result.now in
    let len : length (take c.args.size c.deref.result.now) ≡ c.args.size = search rules in
    record {
      copied = copied (held s.items.items c.args.block) slot c.deref.result.now c.args.size c.args.from c.args.to.now c.put.new.to
          (at_held s.items.items c.dirty_at.result c.args.block slot s.distinct c.dirty_at.ensures c.get-slot.ensures) c.deref.ensures len c.put.ensures;
    }
