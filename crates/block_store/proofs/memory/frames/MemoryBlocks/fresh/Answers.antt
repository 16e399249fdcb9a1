use Rattle.std.proofs.Common.{◌≡◌, refl, ap, ◌∙◌, length, rules}
use Rattle.std.proofs.lemmas.List.{with_items_is}
use Rattle.block_store.specs.Memory.{disk_in}
use Rattle.block_store.proofs.Changed.{disk_cleared}
use Rattle.block_store.proofs.memory.frames.MemoryBlocks.fresh.Goals as goal

pub returns-clause-turns : goal.returns-clause-turns
returns-clause-turns c =
    let image = c.args.self.now.image in
    let size = c.args.self.now.block_size in
    let many : length c.clear.new.image ≡ image.len = search rules in
    record {
      leads = refl;
      related = λ d e s.
          disk_cleared size image.items c.deref_mut.result.now c.clear.new.image c.args.block c.in_ok-place.place.at d e
          c.deref_mut.ensures.value c.in_ok-place.ensures.at c.clear.ensures s.0 (s.1 ∙ ap (disk_in size) (with_items_is image c.clear.new.image many));
    }
