use Rattle.std.proofs.Common.{◌≡◌, refl, ap, ◌∙◌, length, rules}
use Rattle.std.proofs.lemmas.List.{with_items_is}
use Rattle.block_store.specs.Memory.{disk_in}
use Rattle.block_store.proofs.Changed.{disk_written}
use Rattle.block_store.proofs.memory.frames.MemoryBlocks.change.Goals as goal

pub returns-clause-turns : goal.returns-clause-turns
returns-clause-turns c = λ block named.
    let image = c.args.self.now.image in
    let size = c.args.self.now.block_size in
    let many : length c.write.new.image ≡ image.len = search rules in
    record {
      leads = refl;
      related = λ d e s.
          disk_written size image.items c.deref_mut.result.now c.write.new.image block c.args.from c.args.frame.at c.args.bytes.now d e
          c.deref_mut.ensures.value named.1 c.requires.within c.write.ensures s.0 (s.1 ∙ ap (disk_in size) (with_items_is image c.write.new.image many));
    }
