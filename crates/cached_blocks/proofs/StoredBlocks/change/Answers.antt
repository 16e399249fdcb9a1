use Rattle.std.proofs.Common.{ℕ, sym, subst}
use Rattle.cache.specs.Calls.{area_in}
use Rattle.cache.specs.Frames.{IsWritable}
use Rattle.cached_blocks.specs.World.{stored_caching, GoesOn}
use Rattle.cached_blocks.proofs.Calls.{turns_changed}
use Rattle.cached_blocks.proofs.StoredBlocks.change.Goals as goal

pub returns-clause-turns : goal.returns-clause-turns
returns-clause-turns g c = λ block named.
    turns_changed (stored_caching g.L.Link) (GoesOn g.L.Link) _ _ c.args.frame.block block c.args.from c.args.bytes.now named.0
    (record { link = c.change.ensures.goes; frames = c.change.ensures.count }) c.change.ensures.runs

pub change-requires-clause-writable : goal.change-requires-clause-writable
change-requires-clause-writable g c =
    let shape = c.args.self.now.cache.shape in
    let x = c.requires.frame in
    subst (λ (n : ℕ). IsWritable (area_in shape) shape.block_size n) (sym x.1.0) x.2
