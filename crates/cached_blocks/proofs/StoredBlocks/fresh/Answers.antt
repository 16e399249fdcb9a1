use Rattle.std.proofs.Common.{refl}
use Rattle.block_store.proofs.Turns.{turns_after}
use Rattle.cache.proofs.Inside.{writable_still}
use Rattle.cached_blocks.specs.World.{world_by, stored_caching, GoesOn, goes_joins}
use Rattle.cached_blocks.specs.Lawful.{is_world}
use Rattle.cached_blocks.proofs.Calls.{turns_kept, turns_fresh}
use Rattle.cached_blocks.proofs.StoredBlocks.fresh.Goals as goal

pub returns-clause-turns : goal.returns-clause-turns
returns-clause-turns g c =
    let f = stored_caching g.L.Link in
    let goes = GoesOn g.L.Link in
    turns_after (world_by f goes)
    (is_world f goes (λ s. record { link = g.met.L.Link.stays _; frames = refl }) (λ x y z p q. goes_joins g.L.Link g.met.L.Link.joins x y z p q))
    _ (record { cache = c.make_way.new.cache }) _ _
    (turns_kept f goes _ _ (record { link = c.make_way.ensures.goes; frames = c.make_way.ensures.count }) c.make_way.ensures.keeps)
    (turns_fresh f goes _ _ c.fresh.result c.args.block (record { link = c.fresh.ensures.goes; frames = c.fresh.ensures.count }) c.fresh.ensures.runs)

-- making way leaves the volume as it was
pub fresh-requires-clause-writable : goal.fresh-requires-clause-writable
fresh-requires-clause-writable g c =
    let f = stored_caching g.L.Link in
    let k = c.make_way.ensures.keeps in
    let old = f c.args.self.now in
    let new = f (record { cache = c.make_way.new.cache }) in
    writable_still old.area new.area old.size new.size c.args.block k.area k.size c.requires.writable
