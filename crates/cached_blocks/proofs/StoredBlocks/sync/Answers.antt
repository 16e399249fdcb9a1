use Rattle.std.proofs.Common.{ap, None}
use Rattle.cache.specs.Calls.{Serves}
use Rattle.cache.proofs.Runs.{runs_as}
use Rattle.cache.proofs.Looking.{looks_same}
use Rattle.flusher.specs.Flushing.{Syncs}
use Rattle.cached_blocks.specs.World.{stored_caching, GoesOn}
use Rattle.cached_blocks.proofs.Calls.{turns}
use Rattle.cached_blocks.proofs.StoredBlocks.sync.Goals as goal

pub returns-clause-turns : goal.returns-clause-turns
returns-clause-turns g c =
    turns (stored_caching g.L.Link) (GoesOn g.L.Link) _ _ (λ w v. Syncs c.sync.result _ _ w v) _ (λ w v s. s.serves.agrees)
    (λ w v s. s.serves.same) (record { link = c.sync.ensures.goes; frames = c.sync.ensures.count }) c.sync.ensures.runs

-- where each frame is clean nothing is done
pub returns-clause-looks : goal.returns-clause-looks
returns-clause-looks g c =
    let f = stored_caching g.L.Link in
    let old = f c.args.self.now in
    let new = f (record { cache = c.sync.new.cache }) in
    record {
      looks = looks_same old new (λ clean. ap (λ s. f (record { cache = s })) (c.sync.ensures.at_once clean).1);
      keeps = λ ready. runs_as None old new (λ w v. Syncs c.sync.result old new w v) (λ w v. Serves old new w v) (λ w v p. p.serves) c.sync.ensures.runs;
    }
