use Rattle.std.proofs.Common.{◌∙◌, ap}
use Rattle.cache.proofs.Placing.{keeps_then}
use Rattle.cached_blocks.specs.World.{stored_caching, GoesOn}
use Rattle.cached_blocks.proofs.Calls.{turns_kept}
use Rattle.cache.proofs.Looking.{looks_then, looks_same}
use Rattle.cached_blocks.proofs.StoredBlocks.fetch.Goals as goal

pub returns-clause-turns : goal.returns-clause-turns
returns-clause-turns g c =
    turns_kept (stored_caching g.L.Link) (GoesOn g.L.Link) _ _
    (record { link = g.met.L.Link.joins _ _ _ c.make_way.ensures.goes c.fetch.ensures.goes; frames = c.fetch.ensures.count ∙ c.make_way.ensures.count })
    (keeps_then _ _ _ c.make_way.ensures.keeps c.fetch.ensures.keeps)

pub returns-clause-looks : goal.returns-clause-looks
returns-clause-looks g c =
    let f = stored_caching g.L.Link in
    record {
      looks = looks_then _ _ _
          (looks_same (f c.args.self.now) (f (record { cache = c.make_way.new.cache })) (λ clean. ap (λ k. f (record { cache = k })) (c.make_way.ensures.at_once clean)))
          c.fetch.ensures.looks;
      keeps = λ ready. keeps_then _ _ _ c.make_way.ensures.keeps c.fetch.ensures.keeps;
    }
