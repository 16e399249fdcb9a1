use Rattle.cached_blocks.specs.World.{stored_caching, GoesOn}
use Rattle.cached_blocks.proofs.Calls.{turns_kept}
use Rattle.cached_blocks.proofs.StoredBlocks.forget.Goals as goal

pub returns : goal.returns
returns g c = record {
  turns = turns_kept (stored_caching g.L.Link) (GoesOn g.L.Link) _ _ (record { link = c.forget.ensures.goes; frames = c.forget.ensures.count })
      c.forget.ensures.keeps;
  looks = record { looks = c.forget.ensures.looks; keeps = λ ready. c.forget.ensures.keeps };
}
