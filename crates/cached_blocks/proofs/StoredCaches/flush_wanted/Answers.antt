use Rattle.std.proofs.Common.{refl, ap, ◌∙◌}
use Rattle.cache.specs.Slots.{held}
use Rattle.cache.specs.Edits.{AllClean}
use Rattle.cache.proofs.Placing.{keeps_none}
use Rattle.cached_blocks.specs.World.{stored_caching, GoesOn}
use Rattle.cached_blocks.proofs.Flushes.{stays_clean}
use Rattle.cached_blocks.proofs.Calls.{turns_kept}
use Rattle.cache.proofs.Looking.{looks_none, looks_same}
use Rattle.cached_blocks.proofs.StoredCaches.flush_wanted.Goals as goal

pub returns-then-take_flush-clause-clean : goal.returns-then-take_flush-clause-clean
returns-then-take_flush-clause-clean g c = λ clean.
    let k : AllClean (held c.take_flush.new.self.slots.items.items) = rw c.take_flush.ensures.done clean in
    stays_clean 16 _ _ c.flush_some.ensures.issued k

pub returns-else-take_flush-clause-keeps : goal.returns-else-take_flush-clause-keeps
returns-else-take_flush-clause-keeps g c = rw c.take_flush.ensures.done (keeps_none _ c.requires.ready)

pub returns-then-take_flush-clause-goes : goal.returns-then-take_flush-clause-goes
returns-then-take_flush-clause-goes g c = record {
  link = rw c.take_flush.ensures.done at c.flush_some.ensures.goes;
  frames = rw c.take_flush.ensures.done at c.flush_some.ensures.count;
}

pub returns-else-take_flush-clause-goes : goal.returns-else-take_flush-clause-goes
returns-else-take_flush-clause-goes g c = rw c.take_flush.ensures.done (record { link = g.met.L.Link.stays _; frames = refl })

pub returns-then-take_flush-clause-turns : goal.returns-then-take_flush-clause-turns
returns-then-take_flush-clause-turns g c =
    turns_kept (stored_caching g.L.Link) (GoesOn g.L.Link) _ _ (record {
      link = rw c.take_flush.ensures.done at c.flush_some.ensures.goes;
      frames = rw c.take_flush.ensures.done at c.flush_some.ensures.count;
    }) (rw c.take_flush.ensures.done at c.flush_some.ensures.keeps)

pub returns-else-take_flush-clause-turns : goal.returns-else-take_flush-clause-turns
returns-else-take_flush-clause-turns g c =
    turns_kept (stored_caching g.L.Link) (GoesOn g.L.Link) _ _ (rw c.take_flush.ensures.done (record { link = g.met.L.Link.stays _; frames = refl }))
    (rw c.take_flush.ensures.done (keeps_none _ c.requires.ready))

pub returns-then-take_flush-clause-flushed : goal.returns-then-take_flush-clause-flushed
returns-then-take_flush-clause-flushed g c = λ wanted. record {
  issued = rw c.take_flush.ensures.done at c.flush_some.ensures.issued;
  runs = rw c.take_flush.ensures.done at c.flush_some.ensures.runs;
  stuck = rw c.take_flush.ensures.done at c.flush_some.ensures.stuck;
}

pub returns-then-take_flush-clause-looks : goal.returns-then-take_flush-clause-looks
returns-then-take_flush-clause-looks g c =
    let f = stored_caching g.L.Link in
    looks_same (f c.args.self.now) (f (record { cache = c.flush_some.new.cache })) (λ clean.
    let k : AllClean (held c.take_flush.new.self.slots.items.items) = rw c.take_flush.ensures.done clean in
    ap (λ s. f (record { cache = s })) (c.flush_some.ensures.at_once k ∙ c.take_flush.ensures.done))

pub returns-else-take_flush-clause-looks : goal.returns-else-take_flush-clause-looks
returns-else-take_flush-clause-looks g c = rw c.take_flush.ensures.done (looks_none _)
