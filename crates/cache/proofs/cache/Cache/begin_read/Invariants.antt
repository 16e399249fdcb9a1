use Rattle.cache.specs.Calls.{caching, Keeps, WantsFlush, LinkGoesOn, messages_left}
use Rattle.cache.specs.Edits.{Leaves, AllStay}
use Rattle.cache.specs.Looking.{Looks}
use Rattle.cache.proofs.cache.Cache.begin_read.Given as goal

abbrev pub invariant-tries : goal.invariant-tries
invariant-tries g l = record {
  keeps : Keeps (caching g.L.Link l.fn.self) (caching g.L.Link l.self);
  leaves : Leaves l.fn.self.slots.items.items l.self.slots.items.items;
  stay : AllStay l.fn.self.slots l.self.slots;
  flush : WantsFlush g.L.Link l.fn.self l.self;
  goes : LinkGoesOn g.L.Link l.fn.self l.self;
  looks : Looks (caching g.L.Link l.fn.self) (caching g.L.Link l.self);
}

abbrev pub decreases-tries : goal.decreases-tries
decreases-tries g l = messages_left (caching g.L.Link l.self)
