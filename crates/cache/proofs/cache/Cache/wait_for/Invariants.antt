use Rattle.cache.specs.Calls.{caching, Keeps, WantsFlush, LinkGoesOn, messages_left}
use Rattle.cache.specs.Edits.{Leaves, StayBut}
use Rattle.cache.proofs.cache.Cache.wait_for.Given as goal

abbrev pub invariant-tries : goal.invariant-tries
invariant-tries g l = record {
  keeps : Keeps (caching g.L.Link l.fn.self) (caching g.L.Link l.self);
  leaves : Leaves l.fn.self.slots.items.items l.self.slots.items.items;
  others : StayBut l.at l.fn.self.slots l.self.slots;
  flush : WantsFlush g.L.Link l.fn.self l.self;
  goes : LinkGoesOn g.L.Link l.fn.self l.self;
}

abbrev pub decreases-tries : goal.decreases-tries
decreases-tries g l = messages_left (caching g.L.Link l.self)
