use Rattle.reissue.specs.Transfers.{begun_in}
use Rattle.cache.specs.Calls.{caching, Keeps, WantsFlush, LinkGoesOn, messages_left}
use Rattle.cache.specs.Edits.{Leaves, AllStay}
use Rattle.cache.specs.Takes.{IsBlockRead}
use Rattle.cache.specs.Looking.{Looks}
use Rattle.cache.proofs.cache.Cache.wait.Given as goal

abbrev pub invariant-messages : goal.invariant-messages
invariant-messages g l = record {
  keeps : Keeps (caching g.L.Link l.fn.self) (caching g.L.Link l.self);
  leaves : Leaves l.fn.self.slots.items.items l.self.slots.items.items;
  stay : AllStay l.fn.self.slots l.self.slots;
  pending : IsBlockRead (begun_in l.self.transfers) l.reading.ticket l.reading.block l.fn.self.shape.block_size;
  flush : WantsFlush g.L.Link l.fn.self l.self;
  goes : LinkGoesOn g.L.Link l.fn.self l.self;
  looks : Looks (caching g.L.Link l.fn.self) (caching g.L.Link l.self);
}

abbrev pub decreases-messages : goal.decreases-messages
decreases-messages g l = messages_left (caching g.L.Link l.self)
