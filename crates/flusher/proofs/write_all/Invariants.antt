use Rattle.std.proofs.Common.{◌≡◌}
use Rattle.reissue.specs.Entries.{pending_of}
use Rattle.cache.specs.declared.frame.Frame.{Frame}
use Rattle.cache.specs.Calls.{caching, frame_count, Keeps, IsFrame, LinkGoesOn, WantsFlush, messages_left}
use Rattle.cache.specs.Takes.{NoReadBegun}
use Rattle.flusher.proofs.write_all.Given as goal

abbrev pub invariant-messages : goal.invariant-messages
invariant-messages g l = record {
  keeps : Keeps (caching g.L.Link l.initial.cache) (caching g.L.Link l.cache);
  frames : (f : Frame) → IsFrame l.initial.cache f → IsFrame l.cache f;
  reads : NoReadBegun (pending_of l.initial.cache.transfers.table.pending) (pending_of l.cache.transfers.table.pending);
  uses : l.cache.slots.uses ≡ l.initial.cache.slots.uses;
  flush : WantsFlush g.L.Link l.initial.cache l.cache;
  count : frame_count l.cache ≡ frame_count l.initial.cache;
  goes : LinkGoesOn g.L.Link l.initial.cache l.cache;
}

abbrev pub decreases-messages : goal.decreases-messages
decreases-messages g l = messages_left (caching g.L.Link l.cache)
