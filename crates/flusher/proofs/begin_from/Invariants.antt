use Rattle.std.proofs.Common.{◌≡◌, ◌≤◌}
use Rattle.reissue.specs.Entries.{pending_of}
use Rattle.cache.specs.declared.frame.Frame.{Frame}
use Rattle.cache.specs.Calls.{caching, held_by, frame_count, Keeps, PostsAlone, IsFrame, LinkGoesOn, messages_left}
use Rattle.cache.specs.Edits.{AllClean}
use Rattle.cache.specs.Takes.{NoReadBegun}
use Rattle.flusher.proofs.Ways.{Begins}
use Rattle.flusher.proofs.begin_from.Given as goal

abbrev pub invariant-frames : goal.invariant-frames
invariant-frames g l = record {
  keeps : Keeps (caching g.L.Link l.initial.cache) (caching g.L.Link l.cache);
  posts : PostsAlone (caching g.L.Link l.initial.cache) (caching g.L.Link l.cache);
  begun : Begins l.counter l.from (caching g.L.Link l.initial.cache).held (caching g.L.Link l.cache).held;
  messages : messages_left (caching g.L.Link l.cache) ≤ messages_left (caching g.L.Link l.initial.cache);
  frames : (f : Frame) → IsFrame l.initial.cache f → IsFrame l.cache f;
  reads : NoReadBegun (pending_of l.initial.cache.transfers.table.pending) (pending_of l.cache.transfers.table.pending);
  count : frame_count l.cache ≡ frame_count l.initial.cache;
  goes : LinkGoesOn g.L.Link l.initial.cache l.cache;
  flush : l.cache.flush ≡ l.initial.cache.flush;
  uses : l.cache.slots.uses ≡ l.initial.cache.slots.uses;
  at_once : AllClean (held_by l.initial.cache) → l.cache ≡ l.initial.cache;
}
