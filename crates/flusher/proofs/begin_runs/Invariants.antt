use Rattle.std.proofs.Common.{◌≡◌, ◌<◌, ◌≤◌, ◌+◌, ◌*◌, length}
use Rattle.reissue.specs.Moves.{IsBusy}
use Rattle.reissue.specs.Entries.{pending_of}
use Rattle.cache.specs.declared.frame.Frame.{Frame}
use Rattle.cache.specs.Calls.{caching, held_by, frame_count, Keeps, PostsAlone, IsFrame, LinkGoesOn, messages_left}
use Rattle.cache.specs.Edits.{AllClean}
use Rattle.cache.specs.Runs.{requests_in}
use Rattle.cache.specs.Takes.{NoReadBegun}
use Rattle.flusher.proofs.Flushing.{Flushing}
use Rattle.flusher.proofs.begin_runs.Given as goal

abbrev pub invariant-runs : goal.invariant-runs
invariant-runs g l = record {
  keeps : Keeps (caching g.L.Link l.initial.cache) (caching g.L.Link l.cache);
  posts : PostsAlone (caching g.L.Link l.initial.cache) (caching g.L.Link l.cache);
  flushing : Flushing l.initial.most l.initial.cache.shape.block_size l.left (caching g.L.Link l.initial.cache).held (caching g.L.Link l.cache).held
      (requests_in l.initial.cache.transfers.table) (requests_in l.cache.transfers.table);
  messages : messages_left (caching g.L.Link l.cache) ≤ messages_left (caching g.L.Link l.initial.cache);
  frames : (f : Frame) → IsFrame l.initial.cache f → IsFrame l.cache f;
  reads : NoReadBegun (pending_of l.initial.cache.transfers.table.pending) (pending_of l.cache.transfers.table.pending);
  count : frame_count l.cache ≡ frame_count l.initial.cache;
  goes : LinkGoesOn g.L.Link l.initial.cache l.cache;
  flush : l.cache.flush ≡ l.initial.cache.flush;
  uses : l.cache.slots.uses ≡ l.initial.cache.slots.uses;
  at_once : AllClean (held_by l.initial.cache) → l.cache ≡ l.initial.cache;
  busy : l.left < l.initial.most → IsBusy (pending_of l.cache.transfers.table.pending);
  requests : l.initial.most + 8 * length l.initial.cache.transfers.table.pending ≤ l.left + 8 * length l.cache.transfers.table.pending;
}

abbrev pub decreases-runs : goal.decreases-runs
decreases-runs g l = l.left
