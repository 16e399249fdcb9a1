use Rattle.std.proofs.Common.{◌≤◌, length}
use Rattle.fuse_nodes.specs.Known.{known_of}
use Rattle.fuse_nodes.specs.Laws.{Steps}
use Rattle.fuse_server.specs.Asking.{Talked}
use Rattle.fuse_server.specs.Reach.{CalledFrom}
use Rattle.fuse_server.specs.Entries.{IsListed}
use Rattle.fuse_server.proofs.plus.told_entries.Given as goal

abbrev pub invariant-entries : goal.invariant-entries
invariant-entries g l = record {
  asked : Talked (CalledFrom l.work.reach g.S.Sessions.called) g.S.Sessions.entered g.S.Sessions.left l.work.now l.initial.sessions
      l.sessions;
  room : length l.bytes.items ≤ l.listing.room;
  listed : IsListed (known_of l.nodes) l.bytes.items;
  steps : Steps (known_of l.initial.nodes) (known_of l.nodes);
}
