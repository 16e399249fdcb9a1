use Rattle.std.proofs.Common.{◌≤◌, ◌+◌}
use Rattle.reissue.specs.Transfers.{table_of, link_of}
use Rattle.reissue.specs.Posts.{HasRoom}
use Rattle.tests_frames.proofs.transfers.begin_first.Given as goal

abbrev pub invariant-reads : goal.invariant-reads
invariant-reads g l = record {
  few : (table_of l.transfers).ids ≤ (table_of l.initial.transfers).ids + l.block;
  within : l.block ≤ 255;
  room : HasRoom (table_of l.transfers) (g.L.Link.room (link_of l.transfers));
}
