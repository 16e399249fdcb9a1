use Rattle.std.proofs.Common.{◌≡◌, ◌+◌, ◌≤◌, [], length}
use Rattle.std.specs.Prelude.{vec_capacity}
use Rattle.reissue.specs.Posts.{HasRoom}
use Rattle.reissue.specs.Transfers.{link_of, table_of}
use Rattle.volume_reading.proofs.Partway.{Partway}
use Rattle.volume_reading.proofs.back.read_places.Given as goal

abbrev pub invariant-loop-place : goal.invariant-loop-place
invariant-loop-place g l = record {
  partway : Partway g.T.Takes.takes l.fn.taker l.taker l.minor l.place-index l.places (table_of l.fn.transfers) (table_of l.transfers)
      (g.L.Link.history (link_of l.fn.transfers)) (g.L.Link.history (link_of l.transfers))
      (g.L.Link.truth (link_of l.fn.transfers)) (g.L.Link.truth (link_of l.transfers))
      ((table_of l.fn.transfers).ids + g.L.Link.budget_left (link_of l.fn.transfers))
      ((table_of l.transfers).ids + g.L.Link.budget_left (link_of l.transfers));
  goes : g.L.Link.goes_on (link_of l.fn.transfers) (link_of l.transfers);
  room : HasRoom (table_of l.transfers) (g.L.Link.room (link_of l.transfers));
  none : l.asked.items ≡ [];
  wide : 16 ≤ vec_capacity l.asked;
  long : length l.buffer.items ≡ 1048576;
}
