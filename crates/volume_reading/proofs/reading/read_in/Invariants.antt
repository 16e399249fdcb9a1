use Rattle.std.proofs.Common.{◌≡◌, ◌+◌, ◌-◌, ◌*◌, ◌≤◌, ◌<◌, ◌%◌, length, false}
use Rattle.std.specs.Prelude.{vec_capacity}
use Rattle.records.specs.Told.{took_end}
use Rattle.reissue.specs.Posts.{HasRoom}
use Rattle.reissue.specs.Transfers.{link_of, table_of}
use Rattle.volume_reading.specs.Reading.{Midway}
use Rattle.volume_reading.proofs.reading.read_in.Given as goal

abbrev pub invariant-messages : goal.invariant-messages
invariant-messages g l = record {
  midway : Midway l.minor l.start l.size l.next l.asked.items l.into (table_of l.fn.transfers) (table_of l.transfers)
      (g.L.Link.history (link_of l.fn.transfers)) (g.L.Link.history (link_of l.transfers))
      (g.L.Link.truth (link_of l.fn.transfers)) (g.L.Link.truth (link_of l.transfers));
  goes : g.L.Link.goes_on (link_of l.fn.transfers) (link_of l.transfers);
  live : (table_of l.transfers).given_up ≡ false;
  unended : took_end (g.L.Link.history (link_of l.transfers)) ≡ false;
  room : HasRoom (table_of l.transfers) (g.L.Link.room (link_of l.transfers));
  capacity : 16 ≤ vec_capacity l.asked;
  wide : vec_capacity l.asked ≡ vec_capacity l.fn.asked;
  many : length l.into ≡ l.size;
  all : length l.fn.into ≡ l.size;
  place : l.next < l.size → l.next % 512 ≡ 0;
  within : l.next ≤ l.size;
  numbers : (table_of l.transfers).ids + g.L.Link.budget_left (link_of l.transfers) + (l.size - l.next)
      ≤ (table_of l.fn.transfers).ids + g.L.Link.budget_left (link_of l.fn.transfers) + l.size;
  spent : (table_of l.transfers).ids + 2 * g.L.Link.budget_left (link_of l.transfers) + (l.size - l.next)
      ≤ (table_of l.fn.transfers).ids + 2 * g.L.Link.budget_left (link_of l.fn.transfers) + l.size;
}

abbrev pub decreases-messages : goal.decreases-messages
decreases-messages g l = g.L.Link.budget_left (link_of l.transfers) + (l.size - l.next)
