use Rattle.std.proofs.Common.{◌≡◌, ◌+◌, ◌≤◌, ℕ, false}
use Rattle.records.specs.Told.{took_end}
use Rattle.reissue.specs.Posts.{HasRoom}
use Rattle.reissue.specs.Transfers.{link_of, table_of}
use Rattle.volume_reading.specs.ReadBack.{AreFor}
use Rattle.volume_reading.proofs.Waiting.{Waited}
use Rattle.volume_reading.proofs.back.wait_for_all.Given as goal

abbrev pub invariant-messages : goal.invariant-messages
invariant-messages g l = record {
  waited : (minor : ℕ) → AreFor minor (table_of l.fn.transfers).pending → Waited minor (table_of l.fn.transfers) (table_of l.transfers)
      (g.L.Link.history (link_of l.fn.transfers)) (g.L.Link.history (link_of l.transfers))
      (g.L.Link.truth (link_of l.fn.transfers)) (g.L.Link.truth (link_of l.transfers));
  goes : g.L.Link.goes_on (link_of l.fn.transfers) (link_of l.transfers);
  live : (table_of l.transfers).given_up ≡ false;
  unended : took_end (g.L.Link.history (link_of l.transfers)) ≡ false;
  room : HasRoom (table_of l.transfers) (g.L.Link.room (link_of l.transfers));
  numbers : (table_of l.transfers).ids + g.L.Link.budget_left (link_of l.transfers)
      ≤ (table_of l.fn.transfers).ids + g.L.Link.budget_left (link_of l.fn.transfers);
}

abbrev pub decreases-messages : goal.decreases-messages
decreases-messages g l = g.L.Link.budget_left (link_of l.transfers)
