use Rattle.std.proofs.Common.{◌≡◌, ◌+◌, ◌≤◌, ◌-◌, length, Some, List}
use Rattle.records.specs.Told.{Told}
use Rattle.reissue.specs.Agrees.{unposted}
use Rattle.reissue.specs.Posts.{ArePostedTo}
use Rattle.reissue.specs.Calls.{Leads}
use Rattle.reissue.proofs.transfers.Transfers.post_rest.Given as goal

abbrev pub invariant-loop-request : goal.invariant-loop-request
invariant-loop-request g l = record {
  leads : Leads l.fn.self.table l.self.table (g.L.Link.history l.fn.self.link) (g.L.Link.history l.self.link)
      (g.L.Link.truth l.fn.self.link) (g.L.Link.truth l.self.link);
  current : l.self.table.current ≡ Some l.to;
  same : l.self.table.current ≡ l.fn.self.table.current;
  budget : g.L.Link.budget_left l.self.link ≤ g.L.Link.budget_left l.fn.self.link;
  goes : g.L.Link.goes_on l.fn.self.link l.self.link;
  ids : l.self.table.ids ≡ l.fn.self.table.ids;
  enough : length l.self.table.pending ≤ g.L.Link.room l.self.link + l.self.table.posted;
  taken : g.L.Link.room l.fn.self.link + l.fn.self.table.posted ≤ g.L.Link.room l.self.link + l.self.table.posted;
  order : (after : List Told) → ArePostedTo l.to (unposted l.self.table) (g.L.Link.history l.self.link) after
      → ArePostedTo l.to (unposted l.fn.self.table) (g.L.Link.history l.fn.self.link) after;
}

abbrev pub decreases-loop-request : goal.decreases-loop-request
decreases-loop-request g l = length l.self.table.pending - l.self.table.posted
