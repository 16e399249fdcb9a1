use Rattle.std.proofs.Common.{◌≡◌, ◌≤◌, List}
use Rattle.records.specs.Marks.{Mark}
use Rattle.records.specs.Opening.{Opening}
use Rattle.fixtures_orders.proofs.watched.aside_soon.Given as goal

-- what a look that finds nothing keeps
abbrev pub invariant-loop : goal.invariant-loop
invariant-loop g l = record {
  told : g.L.Link.history l.link ≡ g.L.Link.history l.fn.link;
  budget : g.L.Link.budget_left l.link ≤ g.L.Link.budget_left l.fn.link;
  goes : g.L.Link.goes_on l.fn.link l.link;
  truth : (v : Opening) (marks : List Mark) → g.L.Link.truth l.fn.link v marks → g.L.Link.truth l.link v marks;
}
