use Rattle.std.proofs.Common.{◌≡◌}
use Rattle.channel_link.proofs.server_line.NewsEnd.look.Given as goal

abbrev pub invariant-loop : goal.invariant-loop
invariant-loop g l = l.self ≡ l.fn.self
