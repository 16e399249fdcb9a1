use Rattle.channel_link.proofs.Lines.{begins}
use Rattle.channel_link.proofs.server_line.open_line.Goals as goal

pub bounded_with-requires-clause-rule : goal.bounded_with-requires-clause-rule
bounded_with-requires-clause-rule c = begins
