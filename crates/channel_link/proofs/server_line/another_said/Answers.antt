use Rattle.channel_link.proofs.Lines.{forks}
use Rattle.channel_link.proofs.server_line.another_said.Goals as goal

pub another-requires-clause-rule : goal.another-requires-clause-rule
another-requires-clause-rule g c = forks _ _ _
