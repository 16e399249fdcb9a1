use Rattle.channel_link.proofs.Lines.{gets}
use Rattle.channel_link.proofs.server_line.NewsEnd.receive.Goals as goal

pub recv_as-requires-clause-rule : goal.recv_as-requires-clause-rule
recv_as-requires-clause-rule g c = (gets _ _ c.self.invariant.1, λ items views h at. tt)
