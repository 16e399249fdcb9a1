use Rattle.channel_link.proofs.Lines.{gets}
use Rattle.channel_link.proofs.server_line.NewsEnd.try_receive.Goals as goal

pub try_recv_as-requires-clause-rule : goal.try_recv_as-requires-clause-rule
try_recv_as-requires-clause-rule g c = (gets _ _ c.self.invariant.1, λ items v h at. tt)
