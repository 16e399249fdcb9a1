use Rattle.file_server.proofs.Standing.{answer_stands}
use Rattle.file_server.proofs.laws.answer_stands.Goals as goal

pub returns : goal.returns
returns g c = answer_stands g.S.Serve.serving g.L.Link.truth
