use Rattle.file_server.proofs.Leaving.{cut_leaves}
use Rattle.file_server.proofs.laws.cut_leaves.Goals as goal

pub returns : goal.returns
returns g c = cut_leaves g.S.Serve.serving g.L.Link.truth
