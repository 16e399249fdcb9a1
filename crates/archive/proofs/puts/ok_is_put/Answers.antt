use Rattle.archive.proofs.Putting.{ok_means_put}
use Rattle.archive.proofs.puts.ok_is_put.Goals as goal

pub returns : goal.returns
returns g c = ok_means_put g.A.Archive.puts
