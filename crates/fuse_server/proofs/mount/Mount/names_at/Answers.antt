use Rattle.fuse_server.proofs.Asking.{goes_on}
use Rattle.fuse_server.proofs.mount.Mount.names_at.Goals as goal

pub returns-clause-asked : goal.returns-clause-asked
returns-clause-asked g c = goes_on (goes_on c.open_path.ensures.asked c.calling.ensures.asked) c.close.ensures.asked
