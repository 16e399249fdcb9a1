use Rattle.migrate.proofs.Version3.{one_definition}
use Rattle.migrate.proofs.old_volume.one_definition.Goals as goal

pub returns : goal.returns
returns c = one_definition
