use Rattle.migrate.proofs.WrittenHolds.{confirmed_so}
use Rattle.migrate.proofs.write.written_is_confirmed.Goals as goal

pub returns : goal.returns
returns c = confirmed_so
