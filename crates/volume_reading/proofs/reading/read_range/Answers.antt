use Rattle.std.proofs.Common.{length}
use Rattle.reissue.specs.Transfers.{table_of}
use Rattle.volume_reading.proofs.Steps.{range_none}
use Rattle.volume_reading.proofs.reading.read_range.Goals as goal

pub returns-in-Err-clause-reads : goal.returns-in-Err-clause-reads
returns-in-Err-clause-reads g c =
    range_none c.args.minor c.args.start (length c.args.into.now) _ (table_of c.args.transfers.now) _ _ c.requires.idle
