use Rattle.std.proofs.Common.{rules}
use Rattle.reissue.specs.Transfers.{table_of}
use Rattle.volume_mount.proofs.Checked.{rest_read}
use Rattle.volume_mount.proofs.checking.read_rest.Goals as goal

pub returns-clause-reads : goal.returns-clause-reads
returns-clause-reads g c =
    rest_read c.read_range.result c.args.minor (table_of c.args.transfers.now) (table_of c.read_range.new.transfers) _ _ _ _ _ c.args.bytes.now c.read_range.new.into
    c.read_range.ensures.reads c.read_range.ensures.same_length c.requires.least (search rules)
