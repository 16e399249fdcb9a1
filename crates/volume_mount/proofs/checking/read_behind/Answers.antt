use Rattle.std.proofs.Common.{◌-◌, ℕ, ap}
use Rattle.reissue.specs.Transfers.{table_of}
use Rattle.volume_mount.proofs.Checked.{rest_behind}
use Rattle.volume_mount.proofs.checking.read_behind.Goals as goal

pub returns-clause-reads : goal.returns-clause-reads
returns-clause-reads g c =
    rest_behind c.read_rest.result c.args.minor (table_of c.args.transfers.now) (table_of c.read_rest.new.transfers) _ _ _ _ _ _ c.args.head.now
    c.put_head.new.bytes c.read_rest.new.bytes c.read_rest.ensures.reads (ap (λ (n : ℕ). n - 2048) c.put_head.ensures.same_length) c.put_head.ensures.low
