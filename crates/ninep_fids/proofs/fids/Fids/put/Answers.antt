use Rattle.std.proofs.Common.{◌∙◌, ap, map}
use Rattle.std.specs.Ordering.{nat_cmp}
use Rattle.ninep_fids.specs.Knowledge.{entry_of}
use Rattle.ninep_fids.proofs.Tables.{insert_seen}
use Rattle.ninep_fids.proofs.fids.Fids.put.Goals as goal

pub returns-clause-ok : goal.returns-clause-ok
returns-clause-ok c =
    ap (map entry_of) c.in_ok-insert.ensures.entries ∙ insert_seen nat_cmp c.args.self.now.fids.entries c.args.fid c.args.what
