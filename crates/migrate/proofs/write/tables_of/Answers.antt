use Rattle.std.proofs.Common.{◌*◌}
use Rattle.migrate.proofs.Zeros.{begun_byte}
use Rattle.migrate.proofs.write.tables_of.Goals as goal

pub returns-clause-bytes : goal.returns-clause-bytes
returns-clause-bytes c = λ p inside.
    let h = c.args.empty.volume in
    begun_byte h c.args.empty.front.items c.truncate.new.self.items c.resize.new.self.items _ (1024 * h.first_zone) _ p
    c.truncate.ensures.items c.in_ok-resize.ensures.items c.in_ok-reserve.ensures.items inside
