use Rattle.std.proofs.Common.{ap, sym, ◌∙◌, arith}
use Rattle.descriptors.specs.Table.{Table, number_at}
use Rattle.descriptors.proofs.Kept.{below}
use Rattle.descriptors.proofs.table.Descriptors.get.Goals as goal

pub get-requires : goal.get-requires
get-requires c =
    let t : Table = record { opened = c.self.inside.files; sessions = c.self.inside.sessions.items } in
    let is = ap (λ (u : Table). number_at u c.args.session c.args.fd) c.self.view_is ∙ sym c.number.ensures ∙ c.in_ok-number.was in
    omega (arith, below t c.in_ok-number.number c.self.invariant (c.self.invariant.leads c.args.session c.args.fd c.in_ok-number.number is), c.self.invariant.files)
