use Rattle.std.proofs.Common.{ap, sym, ◌∙◌, List, Option, set}
use Rattle.std.specs.Prelude.{option_map}
use Rattle.tree.specs.Tree.{OpenFile}
use Rattle.descriptors.specs.Table.{Table, files_of, number_at, opened_at}
use Rattle.descriptors.specs.Files.{moved}
use Rattle.descriptors.proofs.Calls.{move_done}
use Rattle.descriptors.specs.Keys.{at_position}
use Rattle.descriptors.proofs.Calls.{the_value}
use Rattle.descriptors.proofs.table.Descriptors.set_position.Goals as goal

pub returns-in-Some : goal.returns-in-Some
returns-in-Some c =
    let t : Table = record { opened = c.self.inside.files; sessions = c.self.inside.sessions.items } in
    let k = c.in-Some.number in
    let is = ap (λ (u : Table). number_at u c.args.session c.args.fd) c.self.view_is ∙ sym c.number.ensures ∙ c.in-Some.is in
    let o = the_value (opened_at t k) (c.self.invariant.leads c.args.session c.args.fd k is) in
    ap (λ (fs : List (Option OpenFile)). files_of (record t { opened = fs })) (c.set_position.ensures ∙ ap (λ (p : Option OpenFile). set c.self.inside.files k (option_map (at_position c.args.position) p)) o.1)
    ∙ move_done t c.args.session c.args.fd k c.args.position o.0 c.self.invariant is o.1
    ∙ ap (λ (u : Table). moved (files_of u) c.args.session c.args.fd c.args.position) c.self.view_is
