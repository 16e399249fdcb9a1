use Rattle.std.proofs.Common.{◌≡◌, ap, sym, ◌∙◌, subst, Some, None, Ok, refl, ℕ, arith}
use Rattle.std.specs.Prelude.{option_map}
use Rattle.lemmas.proofs.Options.{some_same}
use Rattle.tree.specs.Tree.{OpenFile}
use Rattle.descriptors.specs.Table.{Table, IsTable, files_of, number_at, opened_at}
use Rattle.descriptors.specs.Files.{close_file}
use Rattle.descriptors.proofs.Tables.{with_number, with_file}
use Rattle.descriptors.proofs.Kept.{within}
use Rattle.descriptors.proofs.Calls.{table_is, close_done, last_close_done, close_is, last_close_is}
use Rattle.descriptors.proofs.Calls.{has_is, the_value}
use Rattle.descriptors.proofs.table.Descriptors.close.Goals as goal

pub invariant_of-self : goal.invariant_of-self
invariant_of-self c =
    let t : Table = record { opened = c.self.inside.files; sessions = c.self.inside.sessions.items } in
    let k = c.in-Some.number in
    let is : number_at t c.args.session c.args.fd ≡ Some k = ap (λ (u : Table). number_at u c.args.session c.args.fd) c.self.view_is ∙ sym c.number.ensures ∙ c.in-Some.is in
    let low = within t c.args.session c.args.fd k c.self.invariant is in
    let has = has_is t c.args.session c.args.fd k c.index_mut.result.now c.index.result.now c.has_number.result c.self.invariant c.requires c.index_mut.ensures.value c.index.ensures c.has_number.ensures in
    subst IsTable (sym (table_is t c.args.session c.args.fd None _ _ _ c.index_mut.ensures.value (omega (arith, c.requires, c.self.invariant.sessions)) refl))
    (close_is t c.args.session c.args.fd k c.self.invariant c.requires low.1 is (has ∙ c.if-has_number.true))

pub returns-then-has_number-clause-close : goal.returns-then-has_number-clause-close
returns-then-has_number-clause-close c =
    let t : Table = record { opened = c.self.inside.files; sessions = c.self.inside.sessions.items } in
    let k = c.in-Some.number in
    let is : number_at t c.args.session c.args.fd ≡ Some k = ap (λ (u : Table). number_at u c.args.session c.args.fd) c.self.view_is ∙ sym c.number.ensures ∙ c.in-Some.is in
    let low = within t c.args.session c.args.fd k c.self.invariant is in
    let has = has_is t c.args.session c.args.fd k c.index_mut.result.now c.index.result.now c.has_number.result c.self.invariant c.requires c.index_mut.ensures.value c.index.ensures c.has_number.ensures in
    ap (λ (u : Table). Ok (None, files_of u)) (table_is t c.args.session c.args.fd None _ _ _ c.index_mut.ensures.value (omega (arith, c.requires, c.self.invariant.sessions)) refl)
    ∙ close_done t c.args.session c.args.fd k c.self.invariant c.requires low.1 is (has ∙ c.if-has_number.true)
    ∙ ap (λ (u : Table). close_file (files_of u) c.args.session c.args.fd) c.self.view_is

pub invariant_of-self-2 : goal.invariant_of-self-2
invariant_of-self-2 c =
    let t : Table = record { opened = c.self.inside.files; sessions = c.self.inside.sessions.items } in
    let k = c.in-Some.number in
    let is : number_at t c.args.session c.args.fd ≡ Some k = ap (λ (u : Table). number_at u c.args.session c.args.fd) c.self.view_is ∙ sym c.number.ensures ∙ c.in-Some.is in
    let low = within t c.args.session c.args.fd k c.self.invariant is in
    let has = has_is t c.args.session c.args.fd k c.index_mut.result.now c.index.result.now c.has_number.result c.self.invariant c.requires c.index_mut.ensures.value c.index.ensures c.has_number.ensures in
    subst IsTable (sym (table_is t c.args.session c.args.fd None _ _ _ c.index_mut.ensures.value (omega (arith, c.requires, c.self.invariant.sessions)) c.remove.ensures.after))
    (last_close_is t c.args.session c.args.fd k c.self.invariant c.requires low.1 is (has ∙ c.if-has_number.false))

pub returns-clause-close : goal.returns-clause-close
returns-clause-close c =
    let t : Table = record { opened = c.self.inside.files; sessions = c.self.inside.sessions.items } in
    let k = c.in-Some.number in
    let is : number_at t c.args.session c.args.fd ≡ Some k = ap (λ (u : Table). number_at u c.args.session c.args.fd) c.self.view_is ∙ sym c.number.ensures ∙ c.in-Some.is in
    let low = within t c.args.session c.args.fd k c.self.invariant is in
    let has = has_is t c.args.session c.args.fd k c.index_mut.result.now c.index.result.now c.has_number.result c.self.invariant c.requires c.index_mut.ensures.value c.index.ensures c.has_number.ensures in
    let o = the_value (opened_at t k) (c.self.invariant.leads c.args.session c.args.fd k is) in
    let inode : c.remove.result ≡ o.0.inode = some_same _ _ (sym c.remove.ensures.inode ∙ ap (option_map (λ (p : OpenFile). p.inode)) o.1) in
    ap (λ (u : Table). Ok (Some c.remove.result, files_of u))
    (table_is t c.args.session c.args.fd None _ _ _ c.index_mut.ensures.value (omega (arith, c.requires, c.self.invariant.sessions)) c.remove.ensures.after)
    ∙ ap (λ (n : ℕ). Ok (Some n, files_of (with_number (with_file t k None) c.args.session c.args.fd None))) inode
    ∙ last_close_done t c.args.session c.args.fd k o.0 c.self.invariant c.requires low.1 is o.1 (has ∙ c.if-has_number.false)
    ∙ ap (λ (u : Table). close_file (files_of u) c.args.session c.args.fd) c.self.view_is
