use Rattle.std.proofs.Common.{ap, sym, ◌∙◌, subst, Some, Ok, refl, arith}
use Rattle.std.specs.Prelude.{position, is_none}
use Rattle.descriptors.specs.Table.{Table, IsTable, files_of, session_at, number_at}
use Rattle.descriptors.specs.Files.{dup_file}
use Rattle.descriptors.proofs.Kept.{dup_keeps}
use Rattle.descriptors.proofs.Calls.{table_is, fd_low, dup_refused, dup_refused_later, dup_done}
use Rattle.descriptors.proofs.table.Descriptors.dup.Goals as goal

pub returns-in_default-clause-dup : goal.returns-in_default-clause-dup
returns-in_default-clause-dup c = dup_refused c.args.self.now c.args.session c.args.fd (sym c.number.ensures ∙ c.in_default.is)

pub returns-in_default-free_descriptor-clause-dup : goal.returns-in_default-free_descriptor-clause-dup
returns-in_default-free_descriptor-clause-dup c =
    let t : Table = record { opened = c.self.inside.files; sessions = c.self.inside.sessions.items } in
    dup_refused_later t c.args.session c.args.fd c.in-Some.number c.self.invariant c.requires
    (ap (λ (u : Table). number_at u c.args.session c.args.fd) c.self.view_is ∙ sym c.number.ensures ∙ c.in-Some.is)
    (ap (λ (u : Table). position is_none (session_at u c.args.session)) c.self.view_is ∙ sym c.free_descriptor.ensures ∙ c.in_default-free_descriptor.is)
    ∙ ap (λ (u : Table). dup_file (files_of u) c.args.session c.args.fd) c.self.view_is

pub invariant_of-self : goal.invariant_of-self
invariant_of-self c =
    let t : Table = record { opened = c.self.inside.files; sessions = c.self.inside.sessions.items } in
    let fd = fd_low t c.args.session c.in-Some-free_descriptor.other c.self.invariant c.requires
    (ap (λ (u : Table). position is_none (session_at u c.args.session)) c.self.view_is ∙ sym c.free_descriptor.ensures ∙ c.in-Some-free_descriptor.is) in
    subst IsTable (sym (table_is t c.args.session c.in-Some-free_descriptor.other (Some c.in-Some.number) _ _ _ c.index_mut.ensures.value (omega (arith, c.requires, c.self.invariant.sessions)) refl))
    (dup_keeps t c.args.session c.args.fd c.in-Some-free_descriptor.other c.in-Some.number c.self.invariant c.requires fd.0
    (ap (λ (u : Table). number_at u c.args.session c.args.fd) c.self.view_is ∙ sym c.number.ensures ∙ c.in-Some.is) fd.1)

pub returns-clause-dup : goal.returns-clause-dup
returns-clause-dup c =
    let t : Table = record { opened = c.self.inside.files; sessions = c.self.inside.sessions.items } in
    ap (λ (u : Table). Ok (c.in-Some-free_descriptor.other, files_of u))
    (table_is t c.args.session c.in-Some-free_descriptor.other (Some c.in-Some.number) _ _ _ c.index_mut.ensures.value (omega (arith, c.requires, c.self.invariant.sessions)) refl)
    ∙ dup_done t c.args.session c.args.fd c.in-Some-free_descriptor.other c.in-Some.number c.self.invariant c.requires
    (ap (λ (u : Table). number_at u c.args.session c.args.fd) c.self.view_is ∙ sym c.number.ensures ∙ c.in-Some.is)
    (ap (λ (u : Table). position is_none (session_at u c.args.session)) c.self.view_is ∙ sym c.free_descriptor.ensures ∙ c.in-Some-free_descriptor.is)
    ∙ ap (λ (u : Table). dup_file (files_of u) c.args.session c.args.fd) c.self.view_is
