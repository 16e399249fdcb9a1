use Rattle.std.proofs.Common.{ap, sym, ◌∙◌, subst, Some, Ok, arith}
use Rattle.std.specs.Prelude.{position, is_none}
use Rattle.descriptors.specs.Table.{Table, IsTable, files_of, session_at}
use Rattle.descriptors.specs.Files.{put_file}
use Rattle.descriptors.proofs.Kept.{put_keeps}
use Rattle.descriptors.proofs.Calls.{table_is, new_file, fd_low, number_low, put_refused, put_refused_later, put_done}
use Rattle.descriptors.proofs.table.Descriptors.put.Goals as goal

pub returns-in_default-clause-put : goal.returns-in_default-clause-put
returns-in_default-clause-put c =
    let t : Table = record { opened = c.self.inside.files; sessions = c.self.inside.sessions.items } in
    put_refused t c.args.session c.args.inode c.args.flags.0 c.self.invariant c.requires
    (ap (λ (u : Table). position is_none (session_at u c.args.session)) c.self.view_is ∙ sym c.free_descriptor.ensures ∙ c.in_default.is)
    ∙ ap (λ (u : Table). put_file (files_of u) c.args.session c.args.inode c.args.flags.0) c.self.view_is

pub returns-in_default-free-clause-put : goal.returns-in_default-free-clause-put
returns-in_default-free-clause-put c =
    let t : Table = record { opened = c.self.inside.files; sessions = c.self.inside.sessions.items } in
    put_refused_later t c.args.session c.args.inode c.args.flags.0 c.in-Some.fd c.self.invariant c.requires
    (ap (λ (u : Table). position is_none (session_at u c.args.session)) c.self.view_is ∙ sym c.free_descriptor.ensures ∙ c.in-Some.is)
    (sym c.free.ensures.number ∙ c.in_default-free.is)
    ∙ ap (λ (u : Table). put_file (files_of u) c.args.session c.args.inode c.args.flags.0) c.self.view_is

pub insert-requires-clause-free : goal.insert-requires-clause-free
insert-requires-clause-free c =
    let t : Table = record { opened = c.self.inside.files; sessions = c.self.inside.sessions.items } in
    (number_low t c.in-Some-free.number c.self.invariant (sym c.free.ensures.number ∙ c.in-Some-free.is)).1

pub invariant_of-self : goal.invariant_of-self
invariant_of-self c =
    let t : Table = record { opened = c.self.inside.files; sessions = c.self.inside.sessions.items } in
    let o = new_file c.args.inode c.args.flags.0 in
    let k = number_low t c.in-Some-free.number c.self.invariant (sym c.free.ensures.number ∙ c.in-Some-free.is) in
    let fd = fd_low t c.args.session c.in-Some.fd c.self.invariant c.requires
    (ap (λ (u : Table). position is_none (session_at u c.args.session)) c.self.view_is ∙ sym c.free_descriptor.ensures ∙ c.in-Some.is) in
    subst IsTable (sym (table_is t c.args.session c.in-Some.fd (Some c.in-Some-free.number) _ _ _ c.index_mut.ensures.value (omega (arith, c.requires, c.self.invariant.sessions)) c.insert.ensures))
    (put_keeps t c.args.session c.in-Some.fd c.in-Some-free.number o c.self.invariant c.requires fd.0 k.0 fd.1 k.1 (omega arith))

pub returns-clause-put : goal.returns-clause-put
returns-clause-put c =
    let t : Table = record { opened = c.self.inside.files; sessions = c.self.inside.sessions.items } in
    let o = new_file c.args.inode c.args.flags.0 in
    ap (λ (u : Table). Ok (c.in-Some.fd, files_of u))
    (table_is t c.args.session c.in-Some.fd (Some c.in-Some-free.number) _ _ _ c.index_mut.ensures.value (omega (arith, c.requires, c.self.invariant.sessions)) c.insert.ensures)
    ∙ put_done t c.args.session c.args.inode c.args.flags.0 c.in-Some.fd c.in-Some-free.number c.self.invariant c.requires
    (ap (λ (u : Table). position is_none (session_at u c.args.session)) c.self.view_is ∙ sym c.free_descriptor.ensures ∙ c.in-Some.is)
    (sym c.free.ensures.number ∙ c.in-Some-free.is)
    ∙ ap (λ (u : Table). put_file (files_of u) c.args.session c.args.inode c.args.flags.0) c.self.view_is
