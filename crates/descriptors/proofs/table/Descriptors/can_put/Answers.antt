use Rattle.std.proofs.Common.{◌≡◌, ap, sym, ◌∙◌, ℕ, Option, Some, None}
use Rattle.std.specs.Prelude.{position, is_none}
use Rattle.descriptors.specs.Table.{Table, files_of, session_at}
use Rattle.descriptors.specs.Files.{room_for_file}
use Rattle.descriptors.proofs.Calls.{room_by, room_is}
use Rattle.descriptors.proofs.table.Descriptors.can_put.Goals as goal

pub returns-in-None-default : goal.returns-in-None-default
returns-in-None-default c =
    let t : Table = record { opened = c.self.inside.files; sessions = c.self.inside.sessions.items } in
    let fd : position is_none (session_at t c.args.session) ≡ None =
    ap (λ (u : Table). position is_none (session_at u c.args.session)) c.self.view_is ∙ sym c.free_descriptor.ensures ∙ c.in-None-default.is-0 in
    ap (λ (o : Option ℕ). room_by o (position is_none t.opened)) (sym fd) ∙ room_is t c.args.session c.self.invariant c.requires
    ∙ ap (λ (u : Table). room_for_file (files_of u) c.args.session) c.self.view_is

pub returns-in_default-None : goal.returns-in_default-None
returns-in_default-None c =
    let t : Table = record { opened = c.self.inside.files; sessions = c.self.inside.sessions.items } in
    let fd : position is_none (session_at t c.args.session) ≡ Some c.in_default-None.field-0-0 =
    ap (λ (u : Table). position is_none (session_at u c.args.session)) c.self.view_is ∙ sym c.free_descriptor.ensures ∙ c.in_default-None.is-0 in
    let number : position is_none t.opened ≡ None = sym c.free.ensures.number ∙ c.in_default-None.is-1 in
    ap (room_by (Some c.in_default-None.field-0-0)) (sym number)
    ∙ ap (λ (o : Option ℕ). room_by o (position is_none t.opened)) (sym fd) ∙ room_is t c.args.session c.self.invariant c.requires
    ∙ ap (λ (u : Table). room_for_file (files_of u) c.args.session) c.self.view_is

pub returns-in-Some-Some : goal.returns-in-Some-Some
returns-in-Some-Some c =
    let t : Table = record { opened = c.self.inside.files; sessions = c.self.inside.sessions.items } in
    let fd : position is_none (session_at t c.args.session) ≡ Some c.in-Some-Some.field-0-0 =
    ap (λ (u : Table). position is_none (session_at u c.args.session)) c.self.view_is ∙ sym c.free_descriptor.ensures ∙ c.in-Some-Some.is-0 in
    let number : position is_none t.opened ≡ Some c.in-Some-Some.field-0-1 = sym c.free.ensures.number ∙ c.in-Some-Some.is-1 in
    ap (room_by (Some c.in-Some-Some.field-0-0)) (sym number)
    ∙ ap (λ (o : Option ℕ). room_by o (position is_none t.opened)) (sym fd) ∙ room_is t c.args.session c.self.invariant c.requires
    ∙ ap (λ (u : Table). room_for_file (files_of u) c.args.session) c.self.view_is
