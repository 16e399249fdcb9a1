use Rattle.std.proofs.Common.{subst, List, ℕ, ◌≡◌, ◌≤◌, ◌+◌, length, OnErr, true, arith}
use Rattle.std.specs.Prelude.{vec_capacity, vec_len}
use Rattle.talks.specs.Talks.{MayHear}
use Rattle.ninep_fids.specs.Knowledge.{known_of}
use Rattle.ninep_server.proofs.Turns.{all_stays, answered, had_none, has_room, said_so, wants_room}
use Rattle.ninep_server.proofs.connection.Connection.answer.Goals as goal

pub returns-clause-answered : goal.returns-clause-answered
returns-clause-answered g c =
    answered _ c.in_ok-tag.tag _ _ _ _ c.reserve.new.self.items c.args.out.now.items _ c.said_to-said.result c.send.result
    c.in_ok-tag.ensures.tag c.reserve.ensures.items c.said_to-said.ensures.asked c.send.ensures.ok

pub returns-clause-said : goal.returns-clause-said
returns-clause-said g c = rw (← c.self.view_is)
    (said_so (MayHear g.S.Sessions.called g.S.Sessions.entered g.S.Sessions.left c.args.now) c.args.now c.args.bytes.now
    c.args.sessions.now c.said_to-said.new.sessions (known_of c.self.inside.knows) (known_of c.said_to-said.new.knows) _ _
    c.in_ok-tag.tag c.reserve.new.self.items c.args.out.now.items _ c.said_to-said.result _ c.send.result c.in_ok-tag.ensures.tag
    c.reserve.ensures.items c.said_to-said.ensures.followed
    (wants_room c.reserve.result _ _ c.is_ok-has_room.ensures.value c.reserve.ensures.full) c.send.ensures.ok)

pub returns-clause-none : goal.returns-clause-none
returns-clause-none g c =
    let out = c.reserve.new.self in
    let room : c.is_ok-has_room.result ≡ true → vec_len out + 65560 ≤ vec_capacity out =
    has_room c.reserve.result _ _ c.is_ok-has_room.ensures.value c.reserve.ensures.ok in
    rw (← c.self.view_is)
    (all_stays (MayHear g.S.Sessions.called g.S.Sessions.entered g.S.Sessions.left c.args.now) c.args.now c.args.bytes.now
    c.args.sessions.now c.said_to-said.new.sessions (known_of c.self.inside.knows) (known_of c.said_to-said.new.knows)
    (length out.items) (vec_capacity out) c.said_to-said.new.knows.message_size c.said_to-said.result c.is_ok-has_room.result c.send.result
    c.send.new.out.items c.args.out.now.items c.said_to-said.ensures.followed (λ e. omega (arith, room e, out.ok.0))
    c.said_to-said.new.knows.sized.1 c.send.ensures.full
    (subst (λ (y : List ℕ). OnErr c.send.result (c.send.new.out.items ≡ y)) c.reserve.ensures.items c.send.ensures.kept))

pub returns-clause-full : goal.returns-clause-full
returns-clause-full g c = λ is.
    let out = c.reserve.new.self in
    let room : c.is_ok-has_room.result ≡ true → vec_len out + 65560 ≤ vec_capacity out =
    has_room c.reserve.result _ _ c.is_ok-has_room.ensures.value c.reserve.ensures.ok in
    had_none (length out.items) (vec_capacity out) c.said_to-said.new.knows.message_size c.is_ok-has_room.result c.send.result _ _
    (λ e. omega (arith, room e, out.ok.0))
    (wants_room c.reserve.result _ _ c.is_ok-has_room.ensures.value c.reserve.ensures.full) c.said_to-said.new.knows.sized.1
    c.send.ensures.full is
