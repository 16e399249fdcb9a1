use Rattle.std.proofs.Common.{◌≡◌, ℕ, ap, arith, length}
use Rattle.std.specs.Prelude.{vec_capacity, vec_len}
use Rattle.ninep_server.proofs.Exchanged.{exchanged_ok}
use Rattle.ninep_server.proofs.connection.ConnectionAnswering.answer.Goals as goal

pub returns-clause-ok : goal.returns-clause-ok
returns-clause-ok g c =
    let out = c.args.out.now in
    let none : length out.items ≡ 0 = ap length c.requires in
    let zero : vec_len out ≡ 0 = omega (arith, none, out.ok.0) in
    exchanged_ok g.S.Sessions.called g.S.Sessions.entered g.S.Sessions.left c.args.now (vec_capacity out) (vec_len out) c.args.bytes.now
    out.items c.answer.new.out.items c.args.sessions.now c.answer.new.sessions c.args.self.now c.answer.new.self c.answer.result c.requires
    zero c.answer.ensures.answered c.answer.ensures.said
