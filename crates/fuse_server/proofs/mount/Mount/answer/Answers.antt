use Rattle.std.proofs.Common.{sym, ◌∙◌}
use Rattle.std.specs.Prelude.{vec_capacity}
use Rattle.fuse_server.specs.Answering.{MayHearFrom}
use Rattle.fuse_nodes.specs.Known.{known_of}
use Rattle.fuse_server.proofs.Answering.{loud_has_bytes}
use Rattle.std.proofs.Common.{refl}
use Rattle.fuse_server.proofs.Steps.{no_step}
use Rattle.fuse_server.proofs.mount.Mount.answer.Goals as goal

pub returns-clause-silent : goal.returns-clause-silent
returns-clause-silent g c =
    loud_has_bytes (MayHearFrom g.S.Sessions.called g.S.Sessions.entered g.S.Sessions.left c.args.now) c.args.now
    (known_of c.args.self.now.nodes) (known_of c.reply.new.self.nodes) c.args.bytes.now c.in_ok-head.head.opcode c.in_ok-head.head.unique
    (vec_capacity c.args.out.now) c.args.sessions.now c.args.out.now.items c.reply.new.sessions
    c.reply.new.out.items c.reply.result c.in_ok-head.ensures.found.0 (sym c.is_silent.ensures ∙ c.if-is_silent.false) c.reply.ensures.told

pub returns-in_err-head-clause-steps : goal.returns-in_err-head-clause-steps
returns-in_err-head-clause-steps g c = no_step refl
