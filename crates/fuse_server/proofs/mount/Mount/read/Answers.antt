use Rattle.fuse_server.proofs.Steps.{no_step}
use Rattle.fuse_server.proofs.Asking.{on_err, stays, goes_on}
use Rattle.std.proofs.Common.{◌∙◌, w64, rules, refl}
use Rattle.std.proofs.lemmas.Int.{to_z-of_z}
use mir.Val.{SFits}
use Rattle.fuse_nodes.specs.Known.{known_of}
use Rattle.fuse_server.specs.Reach.{CalledFrom}
use Rattle.fuse_server.proofs.Telling.{past_behind, read_behind}
use Rattle.fuse_server.proofs.mount.Mount.read.Goals as goal

pub returns-in_default-clause-behind : goal.returns-in_default-clause-behind
returns-in_default-clause-behind g c =
    past_behind (CalledFrom c.args.work.reach g.S.Sessions.called) g.S.Sessions.entered g.S.Sessions.left c.args.work.now
    (known_of c.args.self.now.nodes) c.args.sessions.now c.args.work.reach c.args.span.offset c.args.span.count c.no_bytes.result
    c.in_default.ensures.past c.no_bytes.ensures

pub returns-clause-behind : goal.returns-clause-behind
returns-clause-behind g c =
    let fits : SFits w64 c.in-Some.offset = search rules in
    read_behind c.args.work.reach c.in_ok-descriptor.descriptor c.args.span.offset c.args.span.count _ _ c.truncate.new.self
    c.in_ok-bytes.bytes.items c.in_ok-descriptor.ensures.own
    (to_z-of_z w64 c.in-Some.offset fits ∙ c.in-Some.ensures.at) c.most_of-count.ensures.value c.in_ok-bytes.ensures.read
    c.truncate.ensures.items

pub returns-in_err-check_file-clause-asked : goal.returns-in_err-check_file-clause-asked
returns-in_err-check_file-clause-asked g c = on_err _ (stays _ _ _ _ _)

pub returns-in_err-descriptor-clause-asked : goal.returns-in_err-descriptor-clause-asked
returns-in_err-descriptor-clause-asked g c = on_err _ c.descriptor.ensures.asked

pub returns-in_err-bytes-clause-asked : goal.returns-in_err-bytes-clause-asked
returns-in_err-bytes-clause-asked g c = on_err _ (goes_on c.descriptor.ensures.asked c.read_at.ensures.asked)

pub returns-in_err-check_file-clause-steps : goal.returns-in_err-check_file-clause-steps
returns-in_err-check_file-clause-steps g c = no_step refl

pub returns-in_default-clause-steps : goal.returns-in_default-clause-steps
returns-in_default-clause-steps g c = no_step refl

pub returns-in_err-descriptor-clause-steps : goal.returns-in_err-descriptor-clause-steps
returns-in_err-descriptor-clause-steps g c = c.descriptor.ensures.steps

pub returns-in_err-bytes-clause-steps : goal.returns-in_err-bytes-clause-steps
returns-in_err-bytes-clause-steps g c = c.descriptor.ensures.steps

pub returns-clause-steps : goal.returns-clause-steps
returns-clause-steps g c = c.descriptor.ensures.steps
