use Rattle.std.proofs.Common.{w64}
use Rattle.std.proofs.lemmas.Int.{to_z-of_z}
use Rattle.fuse_server.specs.Reach.{CalledFrom}
use Rattle.fuse_server.proofs.Asking.{goes_on, read_so}
use Rattle.fuse_server.proofs.files.read_at.Goals as goal

pub returns-clause-asked : goal.returns-clause-asked
returns-clause-asked g c = goes_on c.in_ok-seek.ensures.asked c.calling.ensures.asked

pub returns-clause-read : goal.returns-clause-read
returns-clause-read g c =
    read_so (CalledFrom c.args.work.reach g.S.Sessions.called) g.S.Sessions.entered g.S.Sessions.left c.args.work.now c.args.sessions.now
    c.seek.new.sessions c.calling.new.sessions c.args.descriptor c.args.offset _ c.args.count c.in_ok-seek.field-0 c.calling.result
    c.bytes.result (to_z-of_z w64 c.args.offset c.ranges.offset) c.in_ok-seek.ensures.sought c.calling.ensures.heard c.bytes.ensures
