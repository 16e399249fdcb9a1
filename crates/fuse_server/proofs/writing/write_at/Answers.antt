use Rattle.std.proofs.Common.{◌≡◌, ◌∙◌, Err, None, Ok, Some, sym, w64}
use Rattle.std.proofs.lemmas.Int.{to_z-of_z}
use Rattle.errno.specs.declared.Errno.TheVariants.{ENOSPC}
use Rattle.talks.specs.Hearing.{count_in}
use Rattle.talks.specs.declared.refused.Refused.TheVariants.{By}
use Rattle.fuse_server.specs.Reach.{CalledFrom}
use Rattle.fuse_server.proofs.Asking.{goes_on}
use Rattle.fuse_server.proofs.Tries.{no_room_so, tried_so, wrote_so}
use Rattle.fuse_server.proofs.writing.write_at.Goals as goal

pub returns-in-Ok-clause-told : goal.returns-in-Ok-clause-told
returns-in-Ok-clause-told g c =
    let told : count_in c.calling-heard.result ≡ Ok c.in-Ok.count = sym c.wrote.ensures ∙ c.in-Ok.is in
    tried_so (CalledFrom c.args.work.reach g.S.Sessions.called) g.S.Sessions.entered g.S.Sessions.left c.args.work.now c.args.sessions.now
    c.seek.new.sessions c.calling-heard.new.sessions c.args.descriptor c.args.offset _ c.args.bytes c.in_ok-seek.field-0
    c.calling-heard.result (Some c.in-Ok.count) (to_z-of_z w64 c.args.offset c.ranges.offset) (wrote_so c.calling-heard.result _ told)
    c.in_ok-seek.ensures.sought c.calling-heard.ensures.heard

pub returns-in-Err-By-ENOSPC-clause-told : goal.returns-in-Err-By-ENOSPC-clause-told
returns-in-Err-By-ENOSPC-clause-told g c =
    let told : count_in c.calling-heard.result ≡ Err (By ENOSPC) = cc (sym c.wrote.ensures ∙ c.in-Err-By-ENOSPC.is) in
    tried_so (CalledFrom c.args.work.reach g.S.Sessions.called) g.S.Sessions.entered g.S.Sessions.left c.args.work.now c.args.sessions.now
    c.seek.new.sessions c.calling-heard.new.sessions c.args.descriptor c.args.offset _ c.args.bytes c.in_ok-seek.field-0
    c.calling-heard.result None (to_z-of_z w64 c.args.offset c.ranges.offset) (no_room_so c.calling-heard.result told)
    c.in_ok-seek.ensures.sought c.calling-heard.ensures.heard

pub returns-in_err-seek-clause-asked : goal.returns-in_err-seek-clause-asked
returns-in_err-seek-clause-asked g c = c.seek.ensures.asked

pub returns-in-Ok-clause-asked : goal.returns-in-Ok-clause-asked
returns-in-Ok-clause-asked g c = (goes_on c.seek.ensures.asked c.calling-heard.ensures.asked)

pub returns-in-Err-By-ENOSPC-clause-asked : goal.returns-in-Err-By-ENOSPC-clause-asked
returns-in-Err-By-ENOSPC-clause-asked g c = (goes_on c.seek.ensures.asked c.calling-heard.ensures.asked)

pub returns-in-Err-clause-asked : goal.returns-in-Err-clause-asked
returns-in-Err-clause-asked g c = (goes_on c.seek.ensures.asked c.calling-heard.ensures.asked)
