use Rattle.std.proofs.Common.{◌≡◌, ◌∙◌, Ok, Err, sym}
use Rattle.errno.specs.declared.Errno.TheVariants.{ENOENT}
use Rattle.talks.specs.Hearing.{attributes_in}
use Rattle.talks.specs.declared.refused.Refused.TheVariants.{By}
use Rattle.fuse_server.proofs.Asking.{missed, seen}
use Rattle.fuse_server.proofs.talk.Seats.look_for.Goals as goal

pub returns-in-Ok-clause-seen : goal.returns-in-Ok-clause-seen
returns-in-Ok-clause-seen g c =
    let found : attributes_in c.in_ok-heard.heard ≡ Ok c.in-Ok.attributes = sym c.attributes.ensures ∙ c.in-Ok.is in
    seen c.args.path c.in_ok-heard.heard c.in-Ok.attributes c.in_ok-heard.ensures.heard found

pub returns-in-Err-By-ENOENT-clause-seen : goal.returns-in-Err-By-ENOENT-clause-seen
returns-in-Err-By-ENOENT-clause-seen g c =
    let refused : attributes_in c.in_ok-heard.heard ≡ Err (By ENOENT) = cc (sym c.attributes.ensures ∙ c.in-Err-By-ENOENT.is) in
    missed c.args.path c.in_ok-heard.heard c.in_ok-heard.ensures.heard refused
