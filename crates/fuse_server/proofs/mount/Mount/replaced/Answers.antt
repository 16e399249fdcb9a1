use Rattle.fuse_server.proofs.Steps.{no_step}
use Rattle.std.proofs.Common.{Some, None, refl}
use Rattle.fuse_server.proofs.Asking.{goes_on, looking, looking_on}
use Rattle.fuse_server.proofs.mount.Mount.replaced.Goals as goal

pub returns-in_err-hold-clause-asked : goal.returns-in_err-hold-clause-asked
returns-in_err-hold-clause-asked g c = goes_on c.look_for.ensures.asked c.hold.ensures.asked

pub returns-clause-asked : goal.returns-clause-asked
returns-clause-asked g c = goes_on c.look_for.ensures.asked c.hold.ensures.asked

pub returns-in_default-clause-seen : goal.returns-in_default-clause-seen
returns-in_default-clause-seen g c = looking None (rw c.in_default.is at c.in_ok-attributes.ensures.seen)

pub returns-clause-seen : goal.returns-clause-seen
returns-clause-seen g c =
    looking_on (looking (Some c.in-Some.attributes) (rw c.in-Some.is at c.in_ok-attributes.ensures.seen)) c.hold.ensures.asked

pub returns-in_err-attributes-clause-asked : goal.returns-in_err-attributes-clause-asked
returns-in_err-attributes-clause-asked g c = c.look_for.ensures.asked

pub returns-in_default-clause-asked : goal.returns-in_default-clause-asked
returns-in_default-clause-asked g c = c.look_for.ensures.asked

pub returns-in_err-attributes-clause-steps : goal.returns-in_err-attributes-clause-steps
returns-in_err-attributes-clause-steps g c = no_step refl

pub returns-in_default-clause-steps : goal.returns-in_default-clause-steps
returns-in_default-clause-steps g c = no_step refl

pub returns-in_err-hold-clause-steps : goal.returns-in_err-hold-clause-steps
returns-in_err-hold-clause-steps g c = c.hold.ensures.steps

pub returns-clause-steps : goal.returns-clause-steps
returns-clause-steps g c = c.hold.ensures.steps
