use Rattle.fuse_server.proofs.Asking.{goes_on}
use Rattle.std.proofs.Common.{◌∙◌, arith, w64}
use Rattle.std.proofs.lemmas.Int.{to_z-of_z}
use Rattle.fuse_server.specs.Reach.{CalledFrom}
use Rattle.fuse_server.proofs.Tries.{tried_again, tries_begin}
use Rattle.fuse_server.proofs.writing.write_some.Goals as goal

pub tries-init : goal.tries-init
tries-init g c = (
  tries_begin (CalledFrom c.args.work.reach g.S.Sessions.called) g.S.Sessions.entered g.S.Sessions.left c.args.work.now c.args.sessions.now
      c.args.descriptor c.args.offset c.args.bytes.now c.within-given.result.now c.within-given.ensures.first,
  c.within-given.ensures.few,
)

pub tries-preserved : goal.tries-preserved
tries-preserved g c = (
  tried_again c.args.descriptor c.args.offset _ c.tries.given c.in_ok-given.given.now c.in_ok-count.field-0 c.in_default.is
      (to_z-of_z w64 c.args.position c.ranges.position ∙ c.requires.at) c.tries.invariant.0 c.in_ok-count.ensures.told
      c.in_ok-given.ensures.fewer c.in_ok-given.ensures.first,
  omega (arith, c.in_ok-given.ensures.shorter, c.tries.invariant.1),
)

pub returns-in_err-count-clause-asked : goal.returns-in_err-count-clause-asked
returns-in_err-count-clause-asked g c = (goes_on c.tries.invariant.0.talked c.write_at.ensures.asked)

pub returns-in_err-given-clause-asked : goal.returns-in_err-given-clause-asked
returns-in_err-given-clause-asked g c = (goes_on c.tries.invariant.0.talked c.write_at.ensures.asked)

pub returns-in-Some-clause-asked : goal.returns-in-Some-clause-asked
returns-in-Some-clause-asked g c = (goes_on c.tries.invariant.0.talked c.write_at.ensures.asked)
