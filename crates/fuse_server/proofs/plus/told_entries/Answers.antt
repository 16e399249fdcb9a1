use Rattle.std.proofs.Common.{ap, length, refl, arith}
use Rattle.fuse_nodes.specs.Known.{known_of}
use Rattle.fuse_server.specs.Reach.{CalledFrom}
use Rattle.fuse_server.proofs.Asking.{stays, goes_on}
use Rattle.fuse_server.proofs.Entries.{none_listed}
use Rattle.fuse_server.proofs.Steps.{no_step, steps_on}
use Rattle.fuse_server.proofs.plus.told_entries.Goals as goal

pub entries-init : goal.entries-init
entries-init g c = record {
  asked = stays (CalledFrom c.args.work.reach g.S.Sessions.called) g.S.Sessions.entered g.S.Sessions.left c.args.work.now
      c.args.sessions.now;
  room = omega (arith, ap length c.in_ok-bytes.ensures.items);
  listed = none_listed (known_of c.args.nodes.now) c.in_ok-bytes.bytes.items c.in_ok-bytes.ensures.items;
  steps = no_step refl;
}

pub entries-preserved : goal.entries-preserved
entries-preserved g c = record {
  asked = goes_on c.entries.invariant.asked c.push_found.ensures.asked;
  room = c.push_found.ensures.room;
  listed = c.push_found.ensures.listed c.entries.invariant.listed;
  steps = steps_on c.entries.invariant.steps c.push_found.ensures.steps;
}

pub returns-then-not-push_found-clause-asked : goal.returns-then-not-push_found-clause-asked
returns-then-not-push_found-clause-asked g c = goes_on c.entries.invariant.asked c.push_found.ensures.asked

pub returns-then-not-push_found-clause-listed : goal.returns-then-not-push_found-clause-listed
returns-then-not-push_found-clause-listed g c = c.push_found.ensures.listed c.entries.invariant.listed

pub returns-then-not-push_found-clause-steps : goal.returns-then-not-push_found-clause-steps
returns-then-not-push_found-clause-steps g c = steps_on c.entries.invariant.steps c.push_found.ensures.steps
