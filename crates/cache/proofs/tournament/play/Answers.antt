use Rattle.std.proofs.Common.{refl, arith}
use Rattle.cache.proofs.TournamentLaws.{play_begun, play_up, play_done, play_stopped, children_in}
use Rattle.cache.proofs.tournament.play.Goals as goal

pub up-init : goal.up-init
up-init c = play_begun c.args.at _ c.args.keys.now c.args.nodes.now c.requires.was c.requires.at refl

pub best-place-requires-clause-left : goal.best-place-requires-clause-left
best-place-requires-clause-left c = (children_in c.args.at c.up.node c.args.keys.now c.up.nodes c.up.invariant).1

pub best-place-requires-clause-right : goal.best-place-requires-clause-right
best-place-requires-clause-right c = (children_in c.args.at c.up.node c.args.keys.now c.up.nodes c.up.invariant).2

pub returns-then-place-at : goal.returns-then-place-at
returns-then-place-at c =
    play_stopped c.args.at c.up.node c.best-place.result c.args.keys.now c.up.nodes c.up.invariant (omega (arith, c.up-test.true)) c.best-place.ensures
    c.if-place-nodes.true c.if-place-at.true

pub up-preserved : goal.up-preserved
up-preserved c =
    play_up c.args.at c.up.node c.best-place.result _ c.args.keys.now c.up.nodes c.up.invariant (omega (arith, c.up-test.true)) c.best-place.ensures refl

pub returns : goal.returns
returns c = play_done c.args.at c.up.node c.args.keys.now c.up.nodes c.up.invariant (omega (arith, c.up-test.false))
