use Rattle.std.proofs.Common.{arith}
use Rattle.simulated_link.specs.StateView.{Stays, IsRunOut}
use Rattle.simulated_link.proofs.Going.{starves}
use Rattle.simulated_link.proofs.run.RunLink.advance.Goals as goal

pub loop-self-init : goal.loop-self-init
loop-self-init g c = (Stays, c.requires.live, c.requires.paid, c.requires.log, c.requires.drivers, c.requires.queue, omega arith)

pub returns-then-not-make_room-clause-ends : goal.returns-then-not-make_room-clause-ends
returns-then-not-make_room-clause-ends g c = λ none.
    starves _ _ _ _ _ _ _ c.loop-self.invariant.0 c.run.ensures.plays c.in_default.is c.make_room.ensures.scene c.make_room.ensures.waiting
    c.make_room.ensures.over

pub returns-clause-ends : goal.returns-clause-ends
returns-clause-ends g c = λ none. IsRunOut _ c.loop-self.invariant.0 (record { events = c.loop-self-test.false; paid = c.loop-self.invariant.2 })
