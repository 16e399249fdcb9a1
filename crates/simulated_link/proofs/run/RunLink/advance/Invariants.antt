use Rattle.std.proofs.Common.{length, ◌-◌, ◌≡◌, ◌<◌, ◌≤◌, None, false}
use Rattle.std.specs.VecDeque.{deque_len, deque_capacity}
use Rattle.schedule.specs.LogView.{room_in}
use Rattle.simulated_link.specs.DisksView.{HasRoom}
use Rattle.simulated_link.specs.StateView.{run_of, Advances}
use Rattle.simulated_link.proofs.run.RunLink.advance.Given as goal

abbrev pub invariant-loop-self : goal.invariant-loop-self
invariant-loop-self g l =
    Advances (run_of g.D.LocalDriver.state l.initial.self) None (run_of g.D.LocalDriver.state l.self)
    × (l.self.log.over ≡ false)
    × (l.self.owed ≡ false)
    × (36 ≤ room_in l.self.log)
    × HasRoom l.self.stage.drivers
    × (deque_len l.self.queue < deque_capacity l.self.queue)
    × (l.initial.self.next ≤ l.self.next)

abbrev pub decreases-loop-self : goal.decreases-loop-self
decreases-loop-self g l = length l.self.events.now - l.self.next
