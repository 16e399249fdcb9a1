use Rattle.std.proofs.Common.{arith, length-append}
use Rattle.std.specs.Global.{Box}
use Rattle.reissue.specs.declared.pending.Pending.{Pending}
use Rattle.reissue.proofs.queue.rooms.Goals as goal

pub loop-init : goal.loop-init
loop-init c = (rw c.in_ok-rooms.ensures.items (omega arith), c.in_ok-rooms.ensures.capacity)

pub push_reserved-requires : goal.push_reserved-requires
push_reserved-requires c = omega (arith, c.loop.invariant.0, c.loop.invariant.1, c.loop.rooms.ok, c.loop-test.true)

pub loop-preserved : goal.loop-preserved
loop-preserved c = (
  rw c.push_reserved.ensures.items (omega (arith, c.loop.invariant.0, length-append {A = Box Pending})),
  rw c.push_reserved.ensures.capacity c.loop.invariant.1,
)
