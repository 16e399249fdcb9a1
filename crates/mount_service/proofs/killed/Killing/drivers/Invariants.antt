use Rattle.std.proofs.Common.{◌≡◌, ◌++◌, map}
use Rattle.mount_service.specs.Killed.{killed_state}
use Rattle.mount_service.proofs.killed.Killing.drivers.Given as goal

-- those that can be killed, and those that are left, are all
abbrev pub invariant-loop-driver : goal.invariant-loop-driver
invariant-loop-driver g l =
    map (killed_state g.D.BlockDriver.state) l.killed.items ++ map g.D.BlockDriver.state l.driver-iterator.rest.items
    ≡ map g.D.BlockDriver.state l.fn.drivers.items
