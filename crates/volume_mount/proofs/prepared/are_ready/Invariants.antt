use Rattle.std.proofs.Common.{◌≡◌, true, take}
use Rattle.std.specs.Prelude.{All}
use Rattle.std.specs.List.{list_all}
use Rattle.bdev.specs.Promises.{IsDriver}
use Rattle.volume_mount.specs.Starting.{is_ready_for}
use Rattle.volume_mount.proofs.prepared.are_ready.Given as goal

abbrev pub invariant-loop-driver : goal.invariant-loop-driver
invariant-loop-driver g l =
    (list_all (λ d. is_ready_for l.minor l.range (g.D.LocalDriver.state d)) (take l.driver-index l.supply) ≡ true)
    × All (λ d. IsDriver (g.D.LocalDriver.state d)) (take l.driver-index l.supply)
