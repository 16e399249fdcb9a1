-- The drivers under the reincarnation server, as contracts see them.
use Rattle.std.specs.Prelude.{map}
use Rattle.bdev.specs.DriverState.{DriverState}
use Rattle.schedule.specs.Noted.{Noted}
use Rattle.simulated_link.specs.Scene.{Scene}
use Rattle.simulated_link.specs.DisksView.{disks_of}
use Rattle.simulated_link.specs.declared.events.stage.Stage.{Stage}

-- with what was noted
abbrev pub scene_of : {D : Type 0} → (D → DriverState) → Stage D → Noted → Scene
scene_of state s noted = record {
  disks = disks_of state s.drivers;
  supply = map state s.reincarnation.supply;
  policy = s.reincarnation.policy;
  watch = s.reincarnation.watch;
  tick = s.tick;
  pulse = s.pulse;
  noted = noted;
}
