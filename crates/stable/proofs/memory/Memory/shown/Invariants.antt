use Rattle.std.proofs.Common.{◌≡◌, map, take}
use Rattle.stable.specs.Disk.{restarted, run}
use Rattle.stable.specs.Runs.{file_of}
use Rattle.stable.specs.Memory.{contents_of, event_of}
use Rattle.stable.proofs.memory.Memory.shown.Given as goal

abbrev pub invariant-loop-happening : goal.invariant-loop-happening
invariant-loop-happening l =
    l.unit ≡ (file_of (run (map event_of (take l.happening-index l.happening-items)) (restarted (contents_of l.fn.self.log.items) (contents_of l.fn.self.image.items))) l.file).shows l.n
