use Rattle.std.proofs.Common.{◌≡◌, take, false}
use Rattle.std.specs.List.{list_any}
use Rattle.reissue.specs.Entries.{meets}
use Rattle.reissue.proofs.queue.Queue.meets.Given as goal

abbrev pub invariant-loop-at : goal.invariant-loop-at
invariant-loop-at l = list_any (meets l.start l.size) (take l.at l.self) ≡ false
