use Rattle.std.proofs.Common.{◌≡◌, ◌+◌, length, vec_len}
use Rattle.lecternowl.proofs.tasks.admit_all.Given as goal

-- a turn for each task that isn't left
abbrev pub invariant-loop-task : goal.invariant-loop-task
invariant-loop-task g l = vec_len l.turns + length l.task-iterator.rest.items ≡ vec_len l.fn.tasks
