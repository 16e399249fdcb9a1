use Rattle.std.proofs.Common.{◌≤◌, ◌+◌}
use Rattle.reissue.specs.Transfers.{table_of}
use Rattle.tests_frames.proofs.transfers.take.Given as goal

abbrev pub invariant-messages : goal.invariant-messages
invariant-messages g l = record {
  few : (table_of l.transfers).ids ≤ (table_of l.initial.transfers).ids + l.counter;
  within : l.counter ≤ 255;
}
