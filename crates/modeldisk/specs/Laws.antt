-- What the order of a sweep is.
use Rattle.std.specs.Prelude.{ℕ, ◌≡◌, ◌++◌, filter, nat_le, nat_lt}
use Rattle.std.specs.List.{range_with_len}
use Rattle.bdev.specs.declared.Run.{Run}
use Rattle.modeldisk.specs.Order.{order_of}

-- an arm moves a run's sectors not below it, rising, then those below it, rising; from sector 0 that is all in rising order
pub record IsSweep : Type 0 where
  pub swept : (arm : ℕ) (run : Run)
      → order_of arm run ≡ filter (nat_le arm) (range_with_len run.first run.count) ++ filter (λ s. nat_lt s arm) (range_with_len run.first run.count)
  pub rising : (run : Run) → order_of 0 run ≡ range_with_len run.first run.count
