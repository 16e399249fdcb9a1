-- Which policies are allowed, and the one that is taken where none is given.
use Rattle.std.specs.Prelude.{◌≤◌}
use Rattle.reincarnate.specs.declared.policy.Policy.{Policy}

-- each number is in its range
pub record IsAllowed (policy : Policy) : Type 0 where
  pub few_faults : policy.max_faults ≤ 32
  pub some_cap : 1 ≤ policy.cap
  pub low_cap : policy.cap ≤ 1024
  pub some_calm : 1 ≤ policy.calm
  pub short_calm : policy.calm ≤ 65535
  pub some_misses : 1 ≤ policy.misses
  pub few_misses : policy.misses ≤ 16

-- five faults in a row, a wait of at most 32 ticks, calm after 64 ticks, three missed heartbeats
abbrev pub default_policy : Policy
default_policy = record { max_faults = 5; cap = 32; calm = 64; misses = 3 }
