-- What a run stands at, but for what was noted, and what its groups say of the driver that runs.
use Rattle.std.specs.Prelude.{◌≡◌, ℕ, ◌+◌, ◌≤◌, ◌<◌, List, Bool, true, false, not, Option, Some, None}
use Rattle.message.specs.declared.endpoint.Endpoint.{Endpoint}
use Rattle.bdev.specs.DriverState.{DriverState}
use Rattle.reincarnate.specs.declared.policy.Policy.{Policy}
use Rattle.reincarnate.specs.Faults.{LastFault, gives_up, restart_tick}
use Rattle.reincarnate.specs.Watch.{Watch, Phase, Running, Waiting, GivenUp, driver}
use Rattle.records.specs.Marks.{gave_up, awaits_start}
use Rattle.schedule.specs.Groups.{Group, marks_of, ticks_so_far, running, generation}
use Rattle.schedule.specs.Drivers.{is_hung, missed}
use Rattle.schedule.specs.Starts.{fault_of}
use Rattle.schedule.specs.declared.log.Post.{Post}
use Rattle.simulated_link.specs.Disks.{Disks}

-- the drivers, those not started yet, the policy and what the reincarnation server knows, the tick, the last beat, the accepted posts, and
-- whether that the device was given up is owed or was told
pub record Core : Type 0 where
  pub disks : Disks
  pub supply : List DriverState
  pub policy : Policy
  pub watch : Watch
  pub tick : ℕ
  pub pulse : ℕ × ℕ
  pub posts : List Post
  pub owed : Bool
  pub told : Bool

-- what groups say: the drivers started, the one that runs, whether a start is awaited, whether the device was given up, the ticks, the last
-- fault, and, of one driver, whether it hangs and the ticks at which it beat no more
pub record Story : Type 0 where
  pub started : ℕ
  pub runs : Option Endpoint
  pub awaits : Bool
  pub ended : Bool
  pub ticks : ℕ
  pub fault : Option LastFault
  pub hangs : Bool
  pub misses : ℕ

abbrev pub story : Policy → ℕ → List Group → Story
story policy g groups = record {
  started = generation (marks_of groups);
  runs = running (marks_of groups);
  awaits = awaits_start (marks_of groups);
  ended = gave_up (marks_of groups);
  ticks = ticks_so_far groups;
  fault = fault_of policy groups;
  hangs = is_hung g groups;
  misses = missed g groups;
}

-- a driver runs: the last one, which lives; the watch has its last beat and its misses
pub record RunsNow (x : Story) (c : Core) (last : ℕ × ℕ) (count : ℕ) : Type 0 where
  pub runs_is : x.runs ≡ Some (driver c.watch.generation)
  pub none_awaited : x.awaits ≡ false
  pub goes_on : x.ended ≡ false
  pub paid : c.owed ≡ false
  pub live : c.disks.current.live ≡ true
  pub hangs_is : c.disks.current.hung ≡ x.hangs
  pub last_is : last ≡ c.pulse
  pub count_is : count ≡ x.misses

-- a start is awaited, for the tick that the last fault gives
pub record WaitsNow (x : Story) (c : Core) (until : ℕ) : Type 0 where
  pub none_runs : x.runs ≡ None
  pub awaited : x.awaits ≡ true
  pub goes_on : x.ended ≡ false
  pub paid : c.owed ≡ false
  pub fault : LastFault
  pub last_is : c.watch.fault ≡ Some fault
  pub until_is : until ≡ restart_tick c.policy fault
  pub replaced : gives_up c.policy fault.number c.watch.spares c.watch.generation ≡ false

-- the device was given up at the last fault; the record says so, or that is owed, and it awaits a start
pub record IsGivenUp (x : Story) (c : Core) : Type 0 where
  pub none_runs : x.runs ≡ None
  pub fault : LastFault
  pub last_is : c.watch.fault ≡ Some fault
  pub given_up : gives_up c.policy fault.number c.watch.spares c.watch.generation ≡ true
  pub ended_is : x.ended ≡ not c.owed
  pub awaited : c.owed ≡ true → x.awaits ≡ true

abbrev pub PhaseIs : Story → Core → Phase → Type 0
PhaseIs x c (Running last count) = RunsNow x c last count
PhaseIs x c (Waiting until) = WaitsNow x c until
PhaseIs x c GivenUp = IsGivenUp x c

-- the reincarnation server knows what the groups say; so many drivers were handed in
pub record Follows (drivers : ℕ) (x : Story) (c : Core) : Type 0 where
  pub started_is : x.started ≡ c.watch.generation
  pub some : 0 < c.watch.generation
  pub latest : c.disks.media.generation ≡ c.watch.generation
  pub spares_are : c.watch.spares + c.watch.generation ≡ drivers
  pub tick_is : c.tick ≡ x.ticks
  pub beat : c.pulse.1 ≤ c.tick
  pub fault_is : c.watch.fault ≡ x.fault
  pub once : c.told ≡ true → x.ended ≡ true
  pub phase_is : PhaseIs x c c.watch.phase

-- the groups and what a run stands at
abbrev pub FollowsGroups : ℕ → List Group → Core → Type 0
FollowsGroups drivers groups c = Follows drivers (story c.policy c.watch.generation groups) c
