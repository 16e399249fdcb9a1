-- A link that a schedule moves, as the run that it runs; the words of such a run are passed on.
use Rattle.bdev.specs.DriverState.{DriverState}
use Rattle.schedule.specs.LogView.{said}
use Rattle.simulated_link.specs.StageView.{scene_of}
use Rattle.simulated_link.specs.declared.run.RunLink.{RunLink}
pub use Rattle.simulated_link.specs.RunState.{RunState, begun, RunsEvent, Advances, Stays, Goes, Heard, RunTruth, noting, paid, ended, starving, IsSpent, ComesToEnd, IsRunOut, IsStarved, posted, ruling_at, complained, Turn, Takes, TakesOwed, TakesEnd, Posts, Complains, GoesOn, Still, Further, Asides, HandsEvent, HandsNone, HandsOwed, HandsNothing, HandsOut, Answers, unless_told, work_left, first_noted, IsOpened, left_of}

-- a link as it stands
abbrev pub run_of : {D : Type 0} → (D → DriverState) → RunLink D → RunState
run_of state p = record {
  scene = scene_of state p.stage (said p.log);
  events = p.events.now;
  next = p.next;
  queue = p.queue.items;
  owed = p.owed;
  told = p.told;
  over = p.log.over;
  starved = p.starved;
}
