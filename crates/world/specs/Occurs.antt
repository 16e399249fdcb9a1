-- What a run shows.
use Rattle.std.specs.Prelude.{ℕ, List}
use Rattle.layout.specs.declared.Geometry.{Geometry}
use Rattle.tree.specs.Tree.{Tree}
use Rattle.bdev.specs.DriverState.{DriverState}
use Rattle.reincarnate.specs.declared.policy.Setup.{Setup}
use Rattle.records.specs.Area.{area_of}
use Rattle.records.specs.Opening.{Range, volume_in}
use Rattle.schedule.specs.declared.Event.{Event}
use Rattle.schedule.specs.Headline.{Transcript, Headline}
use Rattle.simulated_link.specs.Moments.{Moment, Runs}
use Rattle.world.specs.Beginning.{IsBegun}
use Rattle.world.specs.Exact.{IsExact}
use Rattle.world.specs.Starts.{at_first}
use Rattle.world.specs.Throughout.{MediaHoldAt}
use Rattle.world.specs.Served.{IsServed}

-- A run that was begun on an image: the volume in this range was checked, and held this tree at first, without an open file. The headline
-- holds of it: its replies are those of that tree, the media hold what the record says, and the schedule justifies it, event by event. It is
-- the schedule's run, exactly; at each moment that it leads through the media hold what the record says then; and from turn to turn the
-- server's frames hold the tree, and each pending write has their bytes.
pub record RunShows (image : List ℕ) (setup : Setup) (supply : List DriverState) (events : List Event) (t : Transcript) : Type 0 where
  pub range : Range
  pub geometry : Geometry
  pub tree : Tree
  pub begun : IsBegun image setup supply range geometry tree
  pub headline : Headline setup.policy supply range image events t
  pub exact : IsExact geometry image setup supply events t
  pub throughout : (m : Moment) → Runs (area_of geometry setup.minor) (at_first exact.first) m
      → Runs (area_of geometry setup.minor) m exact.last → MediaHoldAt geometry range image m
  pub served : IsServed (area_of geometry setup.minor) geometry (volume_in range image) tree t.frames (at_first exact.first) exact.last
