-- That a run is its schedule's, event by event.
use Rattle.std.specs.Prelude.{◌≡◌, ◌⊎◌, ℕ, List, [], ◌++◌, length, map, reverse, true, None}
use Rattle.std.specs.List.{concat}
use Rattle.media.specs.Contents.{MediaState, sectors_of}
use Rattle.layout.specs.declared.Geometry.{Geometry}
use Rattle.bdev.specs.DriverState.{DriverState}
use Rattle.reincarnate.specs.declared.policy.Setup.{Setup}
use Rattle.reincarnate.specs.Watch.{new_watch}
use Rattle.records.specs.Area.{area_of}
use Rattle.schedule.specs.declared.Event.{Event}
use Rattle.schedule.specs.Calls.{Arrival}
use Rattle.schedule.specs.Headline.{Transcript}
use Rattle.schedule.specs.Noted.{marks_in}
use Rattle.simulated_link.specs.StateView.{RunState, IsOpened, IsSpent}
use Rattle.simulated_link.specs.Waiting.{arrival_of}
use Rattle.simulated_link.specs.Moments.{Moment, Resting, Runs, Needs}
use Rattle.world.specs.Runs.{out_in}
use Rattle.world.specs.Starts.{at_first}
use Rattle.conformance.specs.Steady.{drivers_of}

-- the media that hold an image, on which no driver was started
abbrev pub media_with : List ℕ → MediaState
media_with image = record { sectors = sectors_of image; generation = 0 }

-- the calls without an answer, newest first: those that wait, and the one that is being answered
abbrev pub unanswered_in : Moment → List Arrival
unanswered_in m = reverse (map arrival_of m.run.queue) ++ out_in m.doing

-- How a run stands at its end: each event was run, and nothing is owed. The server rests and no call waits; or the link has ended within a
-- call, which needs a message, and the device isn't given up.
pub record IsOver (m : Moment) : Type 0 where
  pub spent : IsSpent m.run
  pub calm : m.outbox.complaint ≡ None
  pub ends : ((m.doing ≡ Resting) × (m.run.queue ≡ [])) ⊎ ((m.run.over ≡ true) × Needs m)

-- the transcript is read off this moment
pub record IsReadOff (m : Moment) (t : Transcript) : Type 0 where
  pub marks : t.marks ≡ marks_in m.run.scene.noted
  pub sent : t.sent ≡ m.run.scene.disks.sent
  pub drivers : t.drivers ≡ drivers_of m.run.scene.disks
  pub image : t.image ≡ concat m.run.scene.disks.media.sectors
  pub unanswered : t.unanswered ≡ length (unanswered_in m)

-- A run of these events, exactly. It began on the image's media with the first driver of the supply, the policy, and a server that owed its
-- link nothing. Each moment comes of the one before by one step: an event, in the schedule's order, does all that it does to the media, the
-- drivers, their lines and the reincarnation server; or the server does one thing that the rules let it do. The transcript is read off the
-- last moment.
pub record IsExact (g : Geometry) (image : List ℕ) (setup : Setup) (supply : List DriverState) (events : List Event) (t : Transcript) : Type 0 where
  pub first : RunState
  pub opened : IsOpened (media_with image) setup.policy (new_watch (length supply)) supply events first
  pub last : Moment
  pub steps : Runs (area_of g setup.minor) (at_first first) last
  pub over : IsOver last
  pub read_off : IsReadOff last t
