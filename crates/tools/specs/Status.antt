-- How a play ends, as a number.
use Rattle.std.specs.Prelude.{ℕ, Bool, true, false}
use Rattle.tools.specs.declared.play.PlayStatus.{PlayStatus}
use Rattle.tools.specs.declared.play.PlayStatus.TheVariants.{Done, Refused, GivenUp, NotAsRead}
use Rattle.output.specs.declared.Told.{Told}
use Rattle.volume_commands.specs.declared.handing.Handing.{Handing}
use Rattle.volume_commands.specs.declared.handing.Handing.TheVariants.{Put, Beside}
use Rattle.shared_server.specs.declared.locked.LastSync.{LastSync}
use Rattle.shared_server.specs.declared.locked.LastSync.TheVariants as last

-- the status of the process
abbrev pub status_number : PlayStatus → ℕ
status_number Done = 0
status_number (Refused told) = 1
status_number GivenUp = 3
status_number NotAsRead = 1

-- how a play ends whose text all went out, by whether its image is as it was read back, and whether the device was given up
abbrev pub status_when : Bool → Bool → PlayStatus
status_when false gave = NotAsRead
status_when true true = GivenUp
status_when true false = Done

-- whether all went out
abbrev pub IsWhole : PlayStatus → Type 0
IsWhole (Refused told) = ⊥
IsWhole _ = Unit {0}

-- whether a last sync says that the device was given up
abbrev pub is_given_up : LastSync → Bool
is_given_up last.GivenUp = true
is_given_up _ = false

-- how a play ends that had ended so, once this came of its image and was told so
abbrev pub status_after : PlayStatus → Handing → Told → PlayStatus
status_after status Put told = status
status_after Done (Beside why) told = Refused told
status_after NotAsRead (Beside why) told = Refused told
status_after status (Beside why) told = status
status_after status _ told = Refused told
