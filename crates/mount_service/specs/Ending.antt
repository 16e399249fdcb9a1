-- How a mount ends, by what becomes of its image.
use Rattle.output.specs.declared.Told.{Told}
use Rattle.volume_commands.specs.declared.handing.Handing.{Handing}
use Rattle.volume_commands.specs.declared.handing.Handing.TheVariants.{Put, Beside}
use Rattle.mount_service.specs.declared.mount.MountStatus.{MountStatus}
use Rattle.mount_service.specs.declared.mount.MountStatus.TheVariants.{Done, Refused, NotAsRead}

-- how a mount ends that had ended so, once this came of its image and was told so
abbrev pub status_after : MountStatus → Handing → Told → MountStatus
status_after status Put told = status
status_after Done (Beside why) told = Refused told
status_after NotAsRead (Beside why) told = Refused told
status_after status (Beside why) told = status
status_after status _ told = Refused told
