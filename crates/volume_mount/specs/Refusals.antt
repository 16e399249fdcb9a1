-- The numbers and the texts of the refusals to mount a volume.
use Rattle.std.specs.Prelude.{ℕ, List, ◌++◌, codes}
use Rattle.layout.specs.Places.{refusal_name}
use Rattle.volume.specs.Text.{finding_text}
use Rattle.volume_mount.specs.declared.whole.MountRefusal.{MountRefusal}
use Rattle.volume_mount.specs.declared.whole.MountRefusal.TheVariants.{Layout, Inconsistent, OutOfMemory, Eio, LinkEnded, BadFrames}

-- their numbers
abbrev pub mount_refusal_number : MountRefusal → ℕ
mount_refusal_number (Layout refusal) = 1
mount_refusal_number (Inconsistent finding) = 2
mount_refusal_number OutOfMemory = 3
mount_refusal_number Eio = 4
mount_refusal_number LinkEnded = 5
mount_refusal_number BadFrames = 6

-- the text of a refusal: its name, and what it carries
abbrev pub mount_refusal_text : MountRefusal → List ℕ
mount_refusal_text (Layout refusal) = codes "Layout " ++ refusal_name refusal
mount_refusal_text (Inconsistent finding) = codes "Inconsistent " ++ finding_text finding
mount_refusal_text OutOfMemory = codes "OutOfMemory"
mount_refusal_text Eio = codes "Eio"
mount_refusal_text LinkEnded = codes "LinkEnded"
mount_refusal_text BadFrames = codes "BadFrames"
