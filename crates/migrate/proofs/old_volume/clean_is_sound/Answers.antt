use Rattle.migrate.proofs.SoundDirectories.{clean_is_sound}
use Rattle.migrate.proofs.old_volume.clean_is_sound.Goals as goal

pub returns : goal.returns
returns c = clean_is_sound
