use Rattle.zone.proofs.Keeps.{sound_but_is_sound}
use Rattle.zone.proofs.zone_laws.sound_but_is_sound.Goals as goal

pub returns : goal.returns
returns c = sound_but_is_sound
