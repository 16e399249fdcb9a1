use Rattle.zone.proofs.Keeps.{sound_is_sound_but}
use Rattle.zone.proofs.zone_laws.sound_is_sound_but.Goals as goal

pub returns : goal.returns
returns c = sound_is_sound_but
