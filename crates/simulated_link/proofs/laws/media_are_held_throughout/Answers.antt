use Rattle.simulated_link.proofs.Holding.{media_throughout}
use Rattle.simulated_link.proofs.laws.media_are_held_throughout.Goals as goal

pub returns : goal.returns
returns c = media_throughout
