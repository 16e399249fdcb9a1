use Rattle.layout.proofs.Parsed.{geometry_fits}
use Rattle.layout.proofs.geometry_fits.Goals as goal

pub returns : goal.returns
returns c = geometry_fits
