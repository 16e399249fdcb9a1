use Rattle.calls_rename.proofs.Fitting.{fits_dropped, fits_over, fits_within}
use Rattle.calls_rename.proofs.laws.moves_that_fit.Goals as goal

pub returns-clause-within : goal.returns-clause-within
returns-clause-within c = fits_within

pub returns-clause-over : goal.returns-clause-over
returns-clause-over c = fits_over

pub returns-clause-dropped : goal.returns-clause-dropped
returns-clause-dropped c = fits_dropped
