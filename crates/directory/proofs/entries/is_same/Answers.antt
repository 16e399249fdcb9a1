use Rattle.std.proofs.lemmas.Bool.Decides.{same_from_decides, Decides-eqb}
use Rattle.std.proofs.lemmas.Slice.Eq.{slice_eq-Decides}
use Rattle.directory.proofs.Names.{same_decides}
use Rattle.directory.proofs.entries.is_same.Goals as goal

pub returns : goal.returns
returns c = same_from_decides _ _ (slice_eq-Decides Decides-eqb _ _ _ c.eq.ensures) (same_decides c.args.name.now c.args.other.now)
