use Rattle.std.specs.Prelude.{Some}
use Rattle.lecternowl.proofs.keeping.do_on.Given as goal

-- what the archive begins as
abbrev pub ghosts-do_and_keep : goal.ghosts-do_and_keep
ghosts-do_and_keep g a = record { first = Some a.archive }
