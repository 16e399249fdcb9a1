use Rattle.std.specs.Prelude.{Some}
use Rattle.mount_service.proofs.program.answer_on.Given as goal

-- what the archive begins as
abbrev pub ghosts-answer_and_keep : goal.ghosts-answer_and_keep
ghosts-answer_and_keep g a = record { first = Some a.archive }
