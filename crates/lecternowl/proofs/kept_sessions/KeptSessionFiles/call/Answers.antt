use Rattle.lecternowl.proofs.kept_sessions.KeptSessionFiles.call.Goals as goal

-- where changes are kept it is told as the archive's sessions tell it
pub returns : goal.returns
returns g c = record { came = c.call.ensures.came; called = c.call.ensures.called; is_told = c.call.ensures.is_told }
