use Rattle.cache.proofs.TournamentLaws.{on_some_late}
use Rattle.cache.proofs.tournament.Tournament.any_late.Goals as goal

pub returns-clause-some : goal.returns-clause-some
returns-clause-some c = let s = c.args.self.now in on_some_late s.late s.keys.items s.counted
