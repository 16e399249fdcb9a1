use Rattle.std.proofs.Common.{◌-◌, ◌+◌}
use Rattle.cache.proofs.TournamentLaws.{IsMade}
use Rattle.cache.proofs.tournament.Tournament.new.Given as goal

abbrev pub invariant-loop-past : goal.invariant-loop-past
invariant-loop-past l = IsMade l.nodes.items l.count (l.count + 1 - l.past)
