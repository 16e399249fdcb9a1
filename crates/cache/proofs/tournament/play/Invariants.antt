use Rattle.cache.proofs.TournamentLaws.{IsPlaying}
use Rattle.cache.proofs.tournament.play.Given as goal

abbrev pub invariant-up : goal.invariant-up
invariant-up l = IsPlaying l.at l.node l.keys l.nodes

abbrev pub decreases-up : goal.decreases-up
decreases-up l = l.node
