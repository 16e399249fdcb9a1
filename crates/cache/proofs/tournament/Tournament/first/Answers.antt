use Rattle.std.proofs.Common.{ℕ, List, ap, ◌∙◌}
use Rattle.cache.specs.Winners.{winner}
use Rattle.cache.proofs.TournamentLaws.{root_least}
use Rattle.cache.proofs.tournament.Tournament.first.Goals as goal

pub returns : goal.returns
returns c =
    let s = c.args.self.now in
    root_least s.keys.items s.nodes.items c.winner.result s.tree c.requires
    (c.winner.ensures ∙ ap (λ (l : List ℕ). winner l 1) c.deref.ensures.value)
