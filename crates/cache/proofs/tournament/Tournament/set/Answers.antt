use Rattle.std.proofs.Common.{ap, ◌∙◌}
use Rattle.cache.proofs.TournamentLaws.{tested_lowered, late_set, one_late}
use Rattle.cache.proofs.tournament.Tournament.set.Goals as goal

pub invariant_of-self-else-not-stays : goal.invariant_of-self-else-not-stays
invariant_of-self-else-not-stays c =
    let s = c.args.self.now in
    record {
      tree = tested_lowered s.keys.items s.nodes.items c.args.at c.args.key c.lowers_first-stays.result c.lowers_first-stays.ensures
          c.if-not-stays.false c.requires s.tree;
      counted = late_set s.keys.items c.args.at c.args.key _ s.late c.late.result c.late-2.result c.requires s.counted
          (c.late.ensures ∙ ap one_late c.index-old.ensures) c.late-2.ensures;
    }
