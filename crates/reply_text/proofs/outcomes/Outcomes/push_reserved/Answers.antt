use Rattle.std.proofs.Common.{◌∷◌, [], ◌++◌, ◌∙◌, ap}
use Rattle.reply_text.specs.OutcomeList.{OutcomeList}
use Rattle.reply_text.specs.Kept.{targets_of}
use Rattle.reply_text.proofs.Kept.{one_more}
use Rattle.reply_text.proofs.outcomes.Outcomes.push_reserved.Goals as goal

pub returns-clause-items : goal.returns-clause-items
returns-clause-items c =
    rw c.push_reserved.ensures.items (
    one_more c.self.inside.targets.items (targets_of c.args.outcome) c.keep-kept.new.targets.items c.self.inside.kept.items _ c.args.outcome
    c.self.invariant.within c.keep-kept.ensures.targets c.keep-kept.ensures.kept
    ∙ ap (λ (l : OutcomeList). l.items ++ c.args.outcome ∷ []) c.self.view_is
    )
