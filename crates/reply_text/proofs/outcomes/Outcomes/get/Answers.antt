use Rattle.std.proofs.Common.{◌<◌, ◌∙◌, ap, length, map, get_or, None, arith}
use Rattle.std.proofs.lemmas.List.{length-map}
use Rattle.reply_text.specs.OutcomeList.{OutcomeList}
use Rattle.reply_text.specs.Kept.{outcome_of}
use Rattle.reply_text.specs.Told.{told_of}
use Rattle.reply_text.proofs.Kept.{told_at}
use Rattle.reply_text.proofs.outcomes.Outcomes.get.Goals as goal

pub returns : goal.returns
returns c =
    let kept = c.self.inside.kept.items in
    let targets = c.self.inside.targets.items in
    let same = ap (λ (l : OutcomeList). length l.items) c.self.view_is in
    let inside : c.args.at < length kept = omega (arith, same, length-map kept (outcome_of targets)) in
    rw c.as_slice.ensures.value at c.shown.ensures ∙ told_at targets kept c.args.at c.index.result.now inside c.index.ensures
    ∙ ap (λ (l : OutcomeList). get_or (map told_of l.items) c.args.at None) c.self.view_is
