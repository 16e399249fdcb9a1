use Rattle.std.proofs.Common.{◌∙◌, ap}
use Rattle.std.specs.List.{list_any}
use Rattle.reply_text.specs.OutcomeList.{OutcomeList}
use Rattle.reply_text.specs.Kept.{is_kept_refused}
use Rattle.reply_text.specs.Told.{is_refused}
use Rattle.reply_text.proofs.Kept.{some_refused}
use Rattle.reply_text.proofs.outcomes.Outcomes.has_errno.Goals as goal

pub returns : goal.returns
returns c =
    let errno = c.args.errno in
    c.some_refused.ensures ∙ ap (list_any (is_kept_refused errno)) c.as_slice.ensures.value
    ∙ some_refused c.self.inside.targets.items errno c.self.inside.kept.items
    ∙ ap (λ (l : OutcomeList). list_any (is_refused errno) l.items) c.self.view_is
