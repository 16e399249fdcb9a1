use Rattle.std.proofs.Common.{◌∙◌, sym, ap}
use Rattle.fsck.proofs.Firsts.{verdict_from, checked}
use Rattle.fsck.proofs.Trees.{clean_tree, found_none}
use Rattle.fsck.proofs.check.Goals as goal

pub returns-in-Some-clause-verdict : goal.returns-in-Some-clause-verdict
returns-in-Some-clause-verdict c =
    ap verdict_from (sym c.in-Some.is)
    ∙ checked c.in-Ok.volume c.args.image.now c.in_ok-finding.field-0 c.in-Ok.ensures.0 c.in-Ok.ensures.1 c.in_ok-finding.ensures

pub returns-in-None-clause-verdict : goal.returns-in-None-clause-verdict
returns-in-None-clause-verdict c =
    ap verdict_from (sym c.in-None.is)
    ∙ checked c.in-Ok.volume c.args.image.now c.in_ok-finding.field-0 c.in-Ok.ensures.0 c.in-Ok.ensures.1 c.in_ok-finding.ensures

pub returns-in-Some-clause-tree : goal.returns-in-Some-clause-tree
returns-in-Some-clause-tree c = found_none c.args.image.now c.type_inv.image c.in-Some.finding (returns-in-Some-clause-verdict c)

pub returns-in-None-clause-tree : goal.returns-in-None-clause-tree
returns-in-None-clause-tree c = clean_tree c.args.image.now c.type_inv.image (returns-in-None-clause-verdict c)
