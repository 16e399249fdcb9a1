use Rattle.std.proofs.Common.{sym, ◌∙◌, refl, get_or, None}
use Rattle.lemmas.specs.Sums.{some_below}
use Rattle.tree.specs.Tree.{leads_to}
use Rattle.descriptors.proofs.Searches.{found_below, none_more}
use Rattle.descriptors.proofs.table.has_number.Goals as goal

pub loop-fd-init : goal.loop-fd-init
unfolding some_below
loop-fd-init c = refl

pub returns-then-leads_to : goal.returns-then-leads_to
returns-then-leads_to c = sym (found_below (λ fd. leads_to c.args.number (get_or c.args.session.now fd None)) _ c.loop-fd.fd c.loop-fd-test.true (sym c.leads_to.ensures ∙ c.if-leads_to.true))

pub loop-fd-preserved : goal.loop-fd-preserved
loop-fd-preserved c = none_more (λ fd. leads_to c.args.number (get_or c.args.session.now fd None)) c.loop-fd.fd c.loop-fd.invariant (sym c.leads_to.ensures ∙ c.if-leads_to.false)
