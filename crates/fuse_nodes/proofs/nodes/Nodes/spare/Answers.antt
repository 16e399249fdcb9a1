use Rattle.std.proofs.Common.{◌∙◌, sym, subst}
use Rattle.std.proofs.lemmas.Map.Iter.{btree_map_turn}
use Rattle.std.specs.Map.Iter.{deref_pair}
use Rattle.std.specs.Cmp.{nat_cmp_total}
use Rattle.fuse_nodes.proofs.ChangeLaws.{NoneSpare, spared_is, none_found}
use Rattle.fuse_nodes.proofs.nodes.Nodes.spare.Goals as goal

pub loop-id-init : goal.loop-id-init
loop-id-init c = subst (NoneSpare c.args.but) (c.into_iter-id-iterator.ensures.into_iter_gives ∙ c.iter-id-items.ensures.rest)

pub loop-id-preserved : goal.loop-id-preserved
loop-id-preserved c none = c.loop-id.invariant
    (subst (NoneSpare c.args.but) (sym c.in-Some.ensures.steps) (sym c.spared.ensures ∙ c.in_default.is, none))

pub returns-in-Some-spared : goal.returns-in-Some-spared
returns-in-Some-spared c = spared_is c.args.self.now.nodes c.args.but c.in-Some.id.now c.in-Some.node.now _
    (btree_map_turn deref_pair c.loop-id.yielded c.into_iter-id-iterator.result c.loop-id.id-iterator c.next.new.self c.next.result
    (c.in-Some.id, c.in-Some.node) c.loop-id.yielded_by c.in-Some.is c.next.ensures.steps nat_cmp_total c.args.self.now.nodes
    (c.into_iter-id-iterator.ensures.into_iter_gives ∙ c.iter-id-items.ensures.rest) c.iter-id-items.ensures.ordered).1
    c.in-Some-spared.ensures

pub returns : goal.returns
returns c id = none_found c.args.but id c.args.self.now.nodes.entries
    (c.loop-id.invariant (subst (NoneSpare c.args.but) (sym c.in-None.ensures.steps.0) tt))
