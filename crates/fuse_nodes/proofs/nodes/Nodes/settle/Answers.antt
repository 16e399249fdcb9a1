use Rattle.std.proofs.Common.{◌∙◌, ℕ, ap, sym, BTreeMap}
use Rattle.std.specs.BTreeMap.{get}
use Rattle.std.specs.Option.{option_map}
use Rattle.std.specs.Ordering.{nat_cmp}
use Rattle.fuse_nodes.specs.Known.{facts_of}
use Rattle.fuse_nodes.specs.declared.node.Node.{Node}
use Rattle.fuse_nodes.proofs.ChangeLaws.{settled_is}
use Rattle.fuse_nodes.proofs.nodes.Nodes.settle.Goals as goal

pub returns-then-is_stale : goal.returns-then-is_stale
returns-then-is_stale c = settled_is _ _ c.args.id (facts_of c.in-Some.node.now) (sym (ap (option_map facts_of) c.in-Some.ensures.value))
    (sym c.is_stale.ensures ∙ c.if-is_stale.true)
    (ap (λ (m : BTreeMap ℕ Node). λ (id : ℕ). option_map facts_of (get nat_cmp m id)) c.let_go.ensures.nodes)
    c.let_go.ensures.numbers c.let_go.ensures.next
