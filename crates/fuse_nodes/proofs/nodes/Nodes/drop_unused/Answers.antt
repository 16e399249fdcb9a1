use Rattle.std.proofs.Common.{◌∙◌, ℕ, ap, sym, None, BTreeMap}
use Rattle.std.specs.BTreeMap.{get}
use Rattle.std.specs.Option.{option_map}
use Rattle.std.specs.Ordering.{nat_cmp}
use Rattle.fuse_nodes.specs.Tables.{put}
use Rattle.fuse_nodes.specs.Known.{facts_of}
use Rattle.fuse_nodes.specs.declared.node.Node.{Node}
use Rattle.fuse_nodes.proofs.TableLaws.{seen_put}
use Rattle.fuse_nodes.proofs.ChangeLaws.{dropped_is}
use Rattle.fuse_nodes.proofs.nodes.Nodes.drop_unused.Goals as goal

pub returns : goal.returns
returns c = dropped_is _ _ c.args.id (facts_of c.in-Some.node.now) (sym (ap (option_map facts_of) c.in-Some.ensures.value))
    c.if-id-eq-ROOT.false (sym c.is_used.ensures ∙ c.if-is_used.false)
    (seen_put facts_of c.let_go.new.self.nodes c.remove.new.self c.args.id None c.remove.ensures.updates.0
    ∙ ap (λ (m : BTreeMap ℕ Node). put (λ (other : ℕ). option_map facts_of (get nat_cmp m other)) c.args.id None) c.let_go.ensures.nodes)
    c.let_go.ensures.numbers c.let_go.ensures.next
