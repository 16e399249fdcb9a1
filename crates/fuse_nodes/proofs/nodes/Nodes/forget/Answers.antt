use Rattle.std.proofs.Common.{◌∙◌, ap}
use Rattle.fuse_nodes.specs.Known.{Known}
use Rattle.fuse_nodes.specs.Changes.{dropped}
use Rattle.fuse_nodes.proofs.nodes.Nodes.forget.Goals as goal

pub returns : goal.returns
returns c = c.drop_unused.ensures ∙ ap (λ (k : Known). dropped k c.args.id) c.uncount.ensures
