use Rattle.std.proofs.Common.{◌∙◌, ap}
use Rattle.fuse_nodes.specs.Known.{Known}
use Rattle.fuse_nodes.specs.Changes.{dropped, settled}
use Rattle.fuse_nodes.proofs.nodes.Nodes.closed.Goals as goal

pub returns-clause-known : goal.returns-clause-known
returns-clause-known c = c.drop_unused.ensures ∙ ap (λ (k : Known). dropped k c.args.id) c.settle.ensures
    ∙ ap (λ (k : Known). dropped (settled k c.args.id) c.args.id) c.close_one-descriptor.ensures.known
