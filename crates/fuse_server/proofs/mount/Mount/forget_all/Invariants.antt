use Rattle.fuse_nodes.specs.Known.{known_of}
use Rattle.fuse_nodes.specs.Laws.{Steps}
use Rattle.fuse_server.proofs.mount.Mount.forget_all.Given as goal

abbrev pub invariant-nodes : goal.invariant-nodes
invariant-nodes l = Steps (known_of l.initial.self.nodes) (known_of l.self.nodes)
