use Rattle.fuse_nodes.proofs.ChangeLaws.{NoneSpare}
use Rattle.fuse_nodes.proofs.nodes.Nodes.spare.Given as goal

-- where none of those that are left can be spared, none can
abbrev pub invariant-loop-id : goal.invariant-loop-id
invariant-loop-id l = NoneSpare l.but l.id-iterator → NoneSpare l.but l.fn.self.nodes.entries
