use Rattle.std.proofs.Common.{sym, subst}
use Rattle.fuse_nodes.specs.Known.{Known, known_of}
use Rattle.fuse_nodes.specs.Laws.{IsLost}
use Rattle.fuse_nodes.proofs.Losing.{lost_is_lost}
use Rattle.fuse_server.proofs.Steps.{step_lost}
use Rattle.fuse_server.proofs.mount.Mount.lose.Goals as goal

pub returns-then-is_last-clause-lost : goal.returns-then-is_last-clause-lost
returns-then-is_last-clause-lost c = λ last.
    let P : Known → Type 0 = λ k. IsLost k c.args.was.now.inode in
    subst P (sym c.lost.ensures) (lost_is_lost (known_of c.args.self.now.nodes) c.args.was.now.inode)

pub returns-then-is_last-clause-steps : goal.returns-then-is_last-clause-steps
returns-then-is_last-clause-steps c = step_lost _ c.lost.ensures
