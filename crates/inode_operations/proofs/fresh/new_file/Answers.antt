use Rattle.std.proofs.Common.{subst}
use Rattle.volume.specs.declared.Inode.{Inode}
use Rattle.volume.specs.Pieces.{pieces}
use Rattle.block_store.specs.Volume.{Alters}
use Rattle.block_store.proofs.Turns.{ends_as, turns_as}
use Rattle.inode_operations.specs.NewNodes.{with_new_inode}
use Rattle.inode_operations.proofs.Marking.{file_makes}
use Rattle.inode_operations.proofs.fresh.new_file.Goals as goal

pub returns-clause-turns : goal.returns-clause-turns
returns-clause-turns g c =
    let a = c.args in
    let v = a.geometry.now in
    turns_as _ _ _ _ _
    (λ d e p. ends_as _ _ _ _ _
    (λ x alters. file_makes v a.number a.now a.permissions a.user d e c.requires.on.geometry c.requires.permissions
    (subst (λ (i : Inode). Alters v (with_new_inode (pieces v d) a.number i) d e) c.new_inode-inode.ensures alters))
    (λ may. may.number) p)
    c.mark.ensures.turns
