use Rattle.std.proofs.Common.{subst}
use Rattle.volume.specs.declared.Inode.{Inode}
use Rattle.volume.specs.Pieces.{pieces}
use Rattle.block_store.specs.Volume.{Alters}
use Rattle.block_store.proofs.Turns.{ends_as, on_after, turns_as, turns_then}
use Rattle.block_store.proofs.Ending.{ends_exit}
use Rattle.inode_operations.specs.NewNodes.{with_new_inode}
use Rattle.inode_operations.proofs.NewRows.{directory_makes, may_begin}
use Rattle.inode_operations.proofs.fresh.new_directory.Goals as goal

pub write_at-requires-clause-on : goal.write_at-requires-clause-on
write_at-requires-clause-on g c = on_after _ g.met.B.Blocks.lawful _ _ _ _ c.requires.on c.in_ok-mark.ensures.turns

pub returns-in_err-mark-clause-turns : goal.returns-in_err-mark-clause-turns
returns-in_err-mark-clause-turns g c =
    turns_as _ _ _ _ _ (λ d e p. ends_exit _ _ _ _ _ _ c.from_residual.ensures.1 (λ may. may.make.number) p) c.in_err-mark.ensures.turns

pub returns-clause-turns : goal.returns-clause-turns
returns-clause-turns g c =
    let a = c.args in
    let v = a.geometry.now in
    turns_then _ g.met.B.Blocks.lawful _ _ _ _ _ _
    (λ d e f p q.
    let alters = subst (λ (i : Inode). Alters v (with_new_inode (pieces v d) a.number i) d e) c.new_inode-inode.ensures p in
    let first = c.first_entries.ensures in
    ends_as _ _ _ _ _
    (λ x writes. directory_makes v c.requires.on.geometry a.number a.parent a.now a.permissions a.user c.first_entries.result c.requires.permissions d e first alters f writes)
    (λ may. may_begin v c.requires.on.geometry a.number a.parent a.now a.permissions a.user c.first_entries.result c.requires.permissions d e first alters may) q)
    c.in_ok-mark.ensures.turns c.write_at.ensures.turns
