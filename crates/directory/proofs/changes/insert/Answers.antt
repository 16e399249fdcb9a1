use Rattle.std.proofs.Common.{sym, subst}
use Rattle.volume.specs.Pieces.{pieces}
use Rattle.block_store.proofs.Turns.{turns_then, ends_as}
use Rattle.block_store.proofs.Ending.{ends_exit, turns_three}
use Rattle.file.specs.Changing.{MayWriteAt, WritesAt}
use Rattle.file.proofs.Becoming.{may_change_after}
use Rattle.directory.proofs.Becoming.{inserted, may_insert, may_change}
use Rattle.directory.proofs.changes.insert.Goals as goal

pub returns-in_err-write_at-clause-turns : goal.returns-in_err-write_at-clause-turns
returns-in_err-write_at-clause-turns g c =
    let v = c.args.geometry.now in
    let i = c.in_ok-inode.inode in
    let bytes = c.entry_bytes.result in
    turns_then _ g.met.B.Blocks.lawful _ _ _ _ _ _
    (λ d e f p q. ends_exit _ _ _ _ _ _ c.from_residual-in_err-write_at.ensures.1
    (λ t. subst (λ x. MayWriteAt v (pieces v x) c.args.directory i.size bytes) (sym p.0)
    (may_insert v (pieces v d) c.args.directory c.args.name.now c.args.number bytes i p.1 c.entry_bytes.ensures.many t)) q)
    c.in_ok-inode.ensures.reads.turns c.in_err-write_at.ensures.turns

pub returns-clause-turns : goal.returns-clause-turns
returns-clause-turns g c =
    let v = c.args.geometry.now in
    let i = c.in_ok-inode.inode in
    let bytes = c.entry_bytes.result in
    let n = c.args.directory in
    turns_three _ g.met.B.Blocks.lawful _ _ _ _ _ _ _ _
    (λ d e f h p q r.
    let writes = subst (λ x. WritesAt v n i.size bytes x f) p.0 q in
    ends_as _ _ _ _ _ (λ x stamps. inserted v n c.args.name.now c.args.number c.args.now bytes i d f h p.1 c.entry_bytes.ensures writes stamps)
    (λ t. may_change_after v (pieces v d) (pieces v f) n _ _ (may_change v (pieces v d) n t.of)
    (writes.becomes (may_insert v (pieces v d) n c.args.name.now c.args.number bytes i p.1 c.entry_bytes.ensures.many t))) r)
    c.in_ok-inode.ensures.reads.turns c.in_ok-write_at.ensures.turns c.stamp.ensures.turns
