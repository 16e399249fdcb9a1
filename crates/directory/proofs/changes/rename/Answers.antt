use Rattle.std.proofs.Common.{sym, subst, ◌*◌, ◌+◌}
use Rattle.volume.specs.Pieces.{pieces}
use Rattle.block_store.proofs.Turns.{turns_as, turns_then, ends_as}
use Rattle.block_store.proofs.Ending.{ends_exit, turns_three}
use Rattle.file.specs.Changing.{MayWriteAt, WritesAt}
use Rattle.file.proofs.Becoming.{may_change_after}
use Rattle.directory.proofs.Becoming.{may_change}
use Rattle.directory.proofs.Renaming.{name_written, may_write_name}
use Rattle.directory.proofs.changes.rename.Goals as goal

pub returns-in_err-place-clause-turns : goal.returns-in_err-place-clause-turns
returns-in_err-place-clause-turns g c =
    turns_as _ _ _ _ _ (λ d e p. ends_exit _ _ _ _ _ _ c.from_residual.ensures.1 (λ t. t.1.has) p.1) c.in_err-place.ensures.reads.turns

pub returns-in_err-write_at-clause-turns : goal.returns-in_err-write_at-clause-turns
returns-in_err-write_at-clause-turns g c =
    let v = c.args.geometry.now in
    let n = c.args.directory in
    let place = c.in_ok-place.place in
    let bytes = c.name_bytes.result in
    turns_then _ g.met.B.Blocks.lawful _ _ _ _ _ _
    (λ d e f p q. ends_exit _ _ _ _ _ _ c.from_residual-in_err-write_at.ensures.1
    (λ t. subst (λ x. MayWriteAt v (pieces v x) n (64 * place + 4) bytes) (sym p.0)
    (may_write_name v (pieces v d) n place c.args.old.now bytes c.name_bytes.ensures.many p.1 t.1.has.of)) q)
    c.in_ok-place.ensures.reads.turns c.in_err-write_at.ensures.turns

pub returns-clause-turns : goal.returns-clause-turns
returns-clause-turns g c =
    let v = c.args.geometry.now in
    let n = c.args.directory in
    let place = c.in_ok-place.place in
    let bytes = c.name_bytes.result in
    turns_three _ g.met.B.Blocks.lawful _ _ _ _ _ _ _ _
    (λ d e f h p q r.
    let writes = subst (λ x. WritesAt v n (64 * place + 4) bytes x f) p.0 q in
    ends_as _ _ _ _ _ (λ x stamps. name_written v n place c.args.old.now c.args.new.now c.args.now bytes d f h c.name_bytes.ensures p.1 writes stamps)
    (λ t. may_change_after v (pieces v d) (pieces v f) n _ _ (may_change v (pieces v d) n t.1.has.of)
    (writes.becomes (may_write_name v (pieces v d) n place c.args.old.now bytes c.name_bytes.ensures.many p.1 t.1.has.of))) r)
    c.in_ok-place.ensures.reads.turns c.in_ok-write_at.ensures.turns c.stamp.ensures.turns
