use Rattle.std.proofs.Common.{refl}
use Rattle.block_store.proofs.Turns.{turns_then}
use Rattle.block_store.proofs.Ending.{ends_exit, turns_three}
use Rattle.calls_files.proofs.Stamped.{may_write, may_stamp, written}
use Rattle.calls_files.proofs.dated.write_if_room.Goals as goal

pub returns-in_err-write_at-clause-turns : goal.returns-in_err-write_at-clause-turns
returns-in_err-write_at-clause-turns g c =
    let a = c.args in
    turns_then _ g.met.B.Blocks.lawful _ _ _ _ _ _
    (λ d m e p q. ends_exit _ _ _ _ _ _ c.from_residual-in_err-write_at.ensures.1
    (λ may. may_write a.geometry.now d m a.number a.at a.bytes.now a.now _ c.in_ok-has_room.field-0 p.0 refl p.1 c.if-not-branch.false may) q)
    c.in_ok-has_room.ensures.reads.turns c.in_err-write_at.ensures.turns

pub returns-in_err-stamp-clause-turns : goal.returns-in_err-stamp-clause-turns
returns-in_err-stamp-clause-turns g c =
    let a = c.args in
    turns_three _ g.met.B.Blocks.lawful _ _ _ _ _ _ _ _
    (λ d m e f p q r. ends_exit _ _ _ _ _ _ c.from_residual-in_err-stamp.ensures.1
    (λ may. may_stamp a.geometry.now d m a.number a.at a.bytes.now a.now _ c.in_ok-has_room.field-0 p.0 refl p.1 c.if-not-branch.false e q may) r)
    c.in_ok-has_room.ensures.reads.turns c.in_ok-write_at.ensures.turns c.in_err-stamp.ensures.turns

pub returns-clause-turns : goal.returns-clause-turns
returns-clause-turns g c =
    let a = c.args in
    turns_three _ g.met.B.Blocks.lawful _ _ _ _ _ _ _ _
    (λ d m e f p q r. written a.geometry.now d m a.number a.at a.bytes.now a.now _ c.in_ok-has_room.field-0 p.0 refl p.1 c.if-not-branch.false e q f r)
    c.in_ok-has_room.ensures.reads.turns c.in_ok-write_at.ensures.turns c.in_ok-stamp.ensures.turns
