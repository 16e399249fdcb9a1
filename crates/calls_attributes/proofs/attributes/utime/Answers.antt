use Rattle.std.proofs.Common.{◌∙◌, sym, ap, arith}
use Rattle.std.specs.Prelude.{not}
use Rattle.block_store.proofs.Turns.{turns_as, turns_then}
use Rattle.block_store.proofs.Ending.{ends_exit}
use Rattle.calls_attributes.proofs.Effects.{walk_refused, right_refused, is_number}
use Rattle.calls_attributes.proofs.Calls.{found_ok, found_err, utime_done, other_user, with_times}
use Rattle.calls_attributes.proofs.attributes.utime.Goals as goal

pub returns-then-not-is_owner-clause-turns : goal.returns-then-not-is_owner-clause-turns
returns-then-not-is_owner-clause-turns g c =
    let a = c.args in
    turns_as _ _ _ _ _
    (λ d e p f. right_refused a.geometry.now a.user a.path (other_user a.user) (with_times a.now a.atime a.mtime) d c.in-Ok.number
    c.in-Ok.inode
    (found_ok a.geometry.now d a.user a.path _ _ _ c.in-Ok.is p.1) e f p.0
    (λ node is. ap not (sym (c.is_owner.ensures node is) ∙ c.if-not-is_owner.true)))
    c.in_ok-number.ensures.reads.turns

pub returns-in_err-store-in-Ok-clause-turns : goal.returns-in_err-store-in-Ok-clause-turns
returns-in_err-store-in-Ok-clause-turns g c =
    let a = c.args in
    turns_then _ g.met.B.Blocks.lawful _ _ _ _ _ _
    (λ d e h p q f. ends_exit _ _ _ _ _ _ c.from_residual-in_err-store-in-Ok.ensures.1
    (λ t. is_number a.geometry.now a.user a.path (other_user a.user) (with_times a.now a.atime a.mtime) d c.in-Ok.number c.in-Ok.inode
    (found_ok a.geometry.now d a.user a.path _ _ _ c.in-Ok.is p.1) f t) q)
    c.in_ok-number.ensures.reads.turns c.in_err-store-in-Ok.ensures.turns

pub returns-in_ok-store-in-Ok-clause-turns : goal.returns-in_ok-store-in-Ok-clause-turns
returns-in_ok-store-in-Ok-clause-turns g c =
    let a = c.args in
    turns_then _ g.met.B.Blocks.lawful _ _ _ _ _ _
    (λ d x e p q f. utime_done a.geometry.now a.user a.path a.now a.atime a.mtime d x e c.in-Ok.number c.in-Ok.inode f
    (let k = c.ranges.now.fits in omega (arith, k)) (let k = c.ranges.atime.fits in omega (arith, k))
    (let k = c.ranges.mtime.fits in omega (arith, k)) c.requires.on.geometry
    (found_ok a.geometry.now d a.user a.path _ _ _ c.in-Ok.is p.1) p.0
    (λ node is. sym c.if-not-is_owner.false ∙ c.is_owner.ensures node is) q)
    c.in_ok-number.ensures.reads.turns c.in_ok-store-in-Ok.ensures.turns

pub returns-in-Err-clause-turns : goal.returns-in-Err-clause-turns
returns-in-Err-clause-turns g c =
    let a = c.args in
    turns_as _ _ _ _ _
    (λ d e p f. walk_refused a.geometry.now a.user a.path (other_user a.user) (with_times a.now a.atime a.mtime) d e c.in-Err.errno f p.0
    (found_err a.geometry.now d a.user a.path _ _ c.in-Err.is p.1))
    c.in_ok-number.ensures.reads.turns
