use Rattle.std.proofs.Common.{rules, ◌<◌, ◌≤◌, ◌∙◌, sym, ap, arith}
use Rattle.std.specs.Prelude.{not}
use Rattle.block_store.proofs.Turns.{turns_as, turns_none, turns_then}
use Rattle.block_store.proofs.Ending.{ends_exit}
use Rattle.calls_attributes.proofs.Effects.{volume_of, walk_refused, right_refused, is_number}
use Rattle.calls_attributes.proofs.Calls.{found_ok, found_err, chmod_mode_refused, chmod_is, chmod_done, other_user, with_mode}
use Rattle.calls_attributes.proofs.attributes.chmod.Goals as goal

pub returns-then-mode-gt-MAX_PERMISSIONS-clause-turns : goal.returns-then-mode-gt-MAX_PERMISSIONS-clause-turns
returns-then-mode-gt-MAX_PERMISSIONS-clause-turns g c =
    let a = c.args in
    let big : 511 < a.mode = search rules in
    turns_as _ _ _ _ _ (λ d e p f. chmod_mode_refused a.geometry.now a.user a.path a.now a.mode d e f p big)
    (turns_none _ g.met.B.Blocks.lawful _ c.requires.on.ready)

pub returns-in_err-number-clause-turns : goal.returns-in_err-number-clause-turns
returns-in_err-number-clause-turns g c =
    let a = c.args in
    turns_as _ _ _ _ _ (λ d e p f. ends_exit _ _ _ _ _ _ c.from_residual.ensures.1 (λ h. volume_of a.geometry.now d f h) p.1) c.in_err-number.ensures.reads.turns

pub returns-then-not-is_owner-clause-turns : goal.returns-then-not-is_owner-clause-turns
returns-then-not-is_owner-clause-turns g c =
    let a = c.args in
    let few : a.mode ≤ 511 = search rules in
    turns_as _ _ _ _ _
    (λ d e p f. chmod_is a.geometry.now a.user a.path a.now a.mode few _ f d e
    (right_refused a.geometry.now a.user a.path (other_user a.user) (with_mode a.now a.mode) d c.in-Ok.number c.in-Ok.inode
    (found_ok a.geometry.now d a.user a.path _ _ _ c.in-Ok.is p.1) e f p.0
    (λ node is. ap not (sym (c.is_owner.ensures node is) ∙ c.if-not-is_owner.true))))
    c.in_ok-number.ensures.reads.turns

pub returns-in_err-store-in-Ok-clause-turns : goal.returns-in_err-store-in-Ok-clause-turns
returns-in_err-store-in-Ok-clause-turns g c =
    let a = c.args in
    turns_then _ g.met.B.Blocks.lawful _ _ _ _ _ _
    (λ d e h p q f. ends_exit _ _ _ _ _ _ c.from_residual-in_err-store-in-Ok.ensures.1
    (λ t. is_number a.geometry.now a.user a.path (other_user a.user) (with_mode a.now a.mode) d c.in-Ok.number c.in-Ok.inode
    (found_ok a.geometry.now d a.user a.path _ _ _ c.in-Ok.is p.1) f t) q)
    c.in_ok-number.ensures.reads.turns c.in_err-store-in-Ok.ensures.turns

pub returns-in_ok-store-in-Ok-clause-turns : goal.returns-in_ok-store-in-Ok-clause-turns
returns-in_ok-store-in-Ok-clause-turns g c =
    let a = c.args in
    let few : a.mode ≤ 511 = search rules in
    turns_then _ g.met.B.Blocks.lawful _ _ _ _ _ _
    (λ d x e p q f. chmod_done a.geometry.now a.user a.path a.now a.mode d x e c.in-Ok.number c.in-Ok.inode f few
    (let k = c.ranges.now.fits in omega (arith, k)) c.requires.on.geometry
    (found_ok a.geometry.now d a.user a.path _ _ _ c.in-Ok.is p.1) p.0
    (λ node is. sym c.if-not-is_owner.false ∙ c.is_owner.ensures node is) q)
    c.in_ok-number.ensures.reads.turns c.in_ok-store-in-Ok.ensures.turns

pub returns-in-Err-clause-turns : goal.returns-in-Err-clause-turns
returns-in-Err-clause-turns g c =
    let a = c.args in
    let few : a.mode ≤ 511 = search rules in
    turns_as _ _ _ _ _
    (λ d e p f. chmod_is a.geometry.now a.user a.path a.now a.mode few _ f d e
    (walk_refused a.geometry.now a.user a.path (other_user a.user) (with_mode a.now a.mode) d e c.in-Err.errno f p.0
    (found_err a.geometry.now d a.user a.path _ _ c.in-Err.is p.1)))
    c.in_ok-number.ensures.reads.turns
