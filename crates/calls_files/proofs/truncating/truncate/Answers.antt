use Rattle.std.proofs.Common.{sym, ◌∙◌, arith}
use Rattle.block_store.proofs.Turns.{turns_as, turns_none, turns_then}
use Rattle.block_store.proofs.Ending.{ends_exit}
use Rattle.calls_attributes.proofs.Effects.{volume_of}
use Rattle.calls_attributes.proofs.Calls.{found_ok, found_err}
use Rattle.calls_files.proofs.TruncateCall.{truncate_big, truncate_unwalked, truncate_no_file, truncate_barred, truncate_done}
use Rattle.calls_files.proofs.TruncateCall.{may_change_found}
use Rattle.calls_files.proofs.truncating.truncate.Goals as goal

pub returns-then-size-gt-MAX_SIZE-clause-turns : goal.returns-then-size-gt-MAX_SIZE-clause-turns
returns-then-size-gt-MAX_SIZE-clause-turns g c =
    let a = c.args in
    turns_as _ _ _ _ _ (λ d e p f. truncate_big a.geometry.now a.user a.path a.now a.size d e f p c.if-size-gt-MAX_SIZE.true)
    (turns_none _ g.met.B.Blocks.lawful _ c.requires.on.ready)

pub returns-in_err-number-clause-turns : goal.returns-in_err-number-clause-turns
returns-in_err-number-clause-turns g c =
    let a = c.args in
    turns_as _ _ _ _ _ (λ d e p f. ends_exit _ _ _ _ _ _ c.from_residual.ensures.1 (λ h. volume_of a.geometry.now d f h) p.1) c.in_err-number.ensures.reads.turns

pub returns-then-is_no_file-clause-turns : goal.returns-then-is_no_file-clause-turns
returns-then-is_no_file-clause-turns g c =
    let a = c.args in
    turns_as _ _ _ _ _
    (λ d e p f. truncate_no_file a.geometry.now a.user a.path a.now a.size c.if-size-gt-MAX_SIZE.false d c.in-Ok.number c.in-Ok.inode
    (found_ok a.geometry.now d a.user a.path _ _ _ c.in-Ok.is p.1) e f p.0 (sym c.is_no_file.ensures ∙ c.if-is_no_file.true))
    c.in_ok-number.ensures.reads.turns

pub returns-then-not-may-clause-turns : goal.returns-then-not-may-clause-turns
returns-then-not-may-clause-turns g c =
    let a = c.args in
    turns_as _ _ _ _ _
    (λ d e p f. truncate_barred a.geometry.now a.user a.path a.now a.size c.if-size-gt-MAX_SIZE.false d c.in-Ok.number c.in-Ok.inode
    (found_ok a.geometry.now d a.user a.path _ _ _ c.in-Ok.is p.1) (sym c.is_no_file.ensures ∙ c.if-is_no_file.false) c.may.result
    c.may.ensures e f p.0 c.if-not-may.true)
    c.in_ok-number.ensures.reads.turns

pub returns-in_err-set_size_at-in-Ok-clause-turns : goal.returns-in_err-set_size_at-in-Ok-clause-turns
returns-in_err-set_size_at-in-Ok-clause-turns g c =
    let a = c.args in
    turns_then _ g.met.B.Blocks.lawful _ _ _ _ _ _
    (λ d e h p q f. ends_exit _ _ _ _ _ _ c.from_residual-in_err-set_size_at-in-Ok.ensures.1
    (λ t. may_change_found a.geometry.now a.user a.path a.now a.size c.if-size-gt-MAX_SIZE.false d c.in-Ok.number c.in-Ok.inode
    (found_ok a.geometry.now d a.user a.path _ _ _ c.in-Ok.is p.1) e f c.requires.on.geometry p.0 t) q)
    c.in_ok-number.ensures.reads.turns c.in_err-set_size_at-in-Ok.ensures.turns

pub returns-in_ok-set_size_at-in-Ok-clause-turns : goal.returns-in_ok-set_size_at-in-Ok-clause-turns
returns-in_ok-set_size_at-in-Ok-clause-turns g c =
    let a = c.args in
    turns_then _ g.met.B.Blocks.lawful _ _ _ _ _ _
    (λ d x e p q f. truncate_done a.geometry.now a.user a.path a.now a.size c.if-size-gt-MAX_SIZE.false d c.in-Ok.number c.in-Ok.inode
    (found_ok a.geometry.now d a.user a.path _ _ _ c.in-Ok.is p.1) (sym c.is_no_file.ensures ∙ c.if-is_no_file.false) c.may.result
    c.may.ensures x e f c.requires.on.geometry
    (let k = c.ranges.now.fits in omega (arith, k)) p.0 c.if-not-may.false q)
    c.in_ok-number.ensures.reads.turns c.in_ok-set_size_at-in-Ok.ensures.turns

pub returns-in-Err-clause-turns : goal.returns-in-Err-clause-turns
returns-in-Err-clause-turns g c =
    let a = c.args in
    turns_as _ _ _ _ _
    (λ d e p f. truncate_unwalked a.geometry.now a.user a.path a.now a.size c.if-size-gt-MAX_SIZE.false d e c.in-Err.errno f p.0
    (found_err a.geometry.now d a.user a.path _ _ c.in-Err.is p.1))
    c.in_ok-number.ensures.reads.turns
