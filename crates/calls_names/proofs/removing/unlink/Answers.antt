use Rattle.std.proofs.Common.{◌≡◌, ◌<◌, ◌^◌, ◌∙◌, true, false, sym, subst, arith}
use Rattle.volume.specs.Nodes.{is_directory_mode}
use Rattle.descriptors.specs.Table.{files_of}
use Rattle.block_store.proofs.Turns.{turns_as, turns_then}
use Rattle.block_store.proofs.Ending.{ends_exit, turns_three}
use Rattle.calls_names.specs.Names.{FindsName}
use Rattle.calls_names.proofs.Standing.{may_remove_of, volume_of}
use Rattle.calls_names.proofs.Unlinking.{may_lose, unlink_of_directory, unlink_refused, unlinked}
use Rattle.calls_names.proofs.removing.unlink.Goals as goal

pub returns-in_err-named-clause-turns : goal.returns-in_err-named-clause-turns
returns-in_err-named-clause-turns g c =
    let a = c.args in
    turns_as _ _ _ _ _ (λ d e p. ends_exit _ _ _ _ _ _ c.from_residual.ensures.1 (λ h. volume_of a.geometry.now d (files_of a.opens.now) h) p.1) c.in_err-named.ensures.reads.turns

pub returns-then-is_directory-clause-turns : goal.returns-then-is_directory-clause-turns
returns-then-is_directory-clause-turns g c =
    let a = c.args in
    let x = c.in-Ok.named in
    turns_as _ _ _ _ _
    (λ d e p. unlink_of_directory a.geometry.now a.user a.path a.now (files_of a.opens.now) d c.requires.on.geometry x (subst (λ r. FindsName a.geometry.now d a.user a.path r) c.in-Ok.is p.1) e p.0
    (sym c.is_directory.ensures ∙ c.if-is_directory.true))
    c.in_ok-named.ensures.reads.turns

pub remove-requires-clause-named : goal.remove-requires-clause-named
remove-requires-clause-named g c = subst (λ r. Rattle.std.specs.Prelude.IfOk r (λ (y : Rattle.calls_names.specs.declared.named.Named.Named). 0 < Rattle.std.proofs.Common.length y.name.now)) c.in-Ok.is c.in_ok-named.ensures.named

pub returns-in_err-remove-in-Ok-clause-turns : goal.returns-in_err-remove-in-Ok-clause-turns
returns-in_err-remove-in-Ok-clause-turns g c =
    let a = c.args in
    let x = c.in-Ok.named in
    let f = files_of a.opens.now in
    turns_then _ g.met.B.Blocks.lawful _ _ _ _ _ _
    (λ d m e p q. ends_exit _ _ _ _ _ _ c.from_residual-in_err-remove-in-Ok.ensures.1
    (λ h. may_remove_of a.geometry.now c.requires.on.geometry a.user a.path a.now d x (subst (λ r. FindsName a.geometry.now d a.user a.path r) c.in-Ok.is p.1) f m p.0 h) q)
    c.in_ok-named.ensures.reads.turns c.in_err-remove-in-Ok.ensures.turns

pub returns-in_err-lose_name-in-Ok-clause-turns : goal.returns-in_err-lose_name-in-Ok-clause-turns
returns-in_err-lose_name-in-Ok-clause-turns g c =
    let a = c.args in
    let x = c.in-Ok.named in
    let f = files_of a.opens.now in
    let file : is_directory_mode x.inode.mode ≡ false = sym c.is_directory.ensures ∙ c.if-is_directory.false in
    turns_three _ g.met.B.Blocks.lawful _ _ _ _ _ _ _ _
    (λ d m0 m e p q r. ends_exit _ _ _ _ _ _ c.from_residual-in_err-lose_name-in-Ok.ensures.1
    (λ h. may_lose a.geometry.now a.user a.path a.now f d c.requires.on.geometry x (subst (λ r. FindsName a.geometry.now d a.user a.path r) c.in-Ok.is p.1) file m0 m p.0 q h) r)
    c.in_ok-named.ensures.reads.turns c.in_ok-remove-in-Ok.ensures.turns c.in_err-lose_name-in-Ok.ensures.turns

pub returns-in_ok-lose_name-in-Ok-clause-turns : goal.returns-in_ok-lose_name-in-Ok-clause-turns
returns-in_ok-lose_name-in-Ok-clause-turns g c =
    let a = c.args in
    let x = c.in-Ok.named in
    let f = files_of a.opens.now in
    let small : a.now < 2 ^ 32 = let k = c.ranges.now.fits in omega (arith, k) in
    let file : is_directory_mode x.inode.mode ≡ false = sym c.is_directory.ensures ∙ c.if-is_directory.false in
    turns_three _ g.met.B.Blocks.lawful _ _ _ _ _ _ _ _
    (λ d m0 m e p q r. unlinked a.geometry.now a.user a.path a.now f d c.requires.on.geometry x (subst (λ r. FindsName a.geometry.now d a.user a.path r) c.in-Ok.is p.1) file m0 m p.0 q e small r)
    c.in_ok-named.ensures.reads.turns c.in_ok-remove-in-Ok.ensures.turns c.in_ok-lose_name-in-Ok.ensures.turns

pub returns-in-Err-clause-turns : goal.returns-in-Err-clause-turns
returns-in-Err-clause-turns g c =
    let a = c.args in
    turns_as _ _ _ _ _
    (λ d e p. unlink_refused a.geometry.now a.user a.path a.now (files_of a.opens.now) d e c.in-Err.errno p.0 (subst (λ r. FindsName a.geometry.now d a.user a.path r) c.in-Err.is p.1))
    c.in_ok-named.ensures.reads.turns
