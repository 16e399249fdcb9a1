use Rattle.std.proofs.Common.{◌≡◌, ◌<◌, ◌≤◌, ◌^◌, ◌∙◌, None, length, sym, subst, arith}
use Rattle.std.specs.Prelude.{IfOk}
use Rattle.descriptors.specs.Table.{files_of}
use Rattle.block_store.proofs.Turns.{turns_as, turns_then}
use Rattle.block_store.proofs.Ending.{ends_exit, turns_three}
use Rattle.calls_names.specs.declared.named.Named.{Named}
use Rattle.calls_names.specs.Names.{FindsName, why_kept}
use Rattle.calls_names.proofs.Standing.{may_remove_of}
use Rattle.calls_names.proofs.Going.{may_drop, may_free, removed, rmdir_kept, rmdir_refused, turns_four}
use Rattle.calls_names.proofs.removing.rmdir.Goals as goal

pub returns-in-Some-clause-turns : goal.returns-in-Some-clause-turns
returns-in-Some-clause-turns g c =
    let a = c.args in
    let x = c.in-Ok.named in
    turns_as _ _ _ _ _
    (λ d e p. rmdir_kept a.geometry.now a.user a.path a.now (files_of a.opens.now) d c.requires.on.geometry x (subst (λ r. FindsName a.geometry.now d a.user a.path r) c.in-Ok.is p.1) e
    c.in-Some.errno p.0 (λ l. sym (c.why_kept.ensures.kept l) ∙ c.in-Some.is))
    c.in_ok-named.ensures.reads.turns

pub remove-requires-clause-named : goal.remove-requires-clause-named
remove-requires-clause-named g c = subst (λ r. IfOk r (λ (y : Named). 0 < length y.name.now)) c.in-Ok.is c.in_ok-named.ensures.named

pub returns-in_err-remove-in-Ok-clause-turns : goal.returns-in_err-remove-in-Ok-clause-turns
returns-in_err-remove-in-Ok-clause-turns g c =
    let a = c.args in
    let x = c.in-Ok.named in
    let f = files_of a.opens.now in
    turns_then _ g.met.B.Blocks.lawful _ _ _ _ _ _
    (λ d m e p q. ends_exit _ _ _ _ _ _ c.from_residual-in_err-remove-in-Ok.ensures.1
    (λ h. may_remove_of a.geometry.now c.requires.on.geometry a.user a.path a.now d x (subst (λ r. FindsName a.geometry.now d a.user a.path r) c.in-Ok.is p.1) f m p.0 h) q)
    c.in_ok-named.ensures.reads.turns c.in_err-remove-in-Ok.ensures.turns

pub returns-in_err-drop_link-in-Ok-clause-turns : goal.returns-in_err-drop_link-in-Ok-clause-turns
returns-in_err-drop_link-in-Ok-clause-turns g c =
    let a = c.args in
    let x = c.in-Ok.named in
    let f = files_of a.opens.now in
    let small : a.now < 2 ^ 32 = let k = c.ranges.now.fits in omega (arith, k) in
    let free : x.number ≤ 65535 → why_kept f x ≡ None = λ l. sym (c.why_kept.ensures.kept l) ∙ c.in_default.is in
    turns_three _ g.met.B.Blocks.lawful _ _ _ _ _ _ _ _
    (λ d m0 m e p q r. ends_exit _ _ _ _ _ _ c.from_residual-in_err-drop_link-in-Ok.ensures.1
    (λ h. may_drop a.geometry.now a.user a.path a.now f d c.requires.on.geometry x (subst (λ r. FindsName a.geometry.now d a.user a.path r) c.in-Ok.is p.1) small free m0 m p.0 q h) r)
    c.in_ok-named.ensures.reads.turns c.in_ok-remove-in-Ok.ensures.turns c.in_err-drop_link-in-Ok.ensures.turns

pub returns-in_err-free_node-in-Ok-clause-turns : goal.returns-in_err-free_node-in-Ok-clause-turns
returns-in_err-free_node-in-Ok-clause-turns g c =
    let a = c.args in
    let x = c.in-Ok.named in
    let f = files_of a.opens.now in
    let small : a.now < 2 ^ 32 = let k = c.ranges.now.fits in omega (arith, k) in
    let free : x.number ≤ 65535 → why_kept f x ≡ None = λ l. sym (c.why_kept.ensures.kept l) ∙ c.in_default.is in
    turns_four _ g.met.B.Blocks.lawful _ _ _ _ _ _ _ _ _ _
    (λ d m0 m t e p q r s. ends_exit _ _ _ _ _ _ c.from_residual-in_err-free_node-in-Ok.ensures.1
    (λ h. may_free a.geometry.now a.user a.path a.now f d c.requires.on.geometry x (subst (λ r. FindsName a.geometry.now d a.user a.path r) c.in-Ok.is p.1) small free m0 m p.0 q t r h) s)
    c.in_ok-named.ensures.reads.turns c.in_ok-remove-in-Ok.ensures.turns c.in_ok-drop_link-in-Ok.ensures.turns c.in_err-free_node-in-Ok.ensures.turns

pub returns-in_ok-free_node-in-Ok-clause-turns : goal.returns-in_ok-free_node-in-Ok-clause-turns
returns-in_ok-free_node-in-Ok-clause-turns g c =
    let a = c.args in
    let x = c.in-Ok.named in
    let f = files_of a.opens.now in
    let small : a.now < 2 ^ 32 = let k = c.ranges.now.fits in omega (arith, k) in
    let free : x.number ≤ 65535 → why_kept f x ≡ None = λ l. sym (c.why_kept.ensures.kept l) ∙ c.in_default.is in
    turns_four _ g.met.B.Blocks.lawful _ _ _ _ _ _ _ _ _ _
    (λ d m0 m t e p q r s. removed a.geometry.now a.user a.path a.now f d c.requires.on.geometry x (subst (λ r. FindsName a.geometry.now d a.user a.path r) c.in-Ok.is p.1) small free m0 m p.0 q t e r s)
    c.in_ok-named.ensures.reads.turns c.in_ok-remove-in-Ok.ensures.turns c.in_ok-drop_link-in-Ok.ensures.turns c.in_ok-free_node-in-Ok.ensures.turns

pub returns-in-Err-clause-turns : goal.returns-in-Err-clause-turns
returns-in-Err-clause-turns g c =
    let a = c.args in
    turns_as _ _ _ _ _
    (λ d e p. rmdir_refused a.geometry.now a.user a.path a.now (files_of a.opens.now) d e c.in-Err.errno p.0 (subst (λ r. FindsName a.geometry.now d a.user a.path r) c.in-Err.is p.1))
    c.in_ok-named.ensures.reads.turns
