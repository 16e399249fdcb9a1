use Rattle.std.proofs.Common.{◌≡◌, ◌<◌, ◌^◌, ◌∙◌, false, sym, subst, arith}
use Rattle.std.specs.Prelude.{IfOk}
use Rattle.tree.specs.IsCall.{IsBytes}
use Rattle.tree.specs.NameCalls.{is_same}
use Rattle.descriptors.specs.Table.{files_of}
use Rattle.block_store.proofs.Turns.{turns_as, turns_then}
use Rattle.block_store.proofs.Ending.{ends_exit}
use Rattle.calls_names.proofs.Both.{reads_both}
use Rattle.calls_rename.specs.declared.asked.Asked.{Asked}
use Rattle.calls_rename.specs.Asked.{FindsAsked, IsNamed}
use Rattle.calls_rename.specs.Barred.{SaysBarred}
use Rattle.calls_rename.specs.Carrying.{SaysFits}
use Rattle.calls_rename.proofs.Going.{barred, can_carry, is_found, is_ready, no_room, not_found, renamed, stays, volume_of}
use Rattle.calls_rename.proofs.renamed.rename.Goals as goal

pub returns-in_err-asked-clause-turns : goal.returns-in_err-asked-clause-turns
returns-in_err-asked-clause-turns g c =
    let a = c.args in
    turns_as _ _ _ _ _ (λ d e p. ends_exit _ _ _ _ _ _ c.from_residual.ensures.1 (λ h. volume_of a.geometry.now d (files_of a.opens.now) h) p.1) c.in_err-asked.ensures.reads.turns

pub returns-in-Err-clause-turns : goal.returns-in-Err-clause-turns
returns-in-Err-clause-turns g c =
    let a = c.args in
    let v = a.geometry.now in
    turns_as _ _ _ _ _
    (λ d e p. not_found v a.user a.now a.old a.new (files_of a.opens.now) d e c.in-Err.errno p.0 (subst (λ r. FindsAsked v d a.user a.old a.new r) c.in-Err.is p.1))
    c.in_ok-asked.ensures.reads.turns

pub returns-then-is_same-clause-turns : goal.returns-then-is_same-clause-turns
returns-then-is_same-clause-turns g c =
    let a = c.args in
    let v = a.geometry.now in
    let x = c.in-Ok.asked in
    turns_as _ _ _ _ _
    (λ d e p. stays v a.user a.now a.old a.new (files_of a.opens.now) d x (subst (λ r. FindsAsked v d a.user a.old a.new r) c.in-Ok.is p.1) e p.0 (sym c.is_same.ensures ∙ c.if-is_same.true))
    c.in_ok-asked.ensures.reads.turns

pub returns-in_err-errno-clause-turns : goal.returns-in_err-errno-clause-turns
returns-in_err-errno-clause-turns g c =
    let a = c.args in
    let v = a.geometry.now in
    let x = c.in-Ok.asked in
    turns_as _ _ _ _ _
    (λ d e p. ends_exit _ _ _ _ _ _ c.from_residual-in_err-errno.ensures.1
    (λ h. is_found v a.user a.now a.old a.new (files_of a.opens.now) d x (subst (λ r. FindsAsked v d a.user a.old a.new r) c.in-Ok.is p.1.0) h) p.1.1)
    (reads_both _ g.met.B.Blocks.lawful _ _ _ _ _ c.in_ok-asked.ensures.reads c.in_err-errno.ensures.reads).turns

pub returns-in-Some-clause-turns : goal.returns-in-Some-clause-turns
returns-in-Some-clause-turns g c =
    let a = c.args in
    let v = a.geometry.now in
    let f = files_of a.opens.now in
    let x = c.in-Ok.asked in
    let differ : is_same x.what.number x.there ≡ false = sym c.is_same.ensures ∙ c.if-is_same.false in
    turns_as _ _ _ _ _
    (λ d e p. barred v a.user a.now a.old a.new f d x (subst (λ r. FindsAsked v d a.user a.old a.new r) c.in-Ok.is p.1.0) differ e c.in-Some.errno p.0
    (subst (λ r. SaysBarred v f d x r) c.in-Some.is p.1.1))
    (reads_both _ g.met.B.Blocks.lawful _ _ _ _ _ c.in_ok-asked.ensures.reads c.in_ok-errno.ensures.reads).turns

pub returns-in_err-fits-clause-turns : goal.returns-in_err-fits-clause-turns
returns-in_err-fits-clause-turns g c =
    let a = c.args in
    let v = a.geometry.now in
    let f = files_of a.opens.now in
    let x = c.in-Ok.asked in
    let differ : is_same x.what.number x.there ≡ false = sym c.is_same.ensures ∙ c.if-is_same.false in
    let named : IsNamed a.now x.what = subst (λ r. IfOk r (λ (y : Asked). IsNamed a.now y.what)) c.in-Ok.is c.in_ok-asked.ensures.named in
    turns_as _ _ _ _ _
    (λ d e p. ends_exit _ _ _ _ _ _ c.from_residual-in_err-fits.ensures.1
    (λ h. is_ready v a.user a.now a.old a.new f d x (subst (λ r. FindsAsked v d a.user a.old a.new r) c.in-Ok.is p.1.0.0) differ c.requires.on.geometry named
    (subst (λ r. SaysBarred v f d x r) c.in_default.is p.1.0.1) h) p.1.1)
    (reads_both _ g.met.B.Blocks.lawful _ _ _ _ _ (reads_both _ g.met.B.Blocks.lawful _ _ _ _ _ c.in_ok-asked.ensures.reads c.in_ok-errno.ensures.reads) c.in_err-fits.ensures.reads).turns

pub returns-then-not-branch-clause-turns : goal.returns-then-not-branch-clause-turns
returns-then-not-branch-clause-turns g c =
    let a = c.args in
    let v = a.geometry.now in
    let f = files_of a.opens.now in
    let x = c.in-Ok.asked in
    let differ : is_same x.what.number x.there ≡ false = sym c.is_same.ensures ∙ c.if-is_same.false in
    let named : IsNamed a.now x.what = subst (λ r. IfOk r (λ (y : Asked). IsNamed a.now y.what)) c.in-Ok.is c.in_ok-asked.ensures.named in
    turns_as _ _ _ _ _
    (λ d e p. no_room v a.user a.now a.old a.new f d x (subst (λ r. FindsAsked v d a.user a.old a.new r) c.in-Ok.is p.1.0.0) differ c.requires.on.geometry named
    (subst (λ r. SaysBarred v f d x r) c.in_default.is p.1.0.1) e p.0 (subst (λ b. SaysFits v d x b) c.if-not-branch.true p.1.1))
    (reads_both _ g.met.B.Blocks.lawful _ _ _ _ _ (reads_both _ g.met.B.Blocks.lawful _ _ _ _ _ c.in_ok-asked.ensures.reads c.in_ok-errno.ensures.reads) c.in_ok-fits.ensures.reads).turns

pub carry-requires-clause-named : goal.carry-requires-clause-named
carry-requires-clause-named g c =
    let a = c.args in
    let x = c.in-Ok.asked in
    let named : IsNamed a.now x.what = subst (λ r. IfOk r (λ (y : Asked). IsNamed a.now y.what)) c.in-Ok.is c.in_ok-asked.ensures.named in
    subst (λ k. IsNamed k x.what) (sym named.time) named

pub returns-in_err-carry-clause-turns : goal.returns-in_err-carry-clause-turns
returns-in_err-carry-clause-turns g c =
    let a = c.args in
    let v = a.geometry.now in
    let f = files_of a.opens.now in
    let x = c.in-Ok.asked in
    let differ : is_same x.what.number x.there ≡ false = sym c.is_same.ensures ∙ c.if-is_same.false in
    let named : IsNamed a.now x.what = subst (λ r. IfOk r (λ (y : Asked). IsNamed a.now y.what)) c.in-Ok.is c.in_ok-asked.ensures.named in
    turns_then _ g.met.B.Blocks.lawful _ _ _ _ _ _
    (λ d m e p q. ends_exit _ _ _ _ _ _ c.from_residual-in_err-carry.ensures.1
    (λ h. can_carry v a.user a.now a.old a.new f d x (subst (λ r. FindsAsked v d a.user a.old a.new r) c.in-Ok.is p.1.0.0) differ c.requires.on.geometry named
    (subst (λ r. SaysBarred v f d x r) c.in_default.is p.1.0.1) (subst (λ b. SaysFits v d x b) c.if-not-branch.false p.1.1) m p.0 h) q)
    (reads_both _ g.met.B.Blocks.lawful _ _ _ _ _ (reads_both _ g.met.B.Blocks.lawful _ _ _ _ _ c.in_ok-asked.ensures.reads c.in_ok-errno.ensures.reads) c.in_ok-fits.ensures.reads).turns
    c.in_err-carry.ensures.turns

pub returns-clause-turns : goal.returns-clause-turns
returns-clause-turns g c =
    let a = c.args in
    let v = a.geometry.now in
    let f = files_of a.opens.now in
    let x = c.in-Ok.asked in
    let differ : is_same x.what.number x.there ≡ false = sym c.is_same.ensures ∙ c.if-is_same.false in
    let named : IsNamed a.now x.what = subst (λ r. IfOk r (λ (y : Asked). IsNamed a.now y.what)) c.in-Ok.is c.in_ok-asked.ensures.named in
    let bytes : IsBytes a.new.bytes.now = c.are_bytes.ensures in
    let small : a.now < 2 ^ 32 = let k = c.ranges.now.fits in omega (arith, k) in
    turns_then _ g.met.B.Blocks.lawful _ _ _ _ _ _
    (λ d m e p q. renamed v a.user a.now a.old a.new f d x (subst (λ r. FindsAsked v d a.user a.old a.new r) c.in-Ok.is p.1.0.0) differ c.requires.on.geometry named
    (subst (λ r. SaysBarred v f d x r) c.in_default.is p.1.0.1) (subst (λ b. SaysFits v d x b) c.if-not-branch.false p.1.1) m e p.0 q small bytes)
    (reads_both _ g.met.B.Blocks.lawful _ _ _ _ _ (reads_both _ g.met.B.Blocks.lawful _ _ _ _ _ c.in_ok-asked.ensures.reads c.in_ok-errno.ensures.reads) c.in_ok-fits.ensures.reads).turns
    c.in_ok-carry.ensures.turns
