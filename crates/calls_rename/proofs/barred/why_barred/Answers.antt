use Rattle.std.proofs.Common.{true, false, subst}
use Rattle.descriptors.specs.Table.{files_of}
use Rattle.block_store.proofs.Turns.{reads_as, reads_then}
use Rattle.block_store.proofs.Ending.{ends_exit}
use Rattle.calls_rename.specs.Barred.{SaysInside}
use Rattle.calls_rename.proofs.Standing.{directory_held, number_held}
use Rattle.calls_rename.proofs.Barring.{at_free_name, at_taken_name, in_itself}
use Rattle.calls_rename.proofs.barred.why_barred.Goals as goal

pub returns-in_err-is_inside-clause-reads : goal.returns-in_err-is_inside-clause-reads
returns-in_err-is_inside-clause-reads g c =
    let a = c.args in
    reads_as _ _ _ _ _ (λ d p. ends_exit _ _ _ _ _ _ c.from_residual.ensures.1 (λ h. directory_held a.geometry.now d a.asked.now h) p) c.in_err-is_inside.ensures.reads

pub returns-then-branch-clause-reads : goal.returns-then-branch-clause-reads
returns-then-branch-clause-reads g c =
    let a = c.args in
    let v = a.geometry.now in
    let x = a.asked.now in
    reads_as _ _ _ _ _ (λ d p. in_itself v (files_of a.opens.now) d x (subst (λ b. SaysInside v d x.what b) c.if-branch.true p)) c.in_ok-is_inside.ensures.reads

pub returns-in_default-clause-reads : goal.returns-in_default-clause-reads
returns-in_default-clause-reads g c =
    let a = c.args in
    let v = a.geometry.now in
    let x = a.asked.now in
    reads_as _ _ _ _ _
    (λ d p. at_free_name v (files_of a.opens.now) d x (subst (λ b. SaysInside v d x.what b) c.if-branch.false p) c.in_default.is c.why_full.result c.why_full.ensures.full)
    c.in_ok-is_inside.ensures.reads

pub returns-in_err-inode-clause-reads : goal.returns-in_err-inode-clause-reads
returns-in_err-inode-clause-reads g c =
    let a = c.args in
    let x = a.asked.now in
    reads_then _ g.met.B.Blocks.lawful _ _ _ _ _ _
    (λ d p q. ends_exit _ _ _ _ _ _ c.from_residual-in_err-inode.ensures.1 (λ h. number_held a.geometry.now d x c.in-Some.number c.in-Some.is h) q)
    c.in_ok-is_inside.ensures.reads c.in_err-inode.ensures.reads

pub returns-clause-reads : goal.returns-clause-reads
returns-clause-reads g c =
    let a = c.args in
    let v = a.geometry.now in
    let x = a.asked.now in
    reads_then _ g.met.B.Blocks.lawful _ _ _ _ _ _
    (λ d p q. at_taken_name v (files_of a.opens.now) d x (subst (λ b. SaysInside v d x.what b) c.if-branch.false p) c.requires.on.geometry c.in-Some.number c.in-Some.is
    c.in_ok-inode.inode q c.why_kept.result c.why_kept.ensures.kept)
    c.in_ok-is_inside.ensures.reads c.in_ok-inode.ensures.reads
