use Rattle.std.proofs.Common.{true, false, subst}
use Rattle.block_store.proofs.Turns.{reads_as, reads_then}
use Rattle.block_store.proofs.Ending.{ends_exit}
use Rattle.calls_names.specs.Names.{MeansPlace}
use Rattle.calls_names.proofs.Both.{reads_both}
use Rattle.calls_rename.proofs.Finding.{both_found, its_number, new_not_walked, new_not_writable, old_missing, old_not_walked, old_not_writable}
use Rattle.calls_rename.proofs.asked.find_both.Goals as goal

pub returns-in-Err-clause-reads : goal.returns-in-Err-clause-reads
returns-in-Err-clause-reads g c =
    let a = c.args in
    let v = a.geometry.now in
    reads_as _ _ _ _ _ (λ d p. old_not_walked v d a.user a.from.now a.to.now c.in-Err.errno (subst (λ r. MeansPlace v d a.user a.from.now r) c.in-Err.is p)) c.in_ok-place.ensures.reads

pub returns-in_default-clause-reads : goal.returns-in_default-clause-reads
returns-in_default-clause-reads g c =
    let a = c.args in
    let v = a.geometry.now in
    reads_as _ _ _ _ _
    (λ d p. old_missing v d a.user a.from.now a.to.now c.requires.old c.in-Ok.place (subst (λ r. MeansPlace v d a.user a.from.now r) c.in-Ok.is p) c.in_default.is) c.in_ok-place.ensures.reads

pub returns-in-Err-2-clause-reads : goal.returns-in-Err-2-clause-reads
returns-in-Err-2-clause-reads g c =
    let a = c.args in
    let v = a.geometry.now in
    reads_as _ _ _ _ _
    (λ d p. new_not_walked v d a.user a.from.now a.to.now c.requires.old c.in-Ok.place (subst (λ r. MeansPlace v d a.user a.from.now r) c.in-Ok.is p.0) c.in-Some.number c.in-Some.is
    c.in-Err-2.errno (subst (λ r. MeansPlace v d a.user a.to.now r) c.in-Err-2.is p.1))
    (reads_both _ g.met.B.Blocks.lawful _ _ _ _ _ c.in_ok-place.ensures.reads c.in_ok-place-2.ensures.reads)

pub returns-then-not-may_write-clause-reads : goal.returns-then-not-may_write-clause-reads
returns-then-not-may_write-clause-reads g c =
    let a = c.args in
    let v = a.geometry.now in
    reads_as _ _ _ _ _
    (λ d p. old_not_writable v d a.user a.from.now a.to.now c.requires.old c.in-Ok.place (subst (λ r. MeansPlace v d a.user a.from.now r) c.in-Ok.is p.0) c.in-Some.number c.in-Some.is
    c.in-Ok-2.place (subst (λ r. MeansPlace v d a.user a.to.now r) c.in-Ok-2.is p.1) c.may_write.result c.may_write.ensures c.if-not-may_write.true)
    (reads_both _ g.met.B.Blocks.lawful _ _ _ _ _ c.in_ok-place.ensures.reads c.in_ok-place-2.ensures.reads)

pub returns-then-not-may_write-2-clause-reads : goal.returns-then-not-may_write-2-clause-reads
returns-then-not-may_write-2-clause-reads g c =
    let a = c.args in
    let v = a.geometry.now in
    reads_as _ _ _ _ _
    (λ d p. new_not_writable v d a.user a.from.now a.to.now c.requires.old c.in-Ok.place (subst (λ r. MeansPlace v d a.user a.from.now r) c.in-Ok.is p.0) c.in-Some.number c.in-Some.is
    c.in-Ok-2.place (subst (λ r. MeansPlace v d a.user a.to.now r) c.in-Ok-2.is p.1) c.may_write.result c.may_write.ensures c.if-not-may_write.false
    c.may_write-2.result c.may_write-2.ensures c.if-not-may_write-2.true)
    (reads_both _ g.met.B.Blocks.lawful _ _ _ _ _ c.in_ok-place.ensures.reads c.in_ok-place-2.ensures.reads)

pub returns-in_err-inode-clause-reads : goal.returns-in_err-inode-clause-reads
returns-in_err-inode-clause-reads g c =
    let a = c.args in
    let v = a.geometry.now in
    reads_then _ g.met.B.Blocks.lawful _ _ _ _ _ _
    (λ d p q. ends_exit _ _ _ _ _ _ c.from_residual-in_err-inode.ensures.1
    (λ x. its_number v d a.user a.from.now a.to.now c.requires.old c.in-Ok.place (subst (λ r. MeansPlace v d a.user a.from.now r) c.in-Ok.is p.0) c.in-Some.number c.in-Some.is
    c.in-Ok-2.place (subst (λ r. MeansPlace v d a.user a.to.now r) c.in-Ok-2.is p.1) c.may_write.result c.may_write.ensures c.if-not-may_write.false
    c.may_write-2.result c.may_write-2.ensures x) q)
    (reads_both _ g.met.B.Blocks.lawful _ _ _ _ _ c.in_ok-place.ensures.reads c.in_ok-place-2.ensures.reads) c.in_err-inode.ensures.reads

pub returns-clause-reads : goal.returns-clause-reads
returns-clause-reads g c =
    let a = c.args in
    let v = a.geometry.now in
    reads_then _ g.met.B.Blocks.lawful _ _ _ _ _ _
    (λ d p q. both_found v d a.user a.from.now a.to.now c.requires.old c.in-Ok.place (subst (λ r. MeansPlace v d a.user a.from.now r) c.in-Ok.is p.0) c.in-Some.number c.in-Some.is
    c.in-Ok-2.place (subst (λ r. MeansPlace v d a.user a.to.now r) c.in-Ok-2.is p.1) c.may_write.result c.may_write.ensures c.if-not-may_write.false
    c.may_write-2.result c.may_write-2.ensures c.if-not-may_write-2.false c.requires.new c.in_ok-inode.inode q c.is_directory.result c.is_directory.ensures
    a.now c.last.result c.last-2.result c.last.ensures c.last-2.ensures)
    (reads_both _ g.met.B.Blocks.lawful _ _ _ _ _ c.in_ok-place.ensures.reads c.in_ok-place-2.ensures.reads) c.in_ok-inode.ensures.reads

pub returns-in_err-place-2-clause-reads : goal.returns-in_err-place-2-clause-reads
returns-in_err-place-2-clause-reads g c =
    reads_then _ g.met.B.Blocks.lawful _ _ _ _ _ _
    (λ d p q. ends_exit _ _ _ _ _ _ c.from_residual-in_err-place-2.ensures.1 (λ x. x) q) c.in_ok-place.ensures.reads c.in_err-place-2.ensures.reads
