use Rattle.std.proofs.Common.{◌∙◌, Bool, Ok, sym, subst}
use Rattle.errno.specs.declared.Errno.TheVariants.{EACCES, ENOENT}
use Rattle.volume.specs.Reading.{Disk}
use Rattle.block_store.proofs.Turns.{turns_as, turns_none, turns_then}
use Rattle.path.proofs.Ending.{answers_exit}
use Rattle.calls_names.specs.Making.{IsFileRefused, MakesFileAt, MakesFileOr, MayMakeAt}
use Rattle.calls_names.proofs.Ending.{answers_halted}
use Rattle.calls_names.proofs.NewFiles.{file_made, its_inode, may_make, no_room, not_created, not_permitted}
use Rattle.calls_names.proofs.files.make_file.Goals as goal

pub returns-then-not-creates-clause-turns : goal.returns-then-not-creates-clause-turns
returns-then-not-creates-clause-turns g c =
    let a = c.args in
    let v = a.geometry.now in
    turns_as _ _ _ _ _
    (λ d e p t parent holds vacant. subst (λ (b : Bool). IsFileRefused v t a.user b a.now a.mode a.place.now d e ENOENT) (sym c.if-not-creates.true)
    (not_created v c.requires.on.geometry t a.user a.now a.mode d a.place.now parent holds vacant e p))
    (turns_none _ g.met.B.Blocks.lawful _ c.requires.on.ready)

pub returns-then-not-may_write-clause-turns : goal.returns-then-not-may_write-clause-turns
returns-then-not-may_write-clause-turns g c =
    let a = c.args in
    let v = a.geometry.now in
    let ok = c.requires.on.geometry in
    turns_as _ _ _ _ _
    (λ d e p t parent holds vacant. subst (λ (b : Bool). IsFileRefused v t a.user b a.now a.mode a.place.now d e EACCES) (sym c.if-not-creates.false)
    (not_permitted v ok t a.user a.now a.mode d a.place.now parent holds vacant e p
    (sym (c.may_write.ensures parent (its_inode v ok t a.user a.now a.mode d a.place.now parent holds vacant)) ∙ c.if-not-may_write.true)))
    (turns_none _ g.met.B.Blocks.lawful _ c.requires.on.ready)

pub returns-in_err-number-clause-turns : goal.returns-in_err-number-clause-turns
returns-in_err-number-clause-turns g c =
    let a = c.args in
    let v = a.geometry.now in
    let ok = c.requires.on.geometry in
    turns_as _ _ _ _ _
    (λ d e p t parent holds vacant. answers_exit _ _ _ (λ r. MakesFileOr v t a.user a.creates a.now a.mode a.place.now d e r) c.from_residual.ensures.1
    (λ errno full. subst (λ (b : Bool). IsFileRefused v t a.user b a.now a.mode a.place.now d e errno) (sym c.if-not-creates.false)
    (no_room v ok t a.user a.now a.mode d a.place.now parent holds vacant
    (sym (c.may_write.ensures parent (its_inode v ok t a.user a.now a.mode d a.place.now parent holds vacant)) ∙ c.if-not-may_write.false)
    e errno p.0 full))
    (p.1 t parent holds vacant))
    c.in_err-number.ensures.reads.turns

pub returns-in_err-put_file-clause-turns : goal.returns-in_err-put_file-clause-turns
returns-in_err-put_file-clause-turns g c =
    let a = c.args in
    let v = a.geometry.now in
    let ok = c.requires.on.geometry in
    turns_then _ g.met.B.Blocks.lawful _ _ _ _ _ _
    (λ d e f p q t parent holds vacant. answers_halted _ _ _ _ _ c.from_residual-in_err-put_file.ensures.1 q
    (subst (λ (z : Disk). MayMakeAt v z a.place.now c.in_ok-number.number 0) (sym p.0)
    (may_make v ok t a.user a.now a.mode d a.place.now parent holds vacant
    (sym (c.may_write.ensures parent (its_inode v ok t a.user a.now a.mode d a.place.now parent holds vacant)) ∙ c.if-not-may_write.false)
    c.in_ok-number.number (p.1 t parent holds vacant))))
    c.in_ok-number.ensures.reads.turns c.in_err-put_file.ensures.turns

pub returns-clause-turns : goal.returns-clause-turns
returns-clause-turns g c =
    let a = c.args in
    let v = a.geometry.now in
    let ok = c.requires.on.geometry in
    turns_then _ g.met.B.Blocks.lawful _ _ _ _ _ _
    (λ d e f p q t parent holds vacant.
    subst (λ (b : Bool). MakesFileOr v t a.user b a.now a.mode a.place.now d f (Ok c.in_ok-number.number)) (sym c.if-not-creates.false)
    (file_made v ok t a.user a.now a.mode d a.place.now parent holds vacant
    (sym (c.may_write.ensures parent (its_inode v ok t a.user a.now a.mode d a.place.now parent holds vacant)) ∙ c.if-not-may_write.false)
    c.in_ok-number.number (p.1 t parent holds vacant) f
    (subst (λ (z : Disk). MakesFileAt v a.user a.now a.mode a.place.now c.in_ok-number.number z f) p.0 q)))
    c.in_ok-number.ensures.reads.turns c.in_ok-put_file.ensures.turns
