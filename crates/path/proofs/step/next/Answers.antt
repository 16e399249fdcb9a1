use Rattle.std.proofs.Common.{◌∙◌, Option, ℕ, sym, ap}
use Rattle.std.specs.Prelude.{Ok}
use Rattle.errno.specs.declared.Errno.TheVariants.{ENOENT}
use Rattle.tree.specs.Refusals.{or_refuse}
use Rattle.volume.specs.Nodes.{directory_of}
use Rattle.volume.specs.Pieces.{pieces}
use Rattle.block_store.proofs.Turns.{reads_as}
use Rattle.path.proofs.Ending.{answers_halted}
use Rattle.path.proofs.Going.{has_parent, to_name, to_parent}
use Rattle.path.proofs.step.next.Goals as goal

pub returns-in_err-parent-clause-reads : goal.returns-in_err-parent-clause-reads
returns-in_err-parent-clause-reads g c =
    let a = c.args in
    reads_as _ _ _ _ _
    (λ d p directory. answers_halted _ _ _ _ _ c.from_residual.ensures.1
    (has_parent a.geometry.now (pieces a.geometry.now d) a.here a.inode.now directory) p)
    c.in_err-parent.ensures.reads

pub returns-then-is_dot_dot-clause-reads : goal.returns-then-is_dot_dot-clause-reads
returns-then-is_dot_dot-clause-reads g c =
    let a = c.args in
    reads_as _ _ _ _ _
    (λ d p directory. let dir = directory_of a.geometry.now (pieces a.geometry.now d) a.inode.now in
    ap (λ n. Ok n) p ∙ sym (to_parent a.here dir.parent dir.names a.part.now (sym c.is_dot.ensures ∙ c.if-is_dot.false)
    (sym c.is_dot_dot.ensures ∙ c.if-is_dot_dot.true)))
    c.in_ok-parent.ensures.reads

pub returns-in-Some-clause-reads : goal.returns-in-Some-clause-reads
returns-in-Some-clause-reads g c =
    let a = c.args in
    reads_as _ _ _ _ _
    (λ d p directory. let dir = directory_of a.geometry.now (pieces a.geometry.now d) a.inode.now in
    ap (λ (o : Option ℕ). or_refuse o ENOENT) (sym c.in-Some.is ∙ p directory)
    ∙ sym (to_name a.here dir.parent dir.names a.part.now (sym c.is_dot.ensures ∙ c.if-is_dot.false)
    (sym c.is_dot_dot.ensures ∙ c.if-is_dot_dot.false)))
    c.in_ok-there.ensures.reads

pub returns-in-None-clause-reads : goal.returns-in-None-clause-reads
returns-in-None-clause-reads g c =
    let a = c.args in
    reads_as _ _ _ _ _
    (λ d p directory. let dir = directory_of a.geometry.now (pieces a.geometry.now d) a.inode.now in
    ap (λ (o : Option ℕ). or_refuse o ENOENT) (sym c.in-None.is ∙ p directory)
    ∙ sym (to_name a.here dir.parent dir.names a.part.now (sym c.is_dot.ensures ∙ c.if-is_dot.false)
    (sym c.is_dot_dot.ensures ∙ c.if-is_dot_dot.false)))
    c.in_ok-there.ensures.reads
