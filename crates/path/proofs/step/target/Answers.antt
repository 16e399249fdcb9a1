use Rattle.std.proofs.Common.{sym, ap, ◌∙◌}
use Rattle.directory.specs.Reading.{read_count}
use Rattle.block_store.proofs.Turns.{reads_as, reads_then}
use Rattle.path.proofs.Entering.{is_held}
use Rattle.path.proofs.Ending.{answers_cut}
use Rattle.path.proofs.Targets.{none_of, some_of}
use Rattle.path.proofs.step.target.Goals as goal

pub returns-then-not-is_link-clause-reads : goal.returns-then-not-is_link-clause-reads
returns-then-not-is_link-clause-reads g c =
    let a = c.args in
    let i = c.in_ok-inode.inode in
    reads_as _ _ _ _ _
    (λ d p t holds there. none_of a.geometry.now d t a.there i (is_held a.geometry.now d t a.there i holds there p)
    (sym c.is_link.ensures ∙ c.if-not-is_link.true))
    c.in_ok-inode.ensures.reads

pub returns-in_err-count-clause-reads : goal.returns-in_err-count-clause-reads
returns-in_err-count-clause-reads g c =
    reads_then _ g.met.B.Blocks.lawful _ _ _ _ _ _
    (λ d p q t holds there. answers_cut _ _ _ c.from_residual-in_err-count.ensures.1)
    c.in_ok-inode.ensures.reads c.in_err-count.ensures.reads

pub returns-clause-reads : goal.returns-clause-reads
returns-clause-reads g c =
    let a = c.args in
    let i = c.in_ok-inode.inode in
    reads_then _ g.met.B.Blocks.lawful _ _ _ _ _ _
    (λ d p q t holds there. some_of a.geometry.now d t a.there i c.in_ok-count.count _ holds
    (is_held a.geometry.now d t a.there i holds there p) (sym c.is_link.ensures ∙ c.if-not-is_link.false)
    (c.in_ok-count.ensures.count ∙ ap (read_count i.size 0) c.requires.room) (c.read_at.auto.into ∙ c.requires.room) q)
    c.in_ok-inode.ensures.reads c.in_ok-count.ensures.reads
