use Rattle.block_store.proofs.Turns.{reads_as, reads_none, reads_then}
use Rattle.block_store.proofs.Ending.{ends_exit, reads_three}
use Rattle.calls_rename.proofs.Climbing.{at_first, climbed, reached, at_the_root, too_far, is_one, has_two}
use Rattle.calls_rename.proofs.ancestors.is_within.Goals as goal

pub loop-steps-init : goal.loop-steps-init
loop-steps-init g c = reads_none _ g.met.B.Blocks.lawful _ _ c.requires.on.ready (λ d. at_first c.args.geometry.now d c.args.number c.args.top)

pub returns-then-here-top-clause-reads : goal.returns-then-here-top-clause-reads
returns-then-here-top-clause-reads g c =
    let a = c.args in
    reads_as _ _ _ _ _ (λ d p. reached a.geometry.now d a.number a.top c.loop-steps.steps c.loop-steps.here p c.loop-steps-test.true c.if-here-top.true) c.loop-steps.invariant

pub returns-clause-reads : goal.returns-clause-reads
returns-clause-reads g c =
    let a = c.args in
    reads_as _ _ _ _ _ (λ d p. too_far a.geometry.now d a.number a.top c.loop-steps.steps c.loop-steps.here p c.loop-steps-test.false) c.loop-steps.invariant

pub returns-then-here-eq-ROOT-clause-reads : goal.returns-then-here-eq-ROOT-clause-reads
returns-then-here-eq-ROOT-clause-reads g c =
    let a = c.args in
    reads_as _ _ _ _ _ (λ d p. at_the_root a.geometry.now d a.number a.top c.loop-steps.steps c.loop-steps.here p c.if-here-top.false c.if-here-eq-ROOT.true) c.loop-steps.invariant

pub returns-in_err-inode-clause-reads : goal.returns-in_err-inode-clause-reads
returns-in_err-inode-clause-reads g c =
    let a = c.args in
    reads_then _ g.met.B.Blocks.lawful _ _ _ _ _ _
    (λ d p q. ends_exit _ _ _ _ _ _ c.from_residual.ensures.1 (λ h. is_one a.geometry.now d a.number a.top c.loop-steps.steps c.loop-steps.here p h) q)
    c.loop-steps.invariant c.in_err-inode.ensures.reads

pub returns-in_err-here-clause-reads : goal.returns-in_err-here-clause-reads
returns-in_err-here-clause-reads g c =
    let a = c.args in
    reads_three _ g.met.B.Blocks.lawful _ _ _ _ _ _ _ _
    (λ d p q r. ends_exit _ _ _ _ _ _ c.from_residual-in_err-here.ensures.1 (λ h. has_two a.geometry.now d a.number a.top c.loop-steps.steps c.loop-steps.here p c.in_ok-inode.inode q h) r)
    c.loop-steps.invariant c.in_ok-inode.ensures.reads c.in_err-here.ensures.reads

pub loop-steps-preserved : goal.loop-steps-preserved
loop-steps-preserved g c =
    let a = c.args in
    reads_three _ g.met.B.Blocks.lawful _ _ _ _ _ _ _ _
    (λ d p q r. climbed a.geometry.now d a.number a.top c.loop-steps.steps c.loop-steps.here p c.in_ok-inode.inode c.in_ok-here.here c.if-here-top.false q r)
    c.loop-steps.invariant c.in_ok-inode.ensures.reads c.in_ok-here.ensures.reads
