use Rattle.block_store.proofs.Turns.{ends_as, reads_as, reads_none}
use Rattle.calls_rename.proofs.Barring.{asked_inside, file_inside}
use Rattle.calls_rename.proofs.barred.is_inside.Goals as goal

pub returns-then-not-what-clause-reads : goal.returns-then-not-what-clause-reads
returns-then-not-what-clause-reads g c =
    reads_none _ g.met.B.Blocks.lawful _ _ c.requires.on.ready (λ d. file_inside c.args.geometry.now d c.args.what.now c.if-not-what.true)

pub returns-clause-reads : goal.returns-clause-reads
returns-clause-reads g c =
    let a = c.args in
    reads_as _ _ _ _ _
    (λ d p. ends_as c.is_within.result _ _ _ _ (λ b says. asked_inside a.geometry.now d a.what.now b c.if-not-what.false says) (λ h. h) p)
    c.is_within.ensures.reads
