use Rattle.volume.specs.Pieces.{pieces}
use Rattle.block_store.proofs.Turns.{reads_then, ends_as}
use Rattle.block_store.proofs.Ending.{ends_cut_exit, reads_three}
use Rattle.zone.proofs.Last.{before_held}
use Rattle.zone.proofs.cutting.pages.last_before.Goals as goal

pub returns-in_err-held-clause-reads : goal.returns-in_err-held-clause-reads
returns-in_err-held-clause-reads g c =
    reads_then _ g.met.B.Blocks.lawful _ _ _ _ _ _ (λ d p q. ends_cut_exit _ _ _ _ c.from_residual-in_err-held.ensures.1) c.in_ok-loaded.ensures.reads c.in_err-held.ensures.reads

pub returns-in-Some-clause-reads : goal.returns-in-Some-clause-reads
returns-in-Some-clause-reads g c =
    let a = c.args in
    reads_then _ g.met.B.Blocks.lawful _ _ _ _ _ _
    (λ d p q. before_held a.geometry.now (pieces a.geometry.now d) c.in_ok-loaded.loaded _ a.end c.in-Some.held c.in_ok-held.field-0 p c.in-Some.is q)
    c.in_ok-loaded.ensures.reads c.in_ok-held.ensures.reads

pub returns-clause-reads : goal.returns-clause-reads
returns-clause-reads g c =
    reads_three _ g.met.B.Blocks.lawful _ _ _ _ _ _ _ _ (λ d p q r. ends_as c.last_held.result _ _ _ _ (λ x h none. h) (λ s. s) r)
    c.in_ok-loaded.ensures.reads c.in_ok-held.ensures.reads c.last_held.ensures.reads
