use Rattle.std.proofs.Common.{◌∙◌, ap}
use Rattle.volume.specs.Pieces.{pieces}
use Rattle.volume.specs.Places.{zone_at}
use Rattle.block_store.proofs.Turns.{reads_then}
use Rattle.block_store.proofs.Ending.{ends_cut_exit}
use Rattle.zone.proofs.holding.zone_at.Goals as goal

pub returns-clause-reads : goal.returns-clause-reads
returns-clause-reads g c =
    let a = c.args in
    reads_then _ g.met.B.Blocks.lawful _ _ _ _ _ _ (λ d p q. q ∙ ap (λ i. zone_at a.geometry.now (pieces a.geometry.now d) i a.level a.place) p)
    c.in_ok-loaded.ensures.reads c.in_ok-find.ensures.reads

pub returns-in_err-find-clause-reads : goal.returns-in_err-find-clause-reads
returns-in_err-find-clause-reads g c =
    reads_then _ g.met.B.Blocks.lawful _ _ _ _ _ _ (λ d p q. ends_cut_exit _ _ _ _ c.from_residual-in_err-find.ensures.1)
    c.in_ok-loaded.ensures.reads c.in_err-find.ensures.reads
