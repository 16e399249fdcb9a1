use Rattle.std.proofs.Common.{◌+◌, ◌∙◌, ap, sym, arith}
use Rattle.std.specs.Prelude.{◌==◌}
use Rattle.lemmas.specs.Sums.{one_if}
use Rattle.volume.specs.Pieces.{pieces}
use Rattle.block_store.proofs.Turns.{reads_none, reads_then, if_cut}
use Rattle.file.proofs.Needed.{holes_none, holes_more}
use Rattle.file.proofs.file_room.pages.holes.Goals as goal

pub loop-place-init : goal.loop-place-init
loop-place-init g c =
    let a = c.args in
    (omega arith, reads_none _ g.met.B.Blocks.lawful _ _ c.requires.on.ready (λ d. holes_none a.geometry.now (pieces a.geometry.now d) a.inode.now a.level a.from))

pub returns-in_err-zone-clause-reads : goal.returns-in_err-zone-clause-reads
returns-in_err-zone-clause-reads g c =
    reads_then _ g.met.B.Blocks.lawful _ _ _ _ _ _ (λ d p q. if_cut c.from_residual.result _ c.from_residual.ensures.0)
    c.loop-place.invariant.1 c.in_err-zone.ensures.reads

pub loop-place-preserved : goal.loop-place-preserved
loop-place-preserved g c =
    let a = c.args in
    let most = c.count_of-holes.ensures.most in
    let low = c.loop-place.auto.place in
    let so = c.loop-place.invariant.0 in (
      omega (arith, most, low, so),
      reads_then _ g.met.B.Blocks.lawful _ _ _ _ _ _
          (λ d p q. (λ t. p t + (c.count_of-holes.ensures.count ∙ ap (λ z. one_if (z == 0)) q) t)
          ∙ sym (holes_more a.geometry.now (pieces a.geometry.now d) a.inode.now a.level a.from c.loop-place.place (omega (arith, low))))
          c.loop-place.invariant.1 c.in_ok-zone.ensures.reads,
    )
