use Rattle.volume.specs.Pieces.{pieces}
use Rattle.volume.proofs.Volumes.{numbers_sized}
use Rattle.block_store.proofs.Turns.{reads_then, ends_as}
use Rattle.block_store.proofs.Ending.{ends_cut_exit, reads_three}
use Rattle.zone.proofs.Last.{last_down, bare_down}
use Rattle.zone.proofs.cutting.pages.+last_below.Goals as goal

pub returns-in_err-index-clause-reads : goal.returns-in_err-index-clause-reads
returns-in_err-index-clause-reads g t c =
    reads_then _ g.met.B.Blocks.lawful _ _ _ _ _ _ (λ d p q. ends_cut_exit _ _ _ _ c.from_residual-in_err-index.ensures.1) c.in_ok-block.ensures.reads c.in_err-index.ensures.reads

pub returns-in-Some-clause-reads : goal.returns-in-Some-clause-reads
returns-in-Some-clause-reads g t c =
    let a = c.args in
    reads_three _ g.met.B.Blocks.lawful _ _ _ _ _ _ _ _
    (λ d p q r.
    ends_as c.last_below.result _ _ _ _
    (λ x h at. h (last_down a.geometry.now (pieces a.geometry.now d) a.inode.now a.level a.place _ c.in-Some.index _ _ _ (numbers_sized a.geometry.now c.requires.on.geometry)
    c.requires.level c.if-level-eq0.false p c.numbers_in_zone.ensures c.in-Some.is q c.child_of-child.ensures.child at))
    (λ s. (
      last_down a.geometry.now (pieces a.geometry.now d) a.inode.now a.level a.place _ c.in-Some.index _ _ _ (numbers_sized a.geometry.now c.requires.on.geometry)
          c.requires.level c.if-level-eq0.false p c.numbers_in_zone.ensures c.in-Some.is q c.child_of-child.ensures.child s.0,
      s.1,
    )) r)
    c.in_ok-block.ensures.reads c.in_ok-index.ensures.reads c.last_below.ensures.reads

pub returns-in-None-clause-reads : goal.returns-in-None-clause-reads
returns-in-None-clause-reads g t c =
    let a = c.args in
    reads_then _ g.met.B.Blocks.lawful _ _ _ _ _ _
    (λ d p q. λ s. bare_down a.geometry.now (pieces a.geometry.now d) a.inode.now a.level a.place _ _ _ (numbers_sized a.geometry.now c.requires.on.geometry) c.if-level-eq0.false p c.numbers_in_zone.ensures c.in-None.is q s)
    c.in_ok-block.ensures.reads c.in_ok-index.ensures.reads
