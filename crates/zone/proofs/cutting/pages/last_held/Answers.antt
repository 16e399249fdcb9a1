use Rattle.std.proofs.Common.{sym, subst}
use Rattle.volume.specs.declared.Inode.{Inode}
use Rattle.volume.specs.Pieces.{pieces}
use Rattle.volume.proofs.Volumes.{numbers_sized}
use Rattle.block_store.proofs.Turns.{reads_then, reads_as}
use Rattle.zone.specs.CutFiles.{IsFull}
use Rattle.zone.specs.Slots.{IsLastSlot}
use Rattle.std.specs.Prelude.{Option}
use Rattle.block_store.proofs.Ending.{ends_exit}
use Rattle.zone.proofs.Last.{slot_stands, held_last, none_held}
use Rattle.zone.proofs.cutting.pages.last_held.Goals as goal

pub returns-in_err-last_below-in-Some-clause-reads : goal.returns-in_err-last_below-in-Some-clause-reads
returns-in_err-last_below-in-Some-clause-reads g c =
    let a = c.args in
    reads_then _ g.met.B.Blocks.lawful _ _ _ _ _ _
    (λ d p q. ends_exit _ _ _ _ _ _ c.from_residual-in_err-last_below-in-Some.ensures.1
    (λ s. (
      slot_stands a.geometry.now (pieces a.geometry.now d) c.in_ok-loaded.loaded c.in-Some.slot _ _ (numbers_sized a.geometry.now c.requires.on.geometry) c.top_place-level.ensures.page c.top_place-level.ensures.block
          (subst (λ (y : Option _). IsLastSlot c.in_ok-loaded.loaded y) c.in-Some.is c.last_slot.ensures),
      subst (λ (y : Inode). IsFull a.geometry.now (pieces a.geometry.now d) y) (sym p) s.1,
    )) q)
    c.in_ok-loaded.ensures.reads c.in_err-last_below-in-Some.ensures.reads

pub returns-in_ok-last_below-in-Some-clause-reads : goal.returns-in_ok-last_below-in-Some-clause-reads
returns-in_ok-last_below-in-Some-clause-reads g c =
    let a = c.args in
    reads_then _ g.met.B.Blocks.lawful _ _ _ _ _ _
    (λ d p q. held_last a.geometry.now (pieces a.geometry.now d) c.in_ok-loaded.loaded _ _ p
    (q (slot_stands a.geometry.now (pieces a.geometry.now d) c.in_ok-loaded.loaded c.in-Some.slot _ _ (numbers_sized a.geometry.now c.requires.on.geometry) c.top_place-level.ensures.page c.top_place-level.ensures.block
    (subst (λ (y : Option _). IsLastSlot c.in_ok-loaded.loaded y) c.in-Some.is c.last_slot.ensures))))
    c.in_ok-loaded.ensures.reads c.in_ok-last_below-in-Some.ensures.reads

pub returns-in-None-clause-reads : goal.returns-in-None-clause-reads
returns-in-None-clause-reads g c =
    let a = c.args in
    reads_as _ _ _ _ _ (λ d p. none_held a.geometry.now (pieces a.geometry.now d) c.in_ok-loaded.loaded _ _ (numbers_sized a.geometry.now c.requires.on.geometry) p c.last_slot.ensures c.in-None.is) c.in_ok-loaded.ensures.reads
