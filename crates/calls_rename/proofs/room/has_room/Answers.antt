use Rattle.std.proofs.Common.{◌<◌, rules}
use mathlib.Core.Logic.{inl, inr}
use Rattle.block_store.proofs.Turns.{reads_as, reads_none, reads_then}
use Rattle.block_store.proofs.Ending.{ends_cut_exit, ends_exit}
use Rattle.calls_rename.proofs.Telling.{has_number, no_room, not_past, not_short, room_told}
use Rattle.calls_rename.proofs.room.has_room.Goals as goal

pub returns-in_err-more-clause-reads : goal.returns-in_err-more-clause-reads
returns-in_err-more-clause-reads g c =
    let a = c.args in
    reads_as _ _ _ _ _ (λ d p. ends_exit _ _ _ _ _ _ c.from_residual.ensures.1 (has_number a.geometry.now d a.asked.now c.requires.on.geometry) p) c.in_err-more.ensures.reads

pub returns-in_err-free-clause-reads : goal.returns-in_err-free-clause-reads
returns-in_err-free-clause-reads g c =
    reads_then _ g.met.B.Blocks.lawful _ _ _ _ _ _ (λ d p q. ends_cut_exit _ _ _ _ c.from_residual-in_err-free.ensures.1)
    c.in_ok-more.ensures.reads c.in_err-free.ensures.reads

pub returns-clause-reads : goal.returns-clause-reads
returns-clause-reads g c =
    let a = c.args in
    reads_then _ g.met.B.Blocks.lawful _ _ _ _ _ _
    (λ d p q. room_told a.geometry.now d a.asked.now c.let_go-back.result c.in_ok-more.more c.in_ok-free.free c.from.result c.from-2.result c.from-3.result c.requires.on.geometry
    c.from.ensures c.from-2.ensures c.from-3.ensures c.let_go-back.ensures p q)
    c.in_ok-more.ensures.reads c.in_ok-free.ensures.reads

pub returns-then-old-lt64-clause-reads : goal.returns-then-old-lt64-clause-reads
returns-then-old-lt64-clause-reads g c =
    let a = c.args in
    reads_none _ g.met.B.Blocks.lawful _ _ c.requires.on.ready (λ d. elim c.then-old-lt64.either [
      | inl short ↦ not_short a.geometry.now d a.asked.now c.requires.on.geometry short
      | inr past ↦ not_past a.geometry.now d a.asked.now c.requires.on.geometry past.1
    ])

pub returns-then-new-clause-reads : goal.returns-then-new-clause-reads
returns-then-new-clause-reads g c =
    let a = c.args in
    let long : 2147483583 < a.asked.now.to.size = search rules in
    reads_none _ g.met.B.Blocks.lawful _ _ c.requires.on.ready (λ d. no_room a.geometry.now d a.asked.now c.requires.on.geometry long)
