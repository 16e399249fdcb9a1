use Rattle.std.proofs.Common.{◌≡◌, rules, arith, subst}
use Rattle.volume.specs.Pieces.{pieces}
use Rattle.block_store.proofs.Turns.{turns_none, turns_as, turns_then}
use Rattle.zone.specs.CutFiles.{IsLastFrom}
use Rattle.block_store.proofs.Ending.{ends_exit, turns_three}
use Rattle.zone.proofs.CuttingLaws.{going_none, still_full, past_none, may_release, going_on, gone_all, end_past, found_from, none_from, none_left}
use Rattle.zone.proofs.cutting.pages.detach_from.Goals as goal

pub loop-held-init : goal.loop-held-init
loop-held-init g c = (
  let f = c.ranges.page.fits in omega (arith, f),
  turns_as _ _ _ _ _ (λ d e h. going_none c.args.geometry.now c.args.inode 4294967295 d e c.requires.on.geometry (omega arith) h)
      (turns_none _ g.met.B.Blocks.lawful _ c.requires.on.ready),
)

pub returns-in_err-held-clause-turns : goal.returns-in_err-held-clause-turns
returns-in_err-held-clause-turns g c =
    let a = c.args in
    turns_then _ g.met.B.Blocks.lawful _ _ _ _ _ _
    (λ d e f p q. ends_exit _ _ _ _ _ _ c.from_residual.ensures.1 (λ may. still_full a.geometry.now c.requires.on.geometry a.inode c.loop-held.end 0 d e e p may) q.1)
    c.loop-held.invariant.1 c.in_err-held.ensures.reads.turns

pub returns-then-held-end-clause-turns : goal.returns-then-held-end-clause-turns
returns-then-held-end-clause-turns g c =
    let a = c.args in
    turns_then _ g.met.B.Blocks.lawful _ _ _ _ _ _
    (λ d e f p q. λ may. end_past a.geometry.now c.requires.on.geometry a.inode c.loop-held.end c.in-Some.held d e p (found_from a.geometry.now e a.inode a.page _ _ c.in-Some.is (q.1 (past_none a.geometry.now c.requires.on.geometry a.inode c.loop-held.end 0 d e e p may))) c.if-held-end.true may)
    c.loop-held.invariant.1 c.in_ok-held.ensures.reads.turns

pub returns-in_err-release-clause-turns : goal.returns-in_err-release-clause-turns
returns-in_err-release-clause-turns g c =
    let a = c.args in
    turns_three _ g.met.B.Blocks.lawful _ _ _ _ _ _ _ _
    (λ d e x f p q r. ends_exit _ _ _ _ _ _ c.from_residual-in_err-release.ensures.1
    (λ may. subst (λ y. Rattle.zone.specs.Pages.MayRelease a.geometry.now (pieces a.geometry.now y) a.inode 0 c.in-Some.held) (Rattle.std.proofs.Common.sym q.0)
    (may_release a.geometry.now c.requires.on.geometry a.inode c.loop-held.end c.in-Some.held d e e p may (found_from a.geometry.now e a.inode a.page _ _ c.in-Some.is (q.1 (past_none a.geometry.now c.requires.on.geometry a.inode c.loop-held.end 0 d e e p may))))) r)
    c.loop-held.invariant.1 c.in_ok-held.ensures.reads.turns c.in_err-release.ensures.turns

pub loop-held-preserved : goal.loop-held-preserved
loop-held-preserved g c =
    let a = c.args in (
      search rules,
      turns_three _ g.met.B.Blocks.lawful _ _ _ _ _ _ _ _
          (λ d e x f p q r. going_on a.geometry.now c.requires.on.geometry a.inode c.loop-held.end c.in-Some.held d e f p c.if-held-end.false
          (λ may. found_from a.geometry.now e a.inode a.page _ _ c.in-Some.is (q.1 (past_none a.geometry.now c.requires.on.geometry a.inode c.loop-held.end 0 d e e p may)))
          (subst (λ y. Rattle.zone.specs.Pages.Releases a.geometry.now a.inode 0 c.in-Some.held y f) q.0 r))
          c.loop-held.invariant.1 c.in_ok-held.ensures.reads.turns c.in_ok-release.ensures.turns,
    )

pub returns-clause-turns : goal.returns-clause-turns
returns-clause-turns g c =
    let a = c.args in
    turns_then _ g.met.B.Blocks.lawful _ _ _ _ _ _
    (λ d e f p q. subst (λ y. Rattle.zone.specs.CutFiles.DetachesFrom a.geometry.now a.inode a.page d y) (Rattle.std.proofs.Common.sym q.0)
    (gone_all a.geometry.now c.requires.on.geometry a.inode c.loop-held.end a.page d e e p c.loop-held.invariant.0 (λ may. none_from a.geometry.now e a.inode a.page _ (none_left _ c.in_default.not-Some) (q.1 (past_none a.geometry.now c.requires.on.geometry a.inode c.loop-held.end 0 d e e p may)))))
    c.loop-held.invariant.1 c.in_ok-held.ensures.reads.turns
