use Rattle.std.proofs.Common.{◌≡◌, refl, sym, subst, [], ◌∷◌, Option, Some, false}
use Rattle.stable.specs.declared.Which.TheVariants.{Log}
use Rattle.stable.specs.Disk.{Contents, Sync}
use Rattle.stable.specs.Runs.{Known, now, Knows, ShowsLog}
use Rattle.redo.specs.Plans.{recover_plan, to_recover}
use Rattle.redo.specs.Record.{standing}
use Rattle.redo.proofs.Left.{all_left, part_stops, last_part, step_done}
use Rattle.redo.proofs.Reading.{shows_synced}
use Rattle.redo.proofs.recovering.recover_by_plan.Goals as goal

-- at first the log shows what it shows
shows_first : (o : Option Known) (k : Known) → o ≡ Some k → (now k).log.failed ≡ false → Knows (ShowsLog (now k).log.shows) o
shows_first o k is sound = subst (Knows (ShowsLog (now k).log.shows)) (sym is) (sound, λ n. refl)

pub returns-in_err-sync-clause-follows : goal.returns-in_err-sync-clause-follows
returns-in_err-sync-clause-follows g c k is sound =
    let log : Contents = (now k).log.shows in
    let plan = recover_plan c.args.name log in
    part_stops plan (Sync Log ∷ []) (to_recover (standing c.args.name log) (log 0)) _ _ _ c.from_residual.result c.from_residual.ensures.0
    (all_left plan (g.S.Storage.known c.args.storage.now)) c.in_err-sync.ensures

pub returns-clause-follows : goal.returns-clause-follows
returns-clause-follows g c k is sound =
    let log : Contents = (now k).log.shows in
    let plan = recover_plan c.args.name log in
    let rest = to_recover (standing c.args.name log) (log 0) in
    last_part plan rest _ _ _ c.act.result
    (step_done plan (Sync Log) rest _ _ _ (all_left plan (g.S.Storage.known c.args.storage.now)) c.in_ok-sync.ensures)
    (c.act.ensures.follows log (shows_synced log _ _ c.in_ok-sync.ensures (shows_first (g.S.Storage.known c.args.storage.now) k is sound)))

pub returns-clause-answer : goal.returns-clause-answer
returns-clause-answer g c k is sound =
    c.act.ensures.answer (now k).log.shows (shows_synced (now k).log.shows _ _ c.in_ok-sync.ensures (shows_first (g.S.Storage.known c.args.storage.now) k is sound))
