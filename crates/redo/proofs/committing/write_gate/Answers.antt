use Rattle.std.proofs.Common.{[], ◌∷◌}
use Rattle.stable.specs.declared.Which.TheVariants.{Log}
use Rattle.stable.specs.Disk.{Write, Sync}
use Rattle.redo.specs.Plans.{to_gate}
use Rattle.redo.proofs.Left.{all_left, last_part, step_done, part_stops}
use Rattle.redo.proofs.committing.write_gate.Goals as goal

pub returns-in_err-write : goal.returns-in_err-write
returns-in_err-write g c =
    let gate = c.args.gate.now in
    let at = c.args.at in
    part_stops (to_gate at gate) (Write Log at (gate ∷ []) ∷ []) (Sync Log ∷ []) _ _ _ c.from_residual.result c.from_residual.ensures.0
    (all_left (to_gate at gate) (g.S.Storage.known c.args.storage.now)) c.in_err-write.ensures

pub returns : goal.returns
returns g c =
    let gate = c.args.gate.now in
    let at = c.args.at in
    last_part (to_gate at gate) (Sync Log ∷ []) _ _ _ c.sync.result
    (step_done (to_gate at gate) (Write Log at (gate ∷ [])) (Sync Log ∷ []) _ _ _ (all_left (to_gate at gate) (g.S.Storage.known c.args.storage.now)) c.in_ok-write.ensures) c.sync.ensures
