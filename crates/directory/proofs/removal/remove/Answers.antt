use Rattle.std.proofs.Common.{sym, subst}
use Rattle.volume.specs.Pieces.{pieces}
use Rattle.block_store.proofs.Turns.{turns_as, turns_then, ends_as}
use Rattle.block_store.proofs.Ending.{ends_exit, turns_three}
use Rattle.directory.specs.Removal.{Drops, MayDrop}
use Rattle.directory.proofs.Removing.{may_drop, may_stamp, removed}
use Rattle.directory.proofs.removal.remove.Goals as goal

pub returns-in_err-place-clause-turns : goal.returns-in_err-place-clause-turns
returns-in_err-place-clause-turns g c =
    turns_as _ _ _ _ _ (λ d e p. ends_exit _ _ _ _ _ _ c.from_residual.ensures.1 (λ t. t) p.1) c.in_err-place.ensures.reads.turns

pub returns-in_err-drop_entry-clause-turns : goal.returns-in_err-drop_entry-clause-turns
returns-in_err-drop_entry-clause-turns g c =
    let v = c.args.geometry.now in
    let n = c.args.directory in
    let place = c.in_ok-place.place in
    turns_then _ g.met.B.Blocks.lawful _ _ _ _ _ _
    (λ d e f p q. ends_exit _ _ _ _ _ _ c.from_residual-in_err-drop_entry.ensures.1
    (λ t. subst (λ x. MayDrop v (pieces v x) n place) (sym p.0) (may_drop v (pieces v d) n place c.args.name.now p.1 t)) q)
    c.in_ok-place.ensures.reads.turns c.in_err-drop_entry.ensures.turns

pub returns-clause-turns : goal.returns-clause-turns
returns-clause-turns g c =
    let v = c.args.geometry.now in
    let n = c.args.directory in
    let place = c.in_ok-place.place in
    turns_three _ g.met.B.Blocks.lawful _ _ _ _ _ _ _ _
    (λ d e f h p q r.
    let drops = subst (λ x. Drops v n place x f) p.0 q in
    ends_as _ _ _ _ _ (λ x stamps. removed v n place c.args.name.now c.args.now d f h p.1 drops stamps)
    (λ t. may_stamp v n place c.args.name.now d f p.1 drops t) r)
    c.in_ok-place.ensures.reads.turns c.in_ok-drop_entry.ensures.turns c.stamp.ensures.turns
