use Rattle.std.proofs.Common.{sym, ap, subst}
use Rattle.volume.specs.Nodes.{slot}
use Rattle.block_store.proofs.Turns.{turns_then, ends_as}
use Rattle.block_store.proofs.Ending.{ends_exit, turns_three}
use Rattle.zone.proofs.Taking.{slot_dropped}
use Rattle.zone.proofs.steps.drop_slot.Goals as goal

pub returns-in_err-store-clause-turns : goal.returns-in_err-store-clause-turns
returns-in_err-store-clause-turns g c =
    turns_then _ g.met.B.Blocks.lawful _ _ _ _ _ _ (λ d e f p q. ends_exit _ _ _ _ _ _ c.from_residual-in_err-store.ensures.1 (λ t. t.inode) q)
    c.in_ok-changed.ensures.reads.turns c.in_err-store.ensures.turns

pub returns-clause-turns : goal.returns-clause-turns
returns-clause-turns g c =
    let v = c.args.geometry.now in
    turns_three _ g.met.B.Blocks.lawful _ _ _ _ _ _ _ _
    (λ d e f h p a r. ends_as c.give.result _ _ _ _ (λ x b. slot_dropped v d e f h c.args.inode c.args.slot _ c.in_ok-changed.changed p.0 p.1 (λ _. slot c.in_ok-changed.changed c.args.slot) a b)
    (λ t. subst (λ y. Rattle.std.specs.Prelude.IsTrue (Rattle.volume.specs.Reading.is_data_zone v y)) (sym (ap (λ i. slot i c.args.slot) p.1)) t.zone) r)
    c.in_ok-changed.ensures.reads.turns c.in_ok-store.ensures.turns c.give.ensures.turns
