use Rattle.std.proofs.Common.{sym, subst}
use Rattle.block_store.proofs.Turns.{turns_then, ends_as}
use Rattle.block_store.proofs.Ending.{ends_exit, turns_three}
use Rattle.zone.proofs.Taking.{number_dropped}
use Rattle.zone.proofs.steps.drop_number.Goals as goal

pub returns-in_err-set_number-clause-turns : goal.returns-in_err-set_number-clause-turns
returns-in_err-set_number-clause-turns g c =
    turns_then _ g.met.B.Blocks.lawful _ _ _ _ _ _ (λ d e f p q. ends_exit _ _ _ _ _ _ c.from_residual-in_err-set_number.ensures.1 (λ t. t.names) q)
    c.in_ok-zone.ensures.reads.turns c.in_err-set_number.ensures.turns

pub returns-clause-turns : goal.returns-clause-turns
returns-clause-turns g c =
    let v = c.args.geometry.now in
    turns_three _ g.met.B.Blocks.lawful _ _ _ _ _ _ _ _
    (λ d e f h p a r. ends_as c.give.result _ _ _ _ (λ x b. number_dropped v d e f h c.args.block c.args.index c.in_ok-zone.zone p.0 p.1 a b)
    (λ t. subst (λ y. Rattle.std.specs.Prelude.IsTrue (Rattle.volume.specs.Reading.is_data_zone v y)) (sym p.1) t.zone) r)
    c.in_ok-zone.ensures.reads.turns c.in_ok-set_number.ensures.turns c.give.ensures.turns
