use Rattle.std.proofs.Common.{sym, ◌∙◌}
use Rattle.cache.proofs.Settled.{set_under, set_not}
use Rattle.cache.proofs.table.Slots.settle_at.Goals as goal

pub returns-then-is_under-clause-set : goal.returns-then-is_under-clause-set
returns-then-is_under-clause-set c =
    set_under c.args.ticket _ _ c.args.at _ c.get-slot.result.now c.get-slot.ensures (sym c.is_under.ensures ∙ c.if-is_under.true)
    c.written.ensures c.set_state.ensures.set

pub returns-else-is_under-clause-set : goal.returns-else-is_under-clause-set
returns-else-is_under-clause-set c =
    set_not c.args.ticket _ c.args.at c.get-slot.result.now c.get-slot.ensures (sym c.is_under.ensures ∙ c.if-is_under.false)
