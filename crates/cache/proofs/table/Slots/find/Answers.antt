use Rattle.cache.proofs.Indexed.{placed_by, few_steps}
use Rattle.cache.proofs.table.Slots.find.Goals as goal

pub returns-clause-place : goal.returns-clause-place
returns-clause-place c =
    let s = c.args.self.now in
    placed_by s.index.entries.items s.items.items c.args.block c.find.result s.indexed c.find.ensures.place

pub returns-clause-cost : goal.returns-clause-cost
returns-clause-cost c =
    let s = c.args.self.now in
    few_steps s.index.entries.items s.items.items c.args.steps.now c.find.new.steps s.indexed s.few c.find.ensures.cost
