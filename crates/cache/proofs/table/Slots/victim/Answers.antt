use Rattle.cache.proofs.Turns.{victim_goes, numbers_in}
use Rattle.cache.proofs.table.Slots.victim.Goals as goal

pub returns-clause-chosen : goal.returns-clause-chosen
returns-clause-chosen c =
    let s = c.args.self.now in
    victim_goes s.items.items s.uses.numbers.items s.winners.keys.items c.first.result s.ranked
    (numbers_in s.uses.numbers.items s.uses.next s.uses.below s.uses.bound) s.paired c.first.ensures
