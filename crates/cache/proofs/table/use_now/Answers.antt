use Rattle.std.proofs.Common.{refl}
use Rattle.std.proofs.lemmas.Option.{slice_get_read}
use Rattle.cache.proofs.Turns.{but_used, rank_set}
use Rattle.cache.proofs.table.use_now.Goals as goal

pub returns-else-touch-clause-ranked : goal.returns-else-touch-clause-ranked
returns-else-touch-clause-ranked c =
    let items = c.args.items.now in
    let new = c.touch.new.self.numbers.items in
    let keys = c.args.winners.now.keys.items in
    rank_set items new keys _ c.args.at _ c.number.result c.index-items-at.result
    (but_used items c.args.uses.now.numbers.items new keys c.args.at c.if-touch.ensures.others c.requires.others)
    (slice_get_read items _ c.args.at c.index-items-at.result refl c.requires.at c.index-items-at.is) c.number.ensures.number c.eviction_rank-key.ensures
    c.set.ensures
