use Rattle.cache.proofs.Entries.{start_found, start_missing}
use Rattle.cache.proofs.index.Index.start.Goals as goal

pub returns-in-Ok : goal.returns-in-Ok
returns-in-Ok c = start_found c.args.self.now.entries.items c.in-Ok.at c.args.block c.args.self.now.rising c.in-Ok.ensures.found

pub returns-in-Err : goal.returns-in-Err
returns-in-Err c = start_missing c.args.self.now.entries.items c.in-Err.at c.args.block c.in-Err.ensures.missing
