use Rattle.std.proofs.Common.{refl, sym}
use Rattle.std.proofs.lemmas.Option.{slice_get_read, slice_get_within}
use Rattle.cache.proofs.Entries.{rises, place_at, none_at_gap}
use Rattle.cache.proofs.index.Index.find.Goals as goal

pub returns-in-Ok-clause-place : goal.returns-in-Ok-clause-place
returns-in-Ok-clause-place c =
    let es = c.args.self.now.entries.items in
    let found = c.in-Ok.ensures.found in
    let is = slice_get_read es _ c.in-Ok.at c.index.result.now refl (slice_get_within es c.in-Ok.at found.entry found.is) c.index.ensures in
    sym (place_at 0 es c.in-Ok.at c.args.block c.index.result.now (rises es c.args.self.now.rising) found is)

pub returns-in-Err-clause-place : goal.returns-in-Err-clause-place
returns-in-Err-clause-place c = sym (none_at_gap c.args.self.now.entries.items c.in-Err.field-0 c.args.block c.in-Err.ensures.missing)
