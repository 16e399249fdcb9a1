-- Messages that are left, and ids for them.
use Rattle.message.specs.declared.Incoming.{Incoming}
use Rattle.cache.specs.Calls.{AbstractCache, HandsOver}
use Rattle.cache.proofs.Runs.{same_left, ids_kept}
use Rattle.cached_blocks.specs.World.{Leads}
use Rattle.vfs.specs.Serving.{Spends}

-- where nothing happened
pub spends_none : (a : AbstractCache) → Spends 0 a a
spends_none a = record { left = same_left _; ids = ids_kept _ _ _ }

-- in a call
pub spends_on : (a b : AbstractCache) → Leads a b → Spends 0 a b
spends_on a b x = record { left = x.left; ids = x.ids }

-- on a message that is handed over
pub spends_handed : (m : Incoming) (a b : AbstractCache) → HandsOver m a b → Spends 1 a b
spends_handed m a b x = record { left = x.runs.left; ids = x.runs.ids }
