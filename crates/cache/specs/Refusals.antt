-- The numbers of refusals.
use Rattle.std.specs.Prelude.{ℕ}
use Rattle.cache.specs.declared.refusals.CacheRefusal.{CacheRefusal}
use Rattle.cache.specs.declared.refusals.CacheRefusal.TheVariants as cache

-- why no cache was made
abbrev pub cache_refusal_number : CacheRefusal → ℕ
cache_refusal_number cache.BadFrames = 1
cache_refusal_number cache.OutOfMemory = 2
