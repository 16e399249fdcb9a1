-- What calls tell the link that find nothing to write.
use Rattle.std.specs.Prelude.{◌≡◌, ℕ, List, ◌++◌, Some}
use Rattle.records.specs.Told.{Told}
use Rattle.records.specs.Settled.{PostsReads}
use Rattle.reissue.specs.Moves.{Begun}
use Rattle.reissue.specs.Entries.{pending_of}
use Rattle.cache.specs.Edits.{AllClean}
use Rattle.cache.specs.Calls.{AbstractCache}

-- no frame is changed, and no write is pending
pub record IsSettled (c : AbstractCache) : Type 0 where
  pub clean : AllClean c.held
  pub no_write : (t : ℕ) (r : Begun) (bytes : List ℕ) → pending_of c.table.pending t ≡ Some r → r.written ≡ Some bytes → ⊥

-- so it is still, and each request that the link was told of since is a read
pub record LooksOn (a b : AbstractCache) : Type 0 where
  pub settled : IsSettled b
  pub told : List Told
  pub history : b.told ≡ told ++ a.told
  pub reads : PostsReads told

-- where it was so before
abbrev pub Looks : AbstractCache → AbstractCache → Type 0
Looks a b = IsSettled a → LooksOn a b
