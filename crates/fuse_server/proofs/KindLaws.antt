-- Answers that requests may have.
use Rattle.std.proofs.Common.{◌≡◌, ℕ, List, true, false, refl}
use Rattle.std.specs.Borrow.{Bor}
use Rattle.fuse.specs.declared.request.Request.{Request}
use Rattle.fuse.specs.declared.request.Request.TheVariants as request
use Rattle.fuse_nodes.specs.Known.{Known}
use Rattle.talks.specs.declared.refused.Refused.{Refused}
use Rattle.fuse_server.specs.declared.said.FuseAnswer.TheVariants as answer_of
use Rattle.fuse_server.specs.declared.said.Said.{Said}
use Rattle.fuse_server.specs.declared.said.Said.TheVariants as said
use Rattle.fuse_server.specs.Kinds.{IsFor, IsSaidTo, IsOfSync, IsOfLookup, is_sync}

-- a refusal is an answer to each request
pub refusal_for : (k : Known) (r : Request) (e : Refused) → IsFor k r (answer_of.Refused e)
refusal_for k (request.Lookup name) e = refl
refusal_for k r e = refl

pub unknown_for : (k : Known) (r : Request) → IsFor k r answer_of.Unknown
unknown_for k (request.Lookup name) = refl
unknown_for k r = refl

-- what is said to a sync is said to its request
pub sync_for : (k : Known) (r : Request) (it : Said) → is_sync r ≡ true → IsOfSync it → IsSaidTo k r it
sync_for k (request.Fsync handle flags) (said.Plain a) e h = h
sync_for k (request.Fsync handle flags) said.Synced e h = refl
sync_for k (request.Fsync handle flags) said.Missing e h = absurd h
sync_for k (request.Fsyncdir handle flags) (said.Plain a) e h = h
sync_for k (request.Fsyncdir handle flags) said.Synced e h = refl
sync_for k (request.Fsyncdir handle flags) said.Missing e h = absurd h
sync_for k r it e h = absurd (never e) where
  never : false ≡ true → ⊥
  never e = cc

-- what is said to a LOOKUP is said to its request
pub lookup_for : (k : Known) (name : Bor (List ℕ)) (it : Said) → IsOfLookup k it → IsSaidTo k (request.Lookup name) it
lookup_for k name (said.Plain a) h = h
lookup_for k name said.Synced h = absurd h
lookup_for k name said.Missing h = refl
