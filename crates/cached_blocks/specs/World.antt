-- What is said of the frames of a cache as blocks.
use Rattle.std.specs.Prelude.{◌≡◌, ◌++◌, List, None}
use Rattle.std.proofs.Common.{◌∙◌}
use Rattle.volume.specs.Reading.{Disk}
use Rattle.records.specs.Marks.{Mark}
use Rattle.records.specs.Told.{Told, grown}
use Rattle.records.specs.Disk.{Contents, HasTrueReplies}
use Rattle.reissue.specs.Agrees.{Agrees}
use Rattle.reissue.specs.Moves.{state_after}
use Rattle.reissue.specs.declared.link.Link.{Ghosts as LinkWords}
use Rattle.reissue.specs.Transfers.{link_of}
use Rattle.cache.specs.Calls.{AbstractCache, caching, frame_count, with_cache_link, Runs, Keeps, IsReady, IsLive, IsWhyCut, LinkGoesOn}
use Rattle.cache.specs.Looking.{IsSettled, Looks}
use Rattle.cache.specs.Frames.{CacheAgrees, IsWritable, frames_of, view}
use Rattle.block_store.specs.World.{World}
use Rattle.cached_blocks.specs.declared.Stored.{Stored}

-- calls lead from one cache to the other, and where the slots agreed with the disk they go on
abbrev pub Leads : AbstractCache → AbstractCache → Type 0
Leads a b = Runs None a b (λ w v. CacheAgrees a.size a.held w → CacheAgrees b.size b.held v)

-- over a record that the cache agrees with, whose replies are true, these would be read back before and after
pub record Sees (a b : AbstractCache) (d e : Disk) : Type 0 where
  pub image : Contents
  pub marks : List Mark
  pub told : List Told
  pub history : b.told ≡ told ++ a.told
  pub agrees : Agrees a.table marks
  pub true_replies : HasTrueReplies image (grown told marks)
  pub covered : CacheAgrees a.size a.held (state_after image marks)
  pub before : d ≡ view a.size a.held (state_after image marks)
  pub after : e ≡ view b.size b.held (state_after image (grown told marks))

-- calls lead from one to the other of things that have a cache, and this goes on
pub record LeadsOn {B : Type 0} (f : B → AbstractCache) (goes : B → B → Type 0) (a b : B) : Type 0 where
  pub runs : Leads (f a) (f b)
  pub on : goes a b

-- a call only looks: it finds nothing to write where nothing was left to write, and leaves what would be read back
pub record JustLooks (a b : AbstractCache) : Type 0 where
  pub looks : Looks a b
  pub keeps : IsReady a → Keeps a b

-- what is said of things that have one
abbrev pub world_by : {B : Type 0} → (B → AbstractCache) → (B → B → Type 0) → World B
world_by f goes = record {
  size = λ c. (f c).size;
  ready = λ c. IsReady (f c);
  leads = λ a b. LeadsOn f goes a b;
  sees = λ a b d e. Sees (f a) (f b) d e;
  frames = λ c. frames_of (f c).size (f c).held;
  over = λ c cut. IsWhyCut (f c) cut;
  live = λ c. IsLive (f c);
  synced = λ c. IsSettled (f c);
  looks = λ a b. JustLooks (f a) (f b);
  writable = λ c block. IsWritable (f c).area (f c).size block;
}

-- the cache that is stored
abbrev pub stored_caching : {L : Type 0} → LinkWords L → Stored L → AbstractCache
stored_caching words s = caching words s.cache

-- its link went on, and it may have as many frames
pub record GoesOn {L : Type 0} (words : LinkWords L) (a b : Stored L) : Type 0 where
  pub link : LinkGoesOn words a.cache b.cache
  pub frames : frame_count b.cache ≡ frame_count a.cache

-- so it is after two calls, if links are so
pub goes_joins : {L : Type 0} (words : LinkWords L) → ((k l m : L) → words.goes_on k l → words.goes_on l m → words.goes_on k m)
    → (a b c : Stored L) → GoesOn words a b → GoesOn words b c → GoesOn words a c
goes_joins words joins a b c x y = record {
  link = joins (link_of a.cache.transfers) (link_of b.cache.transfers) (link_of c.cache.transfers) x.link y.link;
  frames = y.frames ∙ x.frames;
}

-- the same over another link
abbrev pub with_stored_link : {L : Type 0} → Stored L → L → Stored L
with_stored_link s link = record s { cache = with_cache_link s.cache link }
