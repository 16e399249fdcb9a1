-- Blocks in the frames of a cache.
use Rattle.std.specs.Prelude.{◌≡◌, ℕ, ◌+◌, ◌<◌, ◌≤◌, ◌^◌, length, false}
use Rattle.std.proofs.Common.{refl}
use Rattle.message.specs.declared.Incoming.{Incoming}
use Rattle.volume.specs.Reading.{Disk}
use Rattle.reissue.specs.Room.{room_needed}
use Rattle.cache.specs.Frames.{IsWritable}
use Rattle.cache.specs.Looking.{IsSettled, Looks}
use Rattle.cache.specs.Calls.{AbstractCache, Keeps, IsReady, IsLive, IsWhyCut}
use Rattle.flusher.specs.Flushing.{WritesLowest, WritesInRuns, BeginsAll}
use Rattle.block_store.specs.declared.Cut.{Cut}
use Rattle.block_store.specs.World.{World}
use Rattle.cached_blocks.specs.World.{Leads, Sees, world_by}

-- what is said of blocks is said of a cache, and this goes on through their calls
pub record IsCached {B : Type 0} (w : World B) (f : B → AbstractCache) (goes : B → B → Type 0) : Type 0 where
  pub ready : (a : B) → IsReady (f a) → w.ready a
  pub size : (a : B) → w.size a ≡ (f a).size
  pub leads : (a b : B) → w.leads a b → Leads (f a) (f b)
  pub on : (a b : B) → w.leads a b → goes a b
  pub sees : (a b : B) (d e : Disk) → Sees (f a) (f b) d e → w.sees a b d e
  pub over : (a : B) (cut : Cut) → w.over a cut → IsWhyCut (f a) cut
  pub live : (a : B) → w.live a → IsLive (f a)
  pub synced : (a : B) → w.synced a → IsSettled (f a)
  pub looks : (a b : B) → w.looks a b → Looks (f a) (f b)
  pub keeps : (a b : B) → IsReady (f a) → w.looks a b → Keeps (f a) (f b)
  pub writable : (a : B) (block : ℕ) → IsWritable (f a).area (f a).size block → w.writable a block

-- so it is of blocks that are made of one
pub stored_is_cached : {B : Type 0} (f : B → AbstractCache) (goes : B → B → Type 0) → IsCached (world_by f goes) f goes
stored_is_cached f goes = record {
  ready = λ a x. x;
  size = λ a. refl;
  leads = λ a b x. x.runs;
  on = λ a b x. x.on;
  sees = λ a b d e x. x;
  over = λ a cut x. x;
  live = λ a x. x;
  synced = λ a x. x;
  looks = λ a b x. x.looks;
  keeps = λ a b r x. x.keeps r;
  writable = λ a block x. x;
}

-- a message may be handed over: an id and the link's room are left for it
pub record MayAbsorb (message : Incoming) (c : AbstractCache) : Type 0 where
  pub ids : c.table.ids < 2 ^ 60
  pub spare : c.ended ≡ false → c.table.ids + c.budget + 17 < 2 ^ 60 + length c.table.pending
  pub room : room_needed message ≤ c.room

-- the lowest dirty frames are begun to be written, in runs, until sixteen are, or no more can be
pub record Flushes (old new : AbstractCache) : Type 0 where
  pub issued : WritesLowest 16 old.held new.held
  pub runs : WritesInRuns 16 old new
  pub stuck : IsLive new → BeginsAll 16 old.held new
