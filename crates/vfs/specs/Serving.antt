-- A server over a cache, by the geometry of its volume, its cache and its open files.
use Rattle.std.specs.Prelude.{◌≡◌, ◌≤◌, ℕ, ◌+◌, List, length, Bool, false, IsTrue}
use Rattle.layout.specs.declared.Geometry.{Geometry}
use Rattle.layout.specs.Places.{IsGeometry}
use Rattle.tree.specs.declared.Who.{Who}
use Rattle.tree.specs.declared.Call.{Call}
use Rattle.tree.specs.Tree.{Tree}
use Rattle.volume.specs.Reading.{Disk}
use Rattle.volume.specs.Holds.{HoldsVolume}
use Rattle.records.specs.Marks.{Mark, gave_up}
use Rattle.records.specs.Disk.{Contents, HasTrueReplies}
use Rattle.records.specs.Told.{took_end}
use Rattle.records.specs.Area.{area_of}
use Rattle.records.specs.Legal.{tree_after}
use Rattle.records.specs.ServerCall.{Serving}
use Rattle.records.specs.Settled.{only_looks}
use Rattle.reissue.specs.Agrees.{Agrees}
use Rattle.reissue.specs.Moves.{state_after}
use Rattle.reissue.specs.Rules.{outbox_of}
use Rattle.cache.specs.Calls.{AbstractCache, Keeps, IsReady, messages_left}
use Rattle.cache.specs.Frames.{CacheAgrees, frames_of}
use Rattle.cache.specs.Looking.{IsSettled, Looks}
use Rattle.cache.specs.Slots.{is_changed_held, is_dirty_held}
use Rattle.cached_blocks.specs.World.{Sees}
use Rattle.descriptors.specs.Files.{Files, HasFiles, is_busy}

-- calls may be made, on a cache for a volume of this geometry, which writes behind its first two blocks alone
pub record MayServe (g : Geometry) (c : AbstractCache) : Type 0 where
  pub geometry : IsGeometry g
  pub ready : IsReady c
  pub size : c.size ≡ g.block_size
  pub area : c.area ≡ area_of g c.area.minor
  pub ends : c.ended ≡ took_end c.told

-- what a server's fields say: its table of the record, its slots of the disk, its open files of the tree
pub record IsServer (g : Geometry) (c : AbstractCache) (f : Files) (image : Contents) (tree : Tree) (marks : List Mark) : Type 0 where
  pub table : Agrees c.table marks
  pub slots : HasTrueReplies image marks → CacheAgrees c.size c.held (state_after image marks)
  pub files : HasTrueReplies image marks → c.ended ≡ false → gave_up marks ≡ false → HasFiles f (tree_after g tree marks)

-- a server over a cache of so many frames, which wants a Flush or not, with these open files
abbrev pub server_of : Geometry → AbstractCache → ℕ → Bool → Files → Serving
server_of g c frames wanted f = record {
  geometry = g;
  minor = c.area.minor;
  Agrees = IsServer g c f;
  frames = frames_of c.size c.held;
  frame_count = frames;
  outbox = outbox_of c.table;
  is_busy = is_busy f;
  told = c.told;
  ended = c.ended;
  settled = IsSettled c;
  unwritten = λ block. is_dirty_held (c.held block);
  overtaken = λ block. is_changed_held (c.held block);
  wanted = wanted;
}

-- a call that only looks, of some tree that would be read back with these open files, finds nothing to write where nothing was left to write,
-- leaves what would be read back, and overtakes no block
abbrev pub LooksOver : Geometry → Who → Call → Files → AbstractCache → AbstractCache → Type 0
LooksOver g who call f a b =
    (d e : Disk) → Sees a b d e → (t : Tree) → HoldsVolume g d t → HasFiles f t → IsTrue (only_looks t who call)
    → Looks a b × Keeps a b

-- Messages were taken from those that were left, and each spent an id at most, as did those that were handed over.
pub record Spends (handed : ℕ) (old new : AbstractCache) : Type 0 where
  pub left : messages_left new ≤ messages_left old
  pub ids : new.table.ids + messages_left new + length old.table.pending ≤ old.table.ids + messages_left old + length new.table.pending + handed
