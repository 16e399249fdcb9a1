-- Blocks in memory: one after the other in a list of bytes.
use Rattle.std.specs.Prelude.{◌≡◌, ℕ, ◌+◌, ◌*◌, List, length, take, drop, Option, Some, None, nat_lt, nat_le, if◌then◌else◌, slice_index}
use Rattle.volume.specs.Reading.{Disk}
use Rattle.block_store.specs.declared.Cut.TheVariants as cut
use Rattle.block_store.specs.World.{World}
use Rattle.block_store.specs.declared.memory.Memory.{Memory}

-- the disk whose blocks of so many bytes stand in a list
abbrev pub disk_in : ℕ → List ℕ → Disk
disk_in size image block o = if nat_lt o size then slice_index image (block * size + o) else 0

-- the bytes of a block, where the list has all of them
abbrev pub frame_in : ℕ → List ℕ → ℕ → Option (List ℕ)
frame_in size image block = if nat_le (block * size + size) (length image) then Some (take size (drop (block * size) image)) else None

-- what is said of blocks in memory: what is read back are their bytes, and a call is cut, as a device that was given up, past the last
abbrev pub memory_world : World Memory
memory_world = record {
  size = λ m. m.block_size;
  ready = λ m. Unit {0};
  leads = λ a b. b.block_size ≡ a.block_size;
  sees = λ a b d e. (d ≡ disk_in a.block_size a.image.items) × (e ≡ disk_in b.block_size b.image.items);
  frames = λ m. frame_in m.block_size m.image.items;
  over = λ m c. c ≡ cut.Eio;
  live = λ m. Unit {0};
  synced = λ m. Unit {0};
  looks = λ a b. b ≡ a;
  writable = λ m block. Unit {0};
}
