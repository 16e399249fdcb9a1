-- What the bytes of a volume's range hold, as they lie in memory.
use Rattle.std.specs.Prelude.{◌≡◌, ◌≢◌, ◌⊎◌, ◌<◌, ◌≤◌, ℕ, List, length, slice_index, Ok, Err}
use Rattle.layout.specs.declared.Geometry.{Geometry}
use Rattle.layout.specs.declared.LayoutRefusal.TheVariants.{DoesNotFit}
use Rattle.layout.specs.Places.{geometry_of}
use Rattle.tree.specs.Tree.{Tree}
use Rattle.volume.specs.Verdict.{Clean, Found, verdict_of}
use Rattle.records.specs.Opening.{Opening, opening_range, volume_bytes}
use Rattle.records.specs.Legal.{IsAtFirst}
use Rattle.volume_mount.specs.declared.whole.MountRefusal.{MountRefusal}
use Rattle.volume_mount.specs.declared.whole.MountRefusal.TheVariants.{Layout, Inconsistent, OutOfMemory, Eio}

-- the bytes of the volume's range as they were handed in
abbrev pub bytes_at : Opening → List ℕ
bytes_at v = volume_bytes (opening_range v) v.media

-- The bytes begin with a whole volume of these sizes, which is clean: it holds a tree, in which no file is open.
pub record HoldsTree (bytes : List ℕ) (g : Geometry) : Type 0 where
  pub parsed : geometry_of bytes ≡ Ok g
  pub clean : verdict_of bytes ≡ Clean
  pub tree : Tree
  pub at_first : IsAtFirst g (slice_index bytes) tree

-- Why they don't. `Eio` where the volume passes their end, so wherever they aren't as long as a boot block and a superblock; else
-- `Layout` by the superblock, or what the check finds. For want of memory whatever they are.
abbrev pub IsUnfit : List ℕ → MountRefusal → Type 0
IsUnfit bytes Eio = (length bytes < 2048) ⊎ (geometry_of bytes ≡ Err DoesNotFit)
IsUnfit bytes (Layout refusal) = (2048 ≤ length bytes) × (geometry_of bytes ≡ Err refusal) × (refusal ≢ DoesNotFit)
IsUnfit bytes (Inconsistent finding) = ((g : Geometry) × (geometry_of bytes ≡ Ok g)) × (verdict_of bytes ≡ Found finding)
IsUnfit bytes OutOfMemory = Unit {0}
IsUnfit bytes _ = ⊥
