-- What a migration comes to.
use Rattle.std.specs.Prelude.{◌≡◌, ℕ, ◌*◌, List, length, ◌++◌, false, not, nat_lt, if◌then◌else◌, Option, None, Some, Result, Ok, Err}
use Rattle.std.specs.Prelude.{codes, decimal}
use Rattle.layout.specs.declared.Geometry.{Geometry}
use Rattle.layout.specs.Places.{geometry_of}
use Rattle.tree.specs.Tree.{Tree}
use Rattle.volume.specs.Reading.{disk_of}
use Rattle.volume.specs.Pieces.{Pieces, pieces}
use Rattle.volume.specs.Text.{finding_text}
use Rattle.volume.specs.Verdict.{Verdict, Clean, Found, verdict_of, HoldsClosed}
use Rattle.image.specs.declared.Image.{Image}
use Rattle.image.specs.Contents.{contents}
use Rattle.new_volume.specs.Sizes.{sizes_of}
use Rattle.migrate.specs.declared.old_volume.superblock.OldRefusal.{OldRefusal}
use Rattle.migrate.specs.Superblock.{old_geometry_of, old_refusal_number}
use Rattle.fsck.specs.Form.{version_2}
use Rattle.fsck.specs.Nodes.{nodes_of}
use Rattle.migrate.specs.Holds.{HoldsOld}
use Rattle.migrate.specs.Verdict.{old_verdict_of}
use Rattle.migrate.specs.Used.{has_room}
use Rattle.migrate.specs.declared.refusal.MigrateRefusal.{MigrateRefusal}
use Rattle.migrate.specs.declared.refusal.MigrateRefusal.TheVariants.{OldLayout, Found as FoundOld, TooManyBlocks, DoesNotFit, OutOfMemory}

-- why an old image with these sizes and this verdict isn't migrated
abbrev pub refusal_past : Geometry → List ℕ → ℕ → Verdict → Option MigrateRefusal
refusal_past g old blocks (Found finding) = Some (FoundOld finding)
refusal_past g old blocks Clean =
    if nat_lt 65536 blocks then Some TooManyBlocks else
    if not (has_room g (pieces g (disk_of g old)) blocks) then Some DoesNotFit else
    None

-- the same of what its superblock comes to
abbrev pub refusal_from : List ℕ → ℕ → Result Geometry OldRefusal → Option MigrateRefusal
refusal_from old blocks (Err refusal) = Some (OldLayout refusal)
refusal_from old blocks (Ok g) = refusal_past g old blocks (old_verdict_of g old)

-- Why an old image isn't migrated to so many blocks: the first of four refusals that holds, or none.
abbrev pub refusal_of : List ℕ → ℕ → Option MigrateRefusal
refusal_of old blocks = refusal_from old blocks (old_geometry_of old)

-- No refusal holds: the old image is clean, read as version 2, and its tree fits. The new one has the sizes of a new volume of so many
-- blocks of 1024 bytes with the old one's inodes, and it is clean. One tree without open files is held by both, each read as its version.
pub record IsMigrated (old : List ℕ) (blocks : ℕ) (image : List ℕ) : Type 0 where
  pub old_geometry : Geometry
  pub parsed : old_geometry_of old ≡ Ok old_geometry
  pub old_clean : old_verdict_of old_geometry old ≡ Clean
  pub unrefused : refusal_of old blocks ≡ None
  pub geometry : Geometry
  pub sizes : sizes_of blocks 1024 old_geometry.inodes ≡ Ok geometry
  pub whole : length image ≡ 1024 * blocks
  pub read : geometry_of image ≡ Ok geometry
  pub tree : Tree
  pub held_old : HoldsOld old tree
  pub held : HoldsClosed image tree
  pub clean : verdict_of image ≡ Clean

-- The new image has these sizes, is clean, holds a tree without open files, and says the old one's nodes.
pub record IsConfirmed (old : Image) (sizes : Geometry) (image : List ℕ) : Type 0 where
  pub read : geometry_of image ≡ Ok sizes
  pub tree : Tree
  pub held : HoldsClosed image tree
  pub nodes : tree.nodes ≡ nodes_of version_2 old.geometry (contents old)
  pub clean : verdict_of image ≡ Clean

-- why there is no new image: the first refusal that holds; or, with this superblock, no memory
abbrev pub IsRefused : List ℕ → ℕ → MigrateRefusal → Type 0
IsRefused old blocks OutOfMemory = (g : Geometry) × (old_geometry_of old ≡ Ok g)
IsRefused old blocks refusal = refusal_of old blocks ≡ Some refusal

-- why a new volume isn't begun: it has no room for the old one's tree, or there is no memory
abbrev pub IsCramped : Geometry → Pieces → ℕ → MigrateRefusal → Type 0
IsCramped g v blocks DoesNotFit = has_room g v blocks ≡ false
IsCramped g v blocks OutOfMemory = Unit {0}
IsCramped g v blocks _ = ⊥

-- the text of a refusal
abbrev pub refusal_text : MigrateRefusal → List ℕ
refusal_text (OldLayout refusal) = codes "migrate refusal 1 at " ++ decimal (old_refusal_number refusal)
refusal_text (FoundOld finding) = codes "migrate refusal 2 " ++ finding_text finding
refusal_text TooManyBlocks = codes "migrate refusal 3"
refusal_text DoesNotFit = codes "migrate refusal 4"
refusal_text OutOfMemory = codes "migrate refusal 5"
