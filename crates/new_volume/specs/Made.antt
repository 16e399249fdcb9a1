-- What a new volume is.
use Rattle.std.specs.Prelude.{◌≡◌, ℕ, ◌*◌, List, length, Ok, Err, IsOk}
use Rattle.layout.specs.declared.Geometry.{Geometry}
use Rattle.layout.specs.Places.{geometry_of}
use Rattle.tree.specs.declared.User.{User}
use Rattle.tree.specs.Laws.{fresh_tree}
use Rattle.volume.specs.Reading.{disk_of}
use Rattle.volume.specs.Pieces.{pieces}
use Rattle.volume.specs.Fresh.{fresh_pieces}
use Rattle.volume.specs.Verdict.{verdict_of, Clean, HoldsClosed}
use Rattle.new_volume.specs.declared.MkfsRefusal.{MkfsRefusal}
use Rattle.new_volume.specs.declared.MkfsRefusal.TheVariants.{OutOfMemory}
use Rattle.new_volume.specs.Sizes.{sizes_of}
use Rattle.new_volume.specs.Image.{new_image}
use Rattle.new_volume.specs.Owned.{owned_pieces, owned_tree, user_0}

-- The image is that of a new volume: exactly its bytes, which are read as its sizes, say the pieces of a new volume, hold the root
-- alone, and are clean.
pub record IsNewVolume (blocks block_size inodes now : ℕ) (image : List ℕ) : Type 0 where
  pub volume : Geometry
  pub sizes : sizes_of blocks block_size inodes ≡ Ok volume
  pub bytes : image ≡ new_image volume now user_0
  pub whole : length image ≡ blocks * block_size
  pub parsed : geometry_of image ≡ Ok volume
  pub pieces : pieces volume (disk_of volume image) ≡ fresh_pieces volume now
  pub held : HoldsClosed image (fresh_tree now)
  pub clean : verdict_of image ≡ Clean

-- The same of a volume whose root belongs to this owner.
pub record IsOwnedVolume (blocks block_size inodes now : ℕ) (owner : User) (image : List ℕ) : Type 0 where
  pub volume : Geometry
  pub sizes : sizes_of blocks block_size inodes ≡ Ok volume
  pub bytes : image ≡ new_image volume now owner
  pub whole : length image ≡ blocks * block_size
  pub parsed : geometry_of image ≡ Ok volume
  pub pieces : pieces volume (disk_of volume image) ≡ owned_pieces volume now owner
  pub held : HoldsClosed image (owned_tree now owner)
  pub clean : verdict_of image ≡ Clean

-- why there is no image: the sizes are refused, or they aren't and there is no memory
abbrev pub IsRefused : ℕ → ℕ → ℕ → MkfsRefusal → Type 0
IsRefused blocks block_size inodes OutOfMemory = IsOk (sizes_of blocks block_size inodes)
IsRefused blocks block_size inodes refusal = sizes_of blocks block_size inodes ≡ Err refusal
