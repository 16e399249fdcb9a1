-- The inode table of a volume.
use Rattle.std.specs.Prelude.{ℕ}
use Rattle.lemmas.specs.Sums.{put}
use Rattle.volume.specs.declared.Inode.{Inode}
use Rattle.volume.specs.Pieces.{Pieces}

-- pieces with this inode
abbrev pub with_inode : Pieces → ℕ → Inode → Pieces
with_inode v n i = record v { inodes = put v.inodes n i }
