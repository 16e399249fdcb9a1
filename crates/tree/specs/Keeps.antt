-- The calls that keep a tree a tree.
use Rattle.std.specs.Prelude.{◌<◌, ◌^◌, ℕ, ℤ, List}
use Rattle.std.specs.Borrow.{Bor}
use Rattle.std.specs.List.{All}
use Rattle.layout.specs.declared.Geometry.{Geometry}
use Rattle.layout.specs.Places.{IsGeometry}
use Rattle.tree.specs.declared.PathFrom.{PathFrom}
use Rattle.tree.specs.declared.Who.{Who}
use Rattle.tree.specs.declared.Whence.{Whence}
use Rattle.tree.specs.declared.OpenFlags.{OpenFlags}
use Rattle.tree.specs.declared.Call.{Call}
use Rattle.tree.specs.declared.Call.TheVariants.{Chmod, Chown, Utime, Seek, Read, Dup, Close, Write, Truncate, Unlink, Link, Mkdir, Rmdir}
use Rattle.tree.specs.declared.Call.TheVariants.{Open, Rename, Symlink}
use Rattle.tree.specs.IsCall.{IsBytes, IsCall, IsCaller}
use Rattle.tree.specs.Tree.{Tree}
use Rattle.tree.specs.IsTree.{IsTree}
use Rattle.tree.specs.Effects.{tree_after_call}

-- The calls that set attributes keep a tree a tree.
abbrev pub ChmodKeeps : Type 0
ChmodKeeps =
    (g : Geometry) (t : Tree) (who : Who) (now mode : ℕ) (path : PathFrom) → now < 2 ^ 32
    → IsTree g t → IsTree g (tree_after_call g t who now (Chmod path mode))

abbrev pub ChownKeeps : Type 0
ChownKeeps =
    (g : Geometry) (t : Tree) (who : Who) (now uid gid : ℕ) (path : PathFrom) → now < 2 ^ 32 → uid < 2 ^ 16 → gid < 2 ^ 16
    → IsTree g t → IsTree g (tree_after_call g t who now (Chown path uid gid))

abbrev pub UtimeKeeps : Type 0
UtimeKeeps =
    (g : Geometry) (t : Tree) (who : Who) (now atime mtime : ℕ) (path : PathFrom) → now < 2 ^ 32 → atime < 2 ^ 32 → mtime < 2 ^ 32
    → IsTree g t → IsTree g (tree_after_call g t who now (Utime path atime mtime))

-- The calls on open files.
abbrev pub SeekKeeps : Type 0
SeekKeeps =
    (g : Geometry) (t : Tree) (who : Who) (now fd : ℕ) (whence : Whence) (offset : ℤ)
    → IsTree g t → IsTree g (tree_after_call g t who now (Seek fd whence offset))

abbrev pub ReadKeeps : Type 0
ReadKeeps = (g : Geometry) (t : Tree) (who : Who) (now fd count : ℕ) → IsTree g t → IsTree g (tree_after_call g t who now (Read fd count))

abbrev pub DupKeeps : Type 0
DupKeeps = (g : Geometry) (t : Tree) (who : Who) (now fd : ℕ) → IsTree g t → IsTree g (tree_after_call g t who now (Dup fd))

abbrev pub CloseKeeps : Type 0
CloseKeeps = (g : Geometry) (t : Tree) (who : Who) (now fd : ℕ) → IsTree g t → IsTree g (tree_after_call g t who now (Close fd))

-- of bytes below 256, as those of a slice are
abbrev pub WriteKeeps : Type 0
WriteKeeps =
    (g : Geometry) (t : Tree) (who : Who) (now fd : ℕ) (bytes : Bor (List ℕ)) → 0 < g.block_size → now < 2 ^ 32 → All (λ b. b < 256) bytes.now
    → IsTree g t → IsTree g (tree_after_call g t who now (Write fd bytes))

abbrev pub TruncateKeeps : Type 0
TruncateKeeps =
    (g : Geometry) (t : Tree) (who : Who) (now size : ℕ) (path : PathFrom) → now < 2 ^ 32
    → IsTree g t → IsTree g (tree_after_call g t who now (Truncate path size))

-- The calls on names.
abbrev pub UnlinkKeeps : Type 0
UnlinkKeeps =
    (g : Geometry) (t : Tree) (who : Who) (now : ℕ) (path : PathFrom) → now < 2 ^ 32
    → IsTree g t → IsTree g (tree_after_call g t who now (Unlink path))

abbrev pub LinkKeeps : Type 0
LinkKeeps =
    (g : Geometry) (t : Tree) (who : Who) (now : ℕ) (old new : PathFrom) → IsGeometry g → now < 2 ^ 32 → IsBytes new.bytes.now
    → IsTree g t → IsTree g (tree_after_call g t who now (Link old new))

abbrev pub MkdirKeeps : Type 0
MkdirKeeps =
    (g : Geometry) (t : Tree) (who : Who) (now : ℕ) (path : PathFrom) (mode : ℕ) → IsGeometry g → IsCaller who → now < 2 ^ 32 → IsBytes path.bytes.now
    → IsTree g t → IsTree g (tree_after_call g t who now (Mkdir path mode))

abbrev pub RmdirKeeps : Type 0
RmdirKeeps =
    (g : Geometry) (t : Tree) (who : Who) (now : ℕ) (path : PathFrom) → now < 2 ^ 32
    → IsTree g t → IsTree g (tree_after_call g t who now (Rmdir path))

-- Open keeps a tree a tree, of what is there and of what it makes.
abbrev pub OpenKeeps : Type 0
OpenKeeps =
    (g : Geometry) (t : Tree) (who : Who) (now : ℕ) (path : PathFrom) (flags : OpenFlags) (mode : ℕ) → IsGeometry g → IsCaller who → now < 2 ^ 32 → IsBytes path.bytes.now
    → IsTree g t → IsTree g (tree_after_call g t who now (Open path flags mode))

abbrev pub RenameKeeps : Type 0
RenameKeeps =
    (g : Geometry) (t : Tree) (who : Who) (now : ℕ) (old new : PathFrom) → IsGeometry g → now < 2 ^ 32 → IsBytes new.bytes.now
    → IsTree g t → IsTree g (tree_after_call g t who now (Rename old new))

abbrev pub SymlinkKeeps : Type 0
SymlinkKeeps =
    (g : Geometry) (t : Tree) (who : Who) (now : ℕ) (target : Bor (List ℕ)) (path : PathFrom) → IsGeometry g → IsCaller who → now < 2 ^ 32
    → IsBytes target.now → IsBytes path.bytes.now
    → IsTree g t → IsTree g (tree_after_call g t who now (Symlink target path))

-- Every client call keeps a tree a tree.
abbrev pub EveryCallKeeps : Type 0
EveryCallKeeps =
    (g : Geometry) (t : Tree) (who : Who) (now : ℕ) (call : Call) → IsGeometry g → IsCaller who → now < 2 ^ 32 → IsCall call
    → IsTree g t → IsTree g (tree_after_call g t who now call)
