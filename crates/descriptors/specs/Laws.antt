-- The calls on open files are those of the file tree.
use Rattle.std.specs.Prelude.{◌≡◌, ℕ, Ok}
use Rattle.errno.specs.declared.Errno.TheVariants.{EBADF, EMFILE, ENFILE}
use Rattle.tree.specs.Tree.{Tree, is_open, most_descriptors, most_open_files}
use Rattle.tree.specs.Refusals.{◌>>=◌, or_refuse, free_place}
use Rattle.tree.specs.Changes.{open_file_of, without_nameless, at_position}
use Rattle.tree.specs.Answers.{descriptor, done}
use Rattle.tree.specs.FileCalls.{with_open, dup, close}
use Rattle.descriptors.specs.Files.{put_file, dup_file, close_file, file_at, moved, files_in, tree_with, with_files}

-- what open does to them, after both searches
abbrev pub PutIsOpen : Type 0
PutIsOpen = (t : Tree) (session inode flags : ℕ)
    → (do
      fd ← free_place (t.descriptors session) most_descriptors EMFILE
      k ← free_place t.open_files most_open_files ENFILE
      Ok (fd, files_in (with_open t (record { session = session; fd = fd; number = k }) inode flags)))
    ≡ put_file (files_in t) session inode flags

-- dup
abbrev pub DupIsDup : Type 0
DupIsDup = (t : Tree) (session fd : ℕ)
    → dup t session fd ≡ (dup_file (files_in t) session fd >>= λ made. Ok (descriptor made.0, with_files t made.1))

-- close: where the open file goes and its node has no name, the node goes with the last open file of it
abbrev pub CloseIsClose : Type 0
CloseIsClose = (t : Tree) (session fd : ℕ)
    → close t session fd ≡ (do
      found ← open_file_of t session fd
      made ← close_file (files_in t) session fd
      Ok (done, without_nameless (with_files t made.1) found.1.inode))

-- the open file of a descriptor
abbrev pub FileIsFound : Type 0
FileIsFound = (t : Tree) (session fd : ℕ)
    → or_refuse (file_at (files_in t) session fd) EBADF ≡ (open_file_of t session fd >>= λ found. Ok found.1)

-- its position
abbrev pub MovedIsMoved : Type 0
MovedIsMoved = (t : Tree) (session fd place : ℕ)
    → (open_file_of t session fd >>= λ found. Ok (at_position t found.0 found.1 place))
    ≡ (open_file_of t session fd >>= λ found. Ok (with_files t (moved (files_in t) session fd place)))

-- and whether a node is open
abbrev pub OpenIsOpen : Type 0
OpenIsOpen = (t : Tree) (inode : ℕ) → is_open (tree_with (files_in t)) inode ≡ is_open t inode
