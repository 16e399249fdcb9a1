-- Open files by number, and for each session the open file of each descriptor; what calls do to them.
use Rattle.std.specs.Prelude.{◌≡◌, ◌≤◌, ◌<◌, ℕ, Bool, Option, None, Some, Result, Ok, Err, is_some, IsTrue, if◌then◌else◌}
use Rattle.errno.specs.declared.Errno.{Errno}
use Rattle.errno.specs.declared.Errno.TheVariants.{EMFILE, ENFILE}
use Rattle.lemmas.specs.Sums.{some_below}
use Rattle.tree.specs.Tree.{OpenFile, Tree, has_descriptor, with_descriptor, most_sessions, most_descriptors, most_open_files, most_size}
use Rattle.tree.specs.Refusals.{◌>>=◌, free_place}
use Rattle.tree.specs.Changes.{open_file_of, without_unused, at_position}
use Rattle.tree.specs.FileCalls.{with_open}

-- The open files and the descriptors of a tree.
pub record Files : Type 0 where
  pub opened : ℕ → Option OpenFile
  pub descriptors : ℕ → ℕ → Option ℕ

-- those of this tree
abbrev pub files_in : Tree → Files
files_in t = record { opened = t.open_files; descriptors = t.descriptors }

-- the tree with these
abbrev pub with_files : Tree → Files → Tree
with_files t f = record t { open_files = f.opened; descriptors = f.descriptors }

-- a tree of no nodes with these
abbrev pub tree_with : Files → Tree
tree_with f = record { nodes = λ n. None; open_files = f.opened; descriptors = f.descriptors }

-- the tree has these
pub record HasFiles (f : Files) (t : Tree) : Type 0 where
  pub opened : t.open_files ≡ f.opened
  pub descriptors : t.descriptors ≡ f.descriptors

-- whether some file is open
abbrev pub is_busy : Files → Bool
is_busy f = some_below (λ k. is_some (f.opened k)) most_open_files

-- a new open file, at position 0: its descriptor, and what is open then
abbrev pub put_file : Files → ℕ → ℕ → ℕ → Result (ℕ × Files) Errno
put_file f session inode flags = do
  fd ← free_place (f.descriptors session) most_descriptors EMFILE
  k ← free_place f.opened most_open_files ENFILE
  Ok (fd, files_in (with_open (tree_with f) (record { session = session; fd = fd; number = k }) inode flags))

-- whether there is a descriptor and a number for it
abbrev pub room_for_file : Files → ℕ → Result (Unit {0}) Errno
room_for_file f session = do
  fd ← free_place (f.descriptors session) most_descriptors EMFILE
  k ← free_place f.opened most_open_files ENFILE
  Ok tt

-- one descriptor more for an open file: the descriptor, and what is open then
abbrev pub dup_file : Files → ℕ → ℕ → Result (ℕ × Files) Errno
dup_file f session fd = do
  found ← open_file_of (tree_with f) session fd
  other ← free_place (f.descriptors session) most_descriptors EMFILE
  Ok (other, files_in (with_descriptor (tree_with f) session other (Some found.0)))

-- the inode of an open file that no descriptor leads to any more
abbrev pub let_go : Tree → ℕ → OpenFile → Option ℕ
let_go t k o = if has_descriptor t k then None else Some o.inode

-- one descriptor less: the inode of the open file if that goes too, and what is open then
abbrev pub close_file : Files → ℕ → ℕ → Result (Option ℕ × Files) Errno
close_file f session fd = do
  found ← open_file_of (tree_with f) session fd
  let after = with_descriptor (tree_with f) session fd None in
      Ok (let_go after found.0 found.1, files_in (without_unused after found.0))

-- the open file to which a descriptor leads
abbrev pub file_at : Files → ℕ → ℕ → Option OpenFile
file_at f session fd = elim (open_file_of (tree_with f) session fd) [ Ok found ↦ Some found.1 | Err e ↦ None ]

-- what is open after the position of a descriptor's open file is set
abbrev pub moved : Files → ℕ → ℕ → ℕ → Files
moved f session fd place = elim (open_file_of (tree_with f) session fd) [
  | Ok found ↦ files_in (at_position (tree_with f) found.0 found.1 place)
  | Err e ↦ f
]

-- Descriptors lead to open files, and each open file has one; all keep their limits.
pub record AreFiles (f : Files) : Type 0 where
  pub numbers : (k : ℕ) → IsTrue (is_some (f.opened k)) → k < most_open_files
  pub positions : (k : ℕ) (o : OpenFile) → f.opened k ≡ Some o → o.position ≤ most_size
  pub descriptors : (s fd k : ℕ) → f.descriptors s fd ≡ Some k
      → (s < most_sessions) × (fd < most_descriptors) × IsTrue (is_some (f.opened k))
  pub in_use : (k : ℕ) → IsTrue (is_some (f.opened k)) → IsTrue (has_descriptor (tree_with f) k)
