-- The calls of a tree on its open files.
use Rattle.std.proofs.Common.{◌≡◌, ℕ, refl, ap, Option, Some, None, Result, Ok, Err, Bool, true, false}
use Rattle.std.specs.Prelude.{if◌then◌else◌}
use Rattle.errno.specs.declared.Errno.{Errno}
use Rattle.errno.specs.declared.Errno.TheVariants.{EBADF, EMFILE}
use Rattle.tree.specs.Tree.{Tree, OpenFile, with_descriptor, with_open_file, has_descriptor, most_descriptors}
use Rattle.tree.specs.Refusals.{◌>>=◌, or_refuse, free_place}
use Rattle.tree.specs.Changes.{open_file_of, without_unused, without_nameless, at_position}
use Rattle.tree.specs.Answers.{Effect, descriptor, done}
use Rattle.descriptors.specs.Files.{Files, files_in, tree_with, with_files, let_go}
use Rattle.descriptors.specs.Laws.{PutIsOpen, DupIsDup, CloseIsClose, FileIsFound, MovedIsMoved, OpenIsOpen}

-- open
pub put_is_open : PutIsOpen
put_is_open t session inode flags = refl

-- dup, by what is found and what the search answers
abbrev dup_with : Tree → ℕ → Result (ℕ × OpenFile) Errno → Result ℕ Errno → Effect
dup_with t session a b = a >>= λ found. b >>= λ other. Ok (descriptor other, with_descriptor t session other (Some found.0))

abbrev dup_files : Tree → ℕ → Result (ℕ × OpenFile) Errno → Result ℕ Errno → Result (ℕ × Files) Errno
dup_files t session a b = a >>= λ found. b >>= λ other. Ok (other, files_in (with_descriptor (tree_with (files_in t)) session other (Some found.0)))

-- the answer and the tree with these files
abbrev answered : Tree → Result (ℕ × Files) Errno → Effect
answered t r = r >>= λ made. Ok (descriptor made.0, with_files t made.1)

same_dup : (t : Tree) (session : ℕ) (a : Result (ℕ × OpenFile) Errno) (b : Result ℕ Errno) → dup_with t session a b ≡ answered t (dup_files t session a b)
same_dup t session (Err e) b = refl
same_dup t session (Ok found) (Err e) = refl
same_dup t session (Ok found) (Ok other) = refl

pub dup_is_dup : DupIsDup
dup_is_dup t session fd = same_dup t session (open_file_of t session fd) (free_place (t.descriptors session) most_descriptors EMFILE)

-- an open file that may go, of the tree and of its open files
same_unused : (t : Tree) (session fd k : ℕ) (b : Bool)
    → (if b then with_descriptor t session fd None else with_open_file (with_descriptor t session fd None) k None)
    ≡ with_files t (files_in (if b then with_descriptor (tree_with (files_in t)) session fd None else with_open_file (with_descriptor (tree_with (files_in t)) session fd None) k None))
same_unused t session fd k true = refl
same_unused t session fd k false = refl

-- close, by what is found
abbrev close_with : Tree → ℕ → ℕ → Result (ℕ × OpenFile) Errno → Effect
close_with t session fd a = a >>= λ found. Ok (done, without_nameless (without_unused (with_descriptor t session fd None) found.0) found.1.inode)

abbrev close_files : Tree → ℕ → ℕ → Result (ℕ × OpenFile) Errno → Result (Option ℕ × Files) Errno
close_files t session fd a = a >>= λ found. let after = with_descriptor (tree_with (files_in t)) session fd None in Ok (let_go after found.0 found.1, files_in (without_unused after found.0))

abbrev closed : Tree → Result (ℕ × OpenFile) Errno → Result (Option ℕ × Files) Errno → Effect
closed t a r = a >>= λ found. r >>= λ made. Ok (done, without_nameless (with_files t made.1) found.1.inode)

same_close : (t : Tree) (session fd : ℕ) (a : Result (ℕ × OpenFile) Errno)
    → close_with t session fd a ≡ closed t a (close_files t session fd a)
same_close t session fd (Err e) = refl
same_close t session fd (Ok found) =
    ap (λ (u : Tree). Ok (done, without_nameless u found.1.inode)) (same_unused t session fd found.0 (has_descriptor (with_descriptor t session fd None) found.0))

pub close_is_close : CloseIsClose
close_is_close t session fd = same_close t session fd (open_file_of t session fd)

-- the open file of a descriptor, by its number
abbrev found_by : Option ℕ → (ℕ → Option OpenFile) → Result (ℕ × OpenFile) Errno
found_by n f = or_refuse n EBADF >>= λ k. or_refuse (f k) EBADF >>= λ o. Ok (k, o)

-- what is found, if anything
abbrev file_in : Result (ℕ × OpenFile) Errno → Option OpenFile
file_in a = elim a [ Ok found ↦ Some found.1 | Err e ↦ None ]

-- the open file alone
abbrev file_alone : Result (ℕ × OpenFile) Errno → Result OpenFile Errno
file_alone a = a >>= λ found. Ok found.1

same_found : (n : Option ℕ) (f : ℕ → Option OpenFile) → or_refuse (file_in (found_by n f)) EBADF ≡ file_alone (found_by n f)
same_found None f = refl
same_found (Some k) f = go (f k)
  where
    go : (o : Option OpenFile) → or_refuse (file_in (or_refuse o EBADF >>= λ p. Ok (k, p))) EBADF ≡ file_alone (or_refuse o EBADF >>= λ p. Ok (k, p))
    go None = refl
    go (Some p) = refl

pub file_is_found : FileIsFound
file_is_found t session fd = same_found (t.descriptors session fd) t.open_files

-- the open files after a move, by what is found
abbrev moved_by : Tree → ℕ → Result (ℕ × OpenFile) Errno → Files
moved_by t place a = elim a [ Ok found ↦ files_in (at_position (tree_with (files_in t)) found.0 found.1 place) | Err e ↦ files_in t ]

abbrev moved_tree : Tree → ℕ → Result (ℕ × OpenFile) Errno → Result Tree Errno
moved_tree t place a = a >>= λ found. Ok (at_position t found.0 found.1 place)

abbrev moved_files : Tree → Files → Result (ℕ × OpenFile) Errno → Result Tree Errno
moved_files t f a = a >>= λ found. Ok (with_files t f)

same_moved : (t : Tree) (place : ℕ) (a : Result (ℕ × OpenFile) Errno) → moved_tree t place a ≡ moved_files t (moved_by t place a) a
same_moved t place (Err e) = refl
same_moved t place (Ok found) = refl

pub moved_is_moved : MovedIsMoved
moved_is_moved t session fd place = same_moved t place (open_file_of t session fd)

pub open_is_open : OpenIsOpen
open_is_open t inode = refl
