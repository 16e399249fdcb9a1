-- Open files and descriptors as lists.
use Rattle.std.specs.Prelude.{◌≡◌, ◌≤◌, ◌<◌, ℕ, List, [], length, Option, None, Some, Result, Ok, Err, is_some, IsTrue, slice_index_or}
use Rattle.errno.specs.declared.Errno.{Errno}
use Rattle.tree.specs.Tree.{OpenFile, most_sessions, most_descriptors, most_open_files, most_size}
use Rattle.descriptors.specs.Files.{Files}

-- the open file at each number, and the number at each descriptor of each session
pub record Table : Type 0 where
  pub opened : List (Option OpenFile)
  pub sessions : List (List (Option ℕ))

-- the descriptors of a session
abbrev pub session_at : Table → ℕ → List (Option ℕ)
session_at t s = slice_index_or t.sessions s []

-- the open file at a number
abbrev pub opened_at : Table → ℕ → Option OpenFile
opened_at t k = slice_index_or t.opened k None

-- the number at a descriptor
abbrev pub number_at : Table → ℕ → ℕ → Option ℕ
number_at t s fd = slice_index_or (session_at t s) fd None

-- the open files and descriptors that they are
abbrev pub files_of : Table → Files
files_of t = record { opened = opened_at t; descriptors = number_at t }

-- Lists of the right lengths; descriptors lead to open files, those of two sessions to different ones, and each open file has one.
pub record IsTable (t : Table) : Type 0 where
  pub files : length t.opened ≡ most_open_files
  pub sessions : length t.sessions ≡ most_sessions
  pub each : (s : ℕ) → s < most_sessions → length (session_at t s) ≡ most_descriptors
  pub leads : (s fd k : ℕ) → number_at t s fd ≡ Some k → IsTrue (is_some (opened_at t k))
  pub own : (s r fd gd k : ℕ) → number_at t s fd ≡ Some k → number_at t r gd ≡ Some k → s ≡ r
  pub in_use : (k : ℕ) → IsTrue (is_some (opened_at t k)) → (s : ℕ) × (fd : ℕ) × (number_at t s fd ≡ Some k)
  pub positions : (k : ℕ) (o : OpenFile) → opened_at t k ≡ Some o → o.position ≤ most_size

-- what a call gave and what is open then, or its refusal
abbrev pub told : {A : Type 0} → Result A Errno → Table → Result (A × Files) Errno
told (Ok x) t = Ok (x, files_of t)
told (Err e) t = Err e
