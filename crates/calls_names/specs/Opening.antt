-- A node is readied, and then opened.
use Rattle.std.specs.Prelude.{◌≡◌, ◌≤◌, ℕ, Bool, Result, Ok, Err, IsTrue, is_some}
use Rattle.errno.specs.declared.Errno.{Errno}
use Rattle.layout.specs.declared.Geometry.{Geometry}
use Rattle.tree.specs.declared.PathFrom.{PathFrom}
use Rattle.tree.specs.declared.User.{User}
use Rattle.tree.specs.Tree.{Tree}
use Rattle.tree.specs.Refusals.{◌>>=◌}
use Rattle.tree.specs.Walk.{Way, is_there, open_look_up, read_path}
use Rattle.tree.specs.Answers.{Answer, Effect, descriptor}
use Rattle.tree.specs.FileCalls.{Slot, open_found, with_open}
use Rattle.volume.specs.Reading.{Disk}
use Rattle.descriptors.specs.Files.{Files, HasFiles, files_in, put_file}
use Rattle.path.specs.declared.place.Found.{Found}
use Rattle.path.specs.declared.place.Found.TheVariants as found
use Rattle.path.specs.Places.{Finds}
use Rattle.inode_operations.specs.Stands.{Stands}
use Rattle.calls_names.specs.Asking.{only_makes}

-- open from the path on, where the slot of the open file is known
abbrev pub open_named : Geometry → Tree → User → ℕ → PathFrom → ℕ → ℕ → Slot → Effect
open_named g t user now path flags mode slot = do
  way ← read_path path
  found ← open_look_up t user (only_makes flags) way
  open_found g t user now slot flags mode found

-- A path finds this node for open.
pub record IsFoundToOpen (t : Tree) (user : User) (as_is : Bool) (way : Way) (n : ℕ) : Type 0 where
  pub found : open_look_up t user as_is way ≡ Ok (is_there n)
  pub there : IsTrue (is_some (t.nodes n))

-- the node, or the place where a name is missing, or the refusal of the walk
abbrev pub FindsToOpen : Geometry → Disk → Tree → User → Bool → Way → Result Found Errno → Type 0
FindsToOpen g d t user as_is way (Ok (found.There n)) = IsFoundToOpen t user as_is way n
FindsToOpen g d t user as_is way (Ok (found.Missing p)) = Finds g d t user way (Ok (found.Missing p))
FindsToOpen g d t user as_is way (Err e) = open_look_up t user as_is way ≡ Err e

-- The call opens node n in every slot, in a tree whose nodes the volume has; as yet the same is open as before.
pub record IsReady (g : Geometry) (t : Tree) (call : Slot → Effect) (flags : ℕ) (d e : Disk) (n : ℕ) : Type 0 where
  pub tree : Tree
  pub opens : (slot : Slot) → call slot ≡ Ok (descriptor slot.fd, with_open tree slot n flags)
  pub files : HasFiles (files_in t) tree
  pub within : n ≤ g.inodes
  pub stands : Stands g d e tree.nodes

-- The call is refused for this in every slot, and nothing is changed.
pub record IsRefused (call : Slot → Effect) (d e : Disk) (errno : Errno) : Type 0 where
  pub same : e ≡ d
  pub refused : (slot : Slot) → call slot ≡ Err errno

-- the node's number, or the refusal
abbrev pub Readies : Geometry → Tree → (Slot → Effect) → ℕ → Disk → Disk → Result ℕ Errno → Type 0
Readies g t call flags d e (Ok n) = IsReady g t call flags d e n
Readies g t call flags d e (Err errno) = IsRefused call d e errno

-- the same of the node that was found at a number, whatever the mode
abbrev pub ReadiesThere : Geometry → Tree → User → ℕ → ℕ → ℕ → Disk → Disk → Result (Unit {0}) Errno → Type 0
ReadiesThere g t user now n flags d e (Ok x) = (mode : ℕ) → IsReady g t (λ slot. open_found g t user now slot flags mode (is_there n)) flags d e n
ReadiesThere g t user now n flags d e (Err errno) = (mode : ℕ) → IsRefused (λ slot. open_found g t user now slot flags mode (is_there n)) d e errno

-- A session's lowest free descriptor leads to the node, and this is open then.
pub record IsPut (f : Files) (session n flags : ℕ) (answer : Answer) (h : Files) : Type 0 where
  pub fd : ℕ
  pub answers : answer ≡ descriptor fd
  pub put : put_file f session n flags ≡ Ok (fd, h)
