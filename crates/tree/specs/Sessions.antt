-- What sessions, names and bytes may rest on from call to call.
use Rattle.std.specs.Prelude.{◌≡◌, ◌≢◌, ℕ, ◌+◌, List, length, pos, true, Ok, Some}
use Rattle.std.specs.Borrow.{Bor}
use Rattle.std.specs.FinMap.Entries.{is_sorted}
use Rattle.layout.specs.declared.Geometry.{Geometry}
use Rattle.tree.specs.declared.PathFrom.{PathFrom}
use Rattle.tree.specs.declared.User.{User}
use Rattle.tree.specs.declared.Who.{Who}
use Rattle.tree.specs.declared.Whence.TheVariants.{Set}
use Rattle.tree.specs.declared.Call.{Call}
use Rattle.tree.specs.declared.Call.TheVariants.{Read, Write, Seek, Rename, Readdir}
use Rattle.tree.specs.Names.{name_cmp, inode_of}
use Rattle.tree.specs.Flags.{reads}
use Rattle.tree.specs.Tree.{Directory, is_directory, Node, OpenFile, Tree}
use Rattle.tree.specs.IsTree.{IsTree}
use Rattle.tree.specs.Walk.{Place, read_path, parent_walk, Way}
use Rattle.tree.specs.Changes.{open_file_of}
use Rattle.tree.specs.Answers.{Answer, some_bytes, wrote, names_are}
use Rattle.tree.specs.Effects.{user_of, effect_of, reply_to, tree_after_call}

-- No call of one session changes another's descriptors.
abbrev pub OtherSessionsStay : Type 0
OtherSessionsStay =
    (g : Geometry) (t : Tree) (who : Who) (now : ℕ) (call : Call) (session : ℕ) → session ≢ who.session
    → (tree_after_call g t who now call).descriptors session ≡ t.descriptors session

-- the last name of the path stands in its directory, and leads to node n
pub record IsNameOf (t : Tree) (user : User) (path : PathFrom) (n : ℕ) : Type 0 where
  pub parts : Way
  pub place : Place
  pub read : read_path path ≡ Ok parts
  pub walked : parent_walk t user parts ≡ Ok place
  pub found : inode_of place.names place.name ≡ Some n

-- A rename of one name of a node onto another of the same node changes nothing.
abbrev pub RenameOfSameStays : Type 0
RenameOfSameStays =
    (g : Geometry) (t : Tree) (who : Who) (now n : ℕ) (old new : PathFrom) → IsNameOf t (user_of who) old n → IsNameOf t (user_of who) new n
    → tree_after_call g t who now (Rename old new) ≡ t

-- The names of the directory that the descriptor leads to: each is less than all after it, so none stands twice.
pub record IsListing (t : Tree) (session fd : ℕ) (answer : Answer) : Type 0 where
  pub number : ℕ
  pub file : OpenFile
  pub node : Node
  pub directory : Directory
  pub opened : open_file_of t session fd ≡ Ok (number, file)
  pub there : t.nodes file.inode ≡ Some node
  pub body : node.body ≡ is_directory directory
  pub names : answer ≡ names_are directory.names
  pub sorted : is_sorted name_cmp directory.names ≡ true

-- A readdir that succeeds lists exactly the names, in the order of their bytes.
abbrev pub ReaddirLists : Type 0
ReaddirLists =
    (g : Geometry) (t : Tree) (who : Who) (now fd : ℕ) (made : Answer × Tree) → IsTree g t
    → effect_of g t who now (Readdir fd) ≡ Ok made → IsListing t who.session fd made.0

-- After a write, and a seek back to where its bytes begin, a read of so many bytes by the same descriptor gives them.
abbrev pub ReadGivesWritten : Type 0
ReadGivesWritten =
    (g : Geometry) (t after : Tree) (who : Who) (now later last fd at number : ℕ) (file : OpenFile) (bytes : Bor (List ℕ)) → IsTree g t
    → effect_of g t who now (Write fd bytes) ≡ Ok (wrote (length bytes.now), after)
    → open_file_of after who.session fd ≡ Ok (number, file) → reads file.flags ≡ true → file.position ≡ at + length bytes.now
    → reply_to g (tree_after_call g after who later (Seek fd Set (pos at))) who last (Read fd (length bytes.now)) ≡ some_bytes bytes.now
