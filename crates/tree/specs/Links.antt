-- What symbolic links are.
use Rattle.std.specs.Prelude.{◌≡◌, ◌≢◌, ◌≤◌, ◌<◌, ℕ, List, length, slice_index, Some, IsTrue}
use Rattle.layout.specs.declared.Geometry.{Geometry}
use Rattle.layout.specs.Places.{IsGeometry}
use Rattle.tree.specs.declared.User.{User}
use Rattle.tree.specs.Tree.{is_file, Node, Tree, target_of, most_target}
use Rattle.tree.specs.IsTree.{IsTree}
use Rattle.tree.specs.Changes.{no_bytes, target_file, new_link, file_after_write}

-- A link that is made has the target that it was made with.
abbrev pub LinkHasTarget : Type 0
LinkHasTarget = (now : ℕ) (user : User) (target : List ℕ) → target_of (Some (new_link now user target)) ≡ Some target

-- Its bytes are the target written into an empty file.
abbrev pub TargetIsWritten : Type 0
TargetIsWritten =
    (g : Geometry) (target : List ℕ) → IsGeometry g → 1 ≤ length target → length target ≤ most_target
    → file_after_write g no_bytes 0 target ≡ target_file target

-- A link of a tree is a target of 1 to 1023 bytes, none of them zero, and nothing else: the target alone says its bytes and its pages.
abbrev pub LinkIsItsTarget : Type 0
LinkIsItsTarget =
    (g : Geometry) (t : Tree) (n : ℕ) (node : Node) → IsGeometry g → IsTree g t → t.nodes n ≡ Some node → IsTrue node.symbolic
    → (target : List ℕ) × ((1 ≤ length target) × (length target ≤ most_target) × ((p : ℕ) → p < length target → slice_index target p ≢ 0))
    × (node.body ≡ is_file (target_file target))
