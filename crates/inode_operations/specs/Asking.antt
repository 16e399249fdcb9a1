-- What a move asks of the tree before its first step.
use Rattle.std.specs.Prelude.{◌≡◌, ◌≢◌, ◌≤◌, ◌+◌, None, Some, IsTrue}
use Rattle.layout.specs.declared.Geometry.{Geometry}
use Rattle.layout.specs.Places.{IsGeometry}
use Rattle.lemmas.specs.Sums.{put}
use Rattle.tree.specs.Names.{inode_of, is_name, with_name}
use Rattle.tree.specs.Tree.{Node, Tree, is_dir, most_size, names_of, size_of}
use Rattle.tree.specs.Changes.{with_names}
use Rattle.tree.specs.Space.{data_zones}
use Rattle.zone.specs.Room.{taken_by}
use Rattle.inode_operations.specs.declared.moves.Move.{Move}
use Rattle.inode_operations.specs.Moves.{IsParent, MayTakeOut}
use Rattle.inode_operations.specs.Whole.{MayMoveTo, out_of}

-- The old name is there, another directory hasn't the new one, what moves is neither of the two, and the nodes fit with the new name in
-- place of the old.
pub record AsksMoveTo (g : Geometry) (m : Move) (t : Tree) : Type 0 where
  pub out : MayTakeOut m.from m.old.now t
  pub other : m.to ≢ m.from
  pub not_from : m.number ≢ m.from
  pub not_to : m.number ≢ m.to
  pub parent : Node
  pub is_parent : IsParent t m.to parent
  pub size : size_of parent.body + 64 ≤ most_size
  pub named : IsTrue (is_name m.new.now)
  pub free : inode_of (names_of (Some parent)) m.new.now ≡ None
  pub fits : taken_by g (put (out_of m t).nodes m.to (Some (with_names m.now (λ names. with_name names m.new.now m.number) parent))) ≤ data_zones g
  pub node : Node
  pub there : t.nodes m.number ≡ Some node
  pub kind : is_dir node ≡ m.is_directory
  pub some : m.number ≢ 0
  pub some_parent : m.to ≢ 0

-- then its steps may be made
abbrev pub MoveToMayBeMade : Type 0
MoveToMayBeMade = (g : Geometry) (m : Move) (t : Tree) → IsGeometry g → AsksMoveTo g m t → MayMoveTo g m t
