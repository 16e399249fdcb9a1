-- Whole moves, by what each makes of a tree.
use Rattle.std.specs.Prelude.{◌≡◌, ◌≤◌, ℕ, None, Some, IsTrue}
use Rattle.layout.specs.declared.Geometry.{Geometry}
use Rattle.lemmas.specs.Sums.{one_if}
use Rattle.tree.specs.Names.{inode_of, is_name}
use Rattle.tree.specs.Tree.{Node, Tree, is_dir, names_of}
use Rattle.tree.specs.Walk.{Place}
use Rattle.tree.specs.NameCalls.{with_moved, without_moved}
use Rattle.inode_operations.specs.declared.moves.Move.{Move}
use Rattle.inode_operations.specs.Moves.{MayPutIn, MayPutOver, MaySettle, MayTakeOut, settled, taken_out, with_entry_and_links}

-- the links of its parent that are those of what moves
abbrev pub links_of : Move → ℕ
links_of m = one_if m.is_directory

-- the tree without what moves
abbrev pub out_of : Move → Tree → Tree
out_of m t = taken_out m.now m.from m.old.now (links_of m) t

-- and with it at its new place
abbrev pub into : Move → Tree → Tree
into m t = with_entry_and_links m.now m.to m.new.now m.number (links_of m) (out_of m t)

-- and under its new parent
abbrev pub moved : Move → Tree → Tree
moved m t = settled m.now m.number m.to (into m t)

-- each step may be made in the tree that the steps before it leave: to a new name
pub record MayMoveTo (g : Geometry) (m : Move) (t : Tree) : Type 0 where
  pub out : MayTakeOut m.from m.old.now t
  pub put : MayPutIn g m.now m.to m.new.now m.number (out_of m t)
  pub settle : MaySettle m.number m.to m.is_directory (into m t)

-- to one that is there
pub record MayMoveOver (m : Move) (t : Tree) : Type 0 where
  pub out : MayTakeOut m.from m.old.now t
  pub put : MayPutOver m.to m.new.now m.number (out_of m t)
  pub settle : MaySettle m.number m.to m.is_directory (into m t)

-- a move within a directory
abbrev pub within : Move → Move
within m = record m { to = m.from }

-- and the tree after it
abbrev pub moved_within : Move → Tree → Tree
moved_within m t = moved (within m) t

-- the directory leads by the old name to what moves, has its links, and hasn't the new name
pub record MayMoveWithin (m : Move) (t : Tree) : Type 0 where
  pub out : MayTakeOut m.from m.old.now t
  pub leads : inode_of (names_of (Some out.node)) m.old.now ≡ Some m.number
  pub links : links_of m ≤ out.node.links
  pub named : IsTrue (is_name m.new.now)
  pub free : inode_of (names_of (Some out.node)) m.new.now ≡ None
  pub settle : MaySettle m.number m.from m.is_directory (into (within m) t)

-- so the tree's own rename has it
abbrev pub MovedIsMoved : Type 0
MovedIsMoved = (m : Move) (t : Tree) (old new : Place) (node : Node) → old.directory ≡ m.from → old.name ≡ m.old.now → new.directory ≡ m.to → new.name ≡ m.new.now
    → is_dir node ≡ m.is_directory → with_moved (without_moved t m.now old node) m.now new m.number node ≡ moved m t
