-- The steps of a rename, by what each makes of a tree.
use Rattle.std.specs.Prelude.{◌≡◌, ◌≢◌, ◌≤◌, ◌+◌, ℕ, Bool, None, Some, IsTrue, true}
use Rattle.layout.specs.declared.Geometry.{Geometry}
use Rattle.lemmas.specs.Sums.{put}
use Rattle.tree.specs.Names.{Name, has_name, inode_of, is_name, with_name, without_name}
use Rattle.tree.specs.Tree.{Node, Tree, is_dir, most_links, most_size, names_of, on_node, size_of}
use Rattle.tree.specs.Changes.{fewer_links, more_links, with_ctime, with_names, with_parent}
use Rattle.tree.specs.Space.{data_zones}
use Rattle.zone.specs.Room.{taken_by}

-- a directory of the tree, with room for links
pub record IsParent (t : Tree) (n : ℕ) (x : Node) : Type 0 where
  pub there : t.nodes n ≡ Some x
  pub kind : is_dir x ≡ true
  pub links : x.links ≤ most_links

-- the tree in which a directory has a name and so many links less
abbrev pub taken_out : ℕ → ℕ → Name → ℕ → Tree → Tree
taken_out now n name links t = on_node (on_node t n (with_names now (λ names. without_name names name))) n (fewer_links links)

-- a directory that has the name
pub record MayTakeOut (n : ℕ) (name : Name) (t : Tree) : Type 0 where
  pub node : Node
  pub parent : IsParent t n node
  pub size : size_of node.body ≤ most_size
  pub named : IsTrue (is_name name)
  pub has : IsTrue (has_name (names_of (Some node)) name)

-- the tree in which a directory's name leads to an inode, and it has so many links more
abbrev pub with_entry_and_links : ℕ → ℕ → Name → ℕ → ℕ → Tree → Tree
with_entry_and_links now n name number links t = on_node (on_node t n (with_names now (λ names. with_name names name number))) n (more_links links)

-- a directory that hasn't the name, and room for it
pub record MayPutIn (g : Geometry) (now n : ℕ) (name : Name) (number : ℕ) (t : Tree) : Type 0 where
  pub node : Node
  pub parent : IsParent t n node
  pub size : size_of node.body + 64 ≤ most_size
  pub named : IsTrue (is_name name)
  pub some : number ≢ 0
  pub free : inode_of (names_of (Some node)) name ≡ None
  pub fits : taken_by g (put t.nodes n (Some (with_names now (λ names. with_name names name number) node))) ≤ data_zones g

-- a directory that has the name, for another inode
pub record MayPutOver (n : ℕ) (name : Name) (number : ℕ) (t : Tree) : Type 0 where
  pub out : MayTakeOut n name t
  pub some : number ≢ 0

-- some node is there
pub record IsThere (n : ℕ) (t : Tree) : Type 0 where
  pub node : Node
  pub there : t.nodes n ≡ Some node

-- the tree in which it changed at `now`
abbrev pub touched : ℕ → ℕ → Tree → Tree
touched now n t = on_node t n (with_ctime now)

-- the tree in which a node has another parent, if it is a directory, and changed at `now`
abbrev pub settled : ℕ → ℕ → ℕ → Tree → Tree
settled now n parent t = on_node t n (λ moved. with_ctime now (with_parent parent moved))

-- a node, which is a directory or not
pub record MaySettle (n parent : ℕ) (directory : Bool) (t : Tree) : Type 0 where
  pub node : Node
  pub there : t.nodes n ≡ Some node
  pub kind : is_dir node ≡ directory
  pub some : parent ≢ 0
