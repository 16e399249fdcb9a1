-- Files through calls.
use Rattle.std.specs.Prelude.{◌≡◌, ◌≤◌, ◌⊎◌, ⊤, ℕ, Bool, true, false, List, [], ◌∷◌, Option, None, Some, is_some, IsTrue, Result, Ok}
use Rattle.layout.specs.declared.Geometry.{Geometry}
use Rattle.tree.specs.declared.PathFrom.{PathFrom}
use Rattle.tree.specs.declared.User.{User}
use Rattle.tree.specs.declared.Who.{Who}
use Rattle.tree.specs.declared.Call.{Call}
use Rattle.tree.specs.declared.Call.TheVariants.{Close, Unlink, Rmdir, Rename}
use Rattle.tree.specs.Tree.{Node, Tree, is_dir, is_dir_at, is_open}
use Rattle.tree.specs.Refusals.{◌>>=◌}
use Rattle.tree.specs.Walk.{read_path, walk_to_last}
use Rattle.tree.specs.Effects.{user_of, tree_after_call}

-- what stands at a number: nothing, or a node, be it a directory, be it a symbolic link
abbrev pub kind : Option Node → Option (Bool × Bool)
kind None = None
kind (Some node) = Some (is_dir node, node.symbolic)

-- the links of a node, and 0 of none
abbrev pub links : Option Node → ℕ
links None = 0
links (Some node) = node.links

-- the path names the node; a link that stands last is meant itself
abbrev pub Names : Tree → User → PathFrom → ℕ → Type 0
Names t user path n = (read_path path >>= walk_to_last t user) ≡ Ok n

-- a file that isn't open has one name at most
abbrev pub HasLastName : Tree → ℕ → Type 0
HasLastName t n = (links (t.nodes n) ≤ 1) × (is_open t n ≡ false)

-- a directory isn't open
abbrev pub IsShut : Tree → ℕ → Type 0
IsShut t n = (is_dir_at t.nodes n ≡ true) × (is_open t n ≡ false)

-- The call takes the node, if it isn't refused: its last name, a directory's name, or the descriptor of a file without a name.
abbrev pub Takes : Tree → Who → Call → ℕ → Type 0
Takes t who (Unlink path) n = Names t (user_of who) path n × HasLastName t n
Takes t who (Rmdir path) n = Names t (user_of who) path n × IsShut t n
Takes t who (Rename old new) n = Names t (user_of who) new n × (HasLastName t n ⊎ IsShut t n)
Takes t who (Close fd) n = links (t.nodes n) ≡ 0
Takes t who _ n = ⊥

-- no other call takes a node away, or makes another of it
abbrev pub NodesStay : Type 0
NodesStay =
    (g : Geometry) (t : Tree) (who : Who) (now : ℕ) (call : Call) (n : ℕ) → IsTrue (is_some (t.nodes n)) → (Takes t who call n → ⊥)
    → kind ((tree_after_call g t who now call).nodes n) ≡ kind (t.nodes n)

-- A call, who makes it, and when.
pub record Made : Type 0 where
  pub who : Who
  pub now : ℕ
  pub call : Call

-- the tree after calls
abbrev pub after_calls : Geometry → Tree → List Made → Tree
after_calls g t [] = t
after_calls g t (c ∷ cs) = after_calls g (tree_after_call g t c.who c.now c.call) cs

-- none of the calls takes the node
abbrev pub NoneTakes : Geometry → Tree → List Made → ℕ → Type 0
NoneTakes g t [] n = ⊤
NoneTakes g t (c ∷ cs) n = (Takes t c.who c.call n → ⊥) × NoneTakes g (tree_after_call g t c.who c.now c.call) cs n

-- then it is the same file, directory or link after all of them
abbrev pub FilesStay : Type 0
FilesStay =
    (g : Geometry) (t : Tree) (calls : List Made) (n : ℕ) → IsTrue (is_some (t.nodes n)) → NoneTakes g t calls n
    → kind ((after_calls g t calls).nodes n) ≡ kind (t.nodes n)
