-- Laws of the tree.
use Rattle.std.specs.Prelude.{[], ◌∷◌, ◌++◌, is_some, List, Result, Ok, false, ◌≡◌, ◌≤◌, ◌<◌, ◌*◌, ◌/◌, ◌^◌, ℕ, Bool, true, false, None, Some, Err, IsTrue}
use Rattle.layout.specs.declared.Geometry.{Geometry}
use Rattle.layout.specs.Places.{is_block_size}
use Rattle.errno.specs.declared.Errno.{Errno}
use Rattle.tree.specs.declared.User.{User}
use Rattle.tree.specs.declared.Who.{Who}
use Rattle.tree.specs.declared.Start.TheVariants.{Root, Inode}
use Rattle.tree.specs.declared.Call.{Call}
use Rattle.tree.specs.declared.Call.TheVariants.{Stat, Fstat, Readdir, Sync, Statfs, Readlink, Lstat}
use Rattle.lemmas.specs.Sums.{put}
use Rattle.tree.specs.ZonesNeeded.{page_limit}
use Rattle.tree.specs.Tree.{Body, Node, Tree, is_link_at, most_size}
use Rattle.tree.specs.Space.{numbers_in_zone, held_of}
use Rattle.tree.specs.IsTree.{IsBody, IsTree}
use Rattle.tree.specs.Names.{Name}
use Rattle.tree.specs.Refusals.{◌>>=◌}
use Rattle.tree.specs.Walk.{Way, enter, next, first_node, walk_parts}
use Rattle.tree.specs.Changes.{new_node, empty_directory}
use Rattle.tree.specs.Answers.{refused}
use Rattle.tree.specs.Effects.{effect_of, reply_to, tree_after_call}

-- a refused call answers its refusal and leaves the tree
abbrev pub RefusedLeaves : Type 0
RefusedLeaves =
    (g : Geometry) (t : Tree) (who : Who) (now : ℕ) (call : Call) (e : Errno) → effect_of g t who now call ≡ Err e
    → (reply_to g t who now call ≡ refused e) × (tree_after_call g t who now call ≡ t)

-- the calls that only look
abbrev pub only_looks : Call → Bool
only_looks (Stat path) = true
only_looks (Fstat fd) = true
only_looks (Readdir fd) = true
only_looks Sync = true
only_looks Statfs = true
only_looks (Readlink path) = true
only_looks (Lstat path) = true
only_looks _ = false

-- they leave the tree
abbrev pub LooksLeave : Type 0
LooksLeave =
    (g : Geometry) (t : Tree) (who : Who) (now : ℕ) (call : Call) → IsTrue (only_looks call)
    → tree_after_call g t who now call ≡ t

-- the tree of a new volume: a root alone, with mode 755 of user 0 and group 0
abbrev pub fresh_root : ℕ → Node
fresh_root now = new_node now (record { uid = 0; gid = 0 }) 493 2 (empty_directory 1)

-- that root, and no open file
abbrev pub fresh_tree : ℕ → Tree
fresh_tree now = record { nodes = put (λ n. None) 1 (Some (fresh_root now)); open_files = λ k. None; descriptors = λ s fd. None }

-- it is a tree, for times that fit 32 bits
abbrev pub FreshIsTree : Type 0
FreshIsTree = (g : Geometry) (now : ℕ) → 1 ≤ g.inodes → now < 2 ^ 32 → IsTree g (fresh_tree now)

-- a page that begins below a size within the limit is one of those that an inode has room for
abbrev pub PagesFit : Type 0
PagesFit =
    (block_size q size : ℕ) → IsTrue (is_block_size block_size) → size ≤ most_size → q * block_size < size
    → q < page_limit (block_size / 4)

-- so no held page is past them, and a count of zones that looks at those alone loses none
abbrev pub HeldPagesFit : Type 0
HeldPagesFit =
    (g : Geometry) (body : Body) (q : ℕ) → IsTrue (is_block_size g.block_size) → IsBody g body → IsTrue (held_of g body q)
    → q < page_limit (numbers_in_zone g)

-- the walk of a tree without links: each part is one step
abbrev pub steps_from : Tree → User → ℕ → List Name → Result ℕ Errno
steps_from t user here [] = Ok here
steps_from t user here (part ∷ parts) = do
  dir ← enter user (t.nodes here)
  there ← next here dir.0 dir.1 part
  steps_from t user there parts

-- where no node is a link, a walk is that
abbrev pub WalkWithoutLinks : Type 0
WalkWithoutLinks =
    (t : Tree) (user : User) (way : Way) → ((n : ℕ) → is_link_at t.nodes n ≡ false)
    → walk_parts t user way ≡ (first_node t user way.start >>= λ here. steps_from t user here way.parts)

-- a walk ends at no link, where neither the root nor the node where it begins is one
abbrev pub WalkEndsAtNoLink : Type 0
WalkEndsAtNoLink =
    (t : Tree) (user : User) (way : Way) (n : ℕ) → is_link_at t.nodes 1 ≡ false
    → ((m : ℕ) → first_node t user way.start ≡ Ok m → is_link_at t.nodes m ≡ false) → walk_parts t user way ≡ Ok n
    → is_link_at t.nodes n ≡ false

-- In a tree without links, where a walk from the root ends another goes on as the first would have: from that node, by user 0.
abbrev pub StartsGoOn : Type 0
StartsGoOn =
    (t : Tree) (user : User) (first rest : List Name) (n : ℕ) → user.uid ≡ 0 → IsTrue (is_some (t.nodes n))
    → ((m : ℕ) → is_link_at t.nodes m ≡ false) → walk_parts t user (record { start = Root; parts = first }) ≡ Ok n
    → walk_parts t user (record { start = Inode n; parts = rest }) ≡ walk_parts t user (record { start = Root; parts = first ++ rest })
