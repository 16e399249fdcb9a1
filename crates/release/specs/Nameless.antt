-- Nodes without a link, and a tree without them.
use Rattle.std.specs.Prelude.{ℕ, Option, None, nat_lt, if◌then◌else◌}
use Rattle.lemmas.specs.Sums.{count_below}
use Rattle.tree.specs.Tree.{Node, Tree}
use Rattle.tree.specs.Changes.{has_no_link}

-- the node, if it has a link
abbrev pub if_linked : Option Node → Option Node
if_linked x = if has_no_link x then None else x

-- the tree of the nodes that have a link; no file is open
abbrev pub closed_of : Tree → Tree
closed_of t = record { nodes = λ n. if_linked (t.nodes n); open_files = λ k. None; descriptors = λ s fd. None }

-- how many nodes of numbers below k have no link
abbrev pub unlinked_below : (ℕ → Option Node) → ℕ → ℕ
unlinked_below nodes k = count_below (λ n. has_no_link (nodes n)) k

-- the nodes without those of numbers below k that have no link
abbrev pub linked_below : (ℕ → Option Node) → ℕ → ℕ → Option Node
linked_below nodes k n = if nat_lt n k then if_linked (nodes n) else nodes n
