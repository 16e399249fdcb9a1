-- Nodes without a name.
use Rattle.std.proofs.Common.{◌≡◌, ℕ, Bool, true, false, refl, ap, ◌∙◌, Some, None}
use Rattle.std.specs.Prelude.{Option, not, ◌&&◌, ◌==◌, if◌then◌else◌}
use Rattle.lemmas.specs.Sums.{some_below}
use Rattle.tree.specs.Tree.{Node, OpenFile, Tree, is_open, most_open_files, opens, with_node}
use Rattle.tree.specs.Changes.{has_no_link, without_nameless}
use Rattle.lemmas.proofs.Maps.{put-same}
use Rattle.descriptors.specs.Files.{Files, HasFiles, tree_with}
use Rattle.inode_operations.proofs.Nodes.{put_back, put_twice}
use Rattle.inode_operations.specs.Ending.{LeftIsLeft, PutIsLeft}

-- whether a node is open is said by the files alone
pub open_by_files : (f : Files) (t : Tree) (n : ℕ) → HasFiles f t → is_open t n ≡ is_open (tree_with f) n
open_by_files f t n files = ap (λ (o : ℕ → Option OpenFile). some_below (λ k. opens n (o k)) most_open_files) files.opened

pub put_is_left : PutIsLeft
put_is_left f t n x files =
    ap (λ (o : Option Node). if has_no_link o && not (is_open t n) then with_node (with_node t n (Some x)) n None else with_node t n (Some x)) (put-same t.nodes n (Some x))
    ∙ ap (λ b. if (x.links == 0) && not b then with_node (with_node t n (Some x)) n None else with_node t n (Some x)) (open_by_files f t n files)
    ∙ by ((x.links == 0) && not (is_open (tree_with f) n))
  where
    by : (b : Bool) → (if b then with_node (with_node t n (Some x)) n None else with_node t n (Some x)) ≡ with_node t n (if b then None else Some x)
    by true = ap (λ (m : ℕ → Option Node). record t { nodes = m }) (put_twice t.nodes n (Some x) None)
    by false = refl

pub left_is_left : LeftIsLeft
left_is_left f t n x files is =
    ap (λ (m : ℕ → Option Node). without_nameless (record t { nodes = m }) n) (put_back t.nodes n (Some x) is) ∙ put_is_left f t n x files
