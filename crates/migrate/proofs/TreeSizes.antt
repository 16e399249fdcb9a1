-- Whether nodes are a tree depends on two sizes of the volume: how many inodes it has, and how long its blocks are.
use Rattle.std.proofs.Common.{◌≡◌, ◌<◌, ◌≤◌, ◌+◌, ◌*◌, ◌/◌, ℕ, sym, ap, subst, ◌∙◌}
use Rattle.std.specs.Prelude.{not, ◌||◌, nat_le, Option, IsTrue, if◌then◌else◌}
use Rattle.layout.specs.declared.Geometry.{Geometry}
use Rattle.lemmas.specs.Sums.{sum_below}
use Rattle.tree.specs.Tree.{File, Body, is_file, is_directory, Node, Tree, is_dir, names_of}
use Rattle.tree.specs.IsTree.{IsFile, IsBody, IsNode, IsPlaced, NodesAgree, IsTree, all_names_to, names_to, links_due, subdirectories}
use Rattle.std.specs.Prelude.{Some}

module _ (g h : Geometry) (inodes : g.inodes ≡ h.inodes) (blocks : g.block_size ≡ h.block_size) where
  -- a file
  file_over : (f : File) → IsFile g f → IsFile h f
  file_over f is = record {
    size = is.size;
    held = λ q held. subst (λ b. q * b < f.size) blocks (is.held q held);
    zeros = λ p none. is.zeros p (subst (λ b. IsTrue (nat_le f.size p || not (f.held (p / b)))) (sym blocks) none);
    bytes = is.bytes;
  }

  -- a body
  body_over : (b : Body) → IsBody g b → IsBody h b
  body_over (is_file f) is = file_over f is
  body_over (is_directory d) is = is

  -- a node
  node_over : (node : Node) → IsNode g node → IsNode h node
  node_over node is = record {
    permissions = is.permissions;
    links = is.links;
    uid = is.uid;
    gid = is.gid;
    atime = is.atime;
    mtime = is.mtime;
    ctime = is.ctime;
    body = body_over node.body is.body;
    target = is.target;
  }

  module _ (nodes : ℕ → Option Node) where
    -- the names of all directories
    names_over : (n : ℕ) → all_names_to g nodes n ≡ all_names_to h nodes n
    names_over n = ap (λ k. sum_below (λ m. names_to n (names_of (nodes m))) (k + 1)) inodes

    -- the links that are due
    links_over : (n : ℕ) (node : Node) → links_due g nodes n node ≡ links_due h nodes n node
    links_over n node = ap (λ k. if is_dir node then 2 + subdirectories nodes (names_of (Some node)) else k) (names_over n)

    -- where a directory stands
    placed_over : (n : ℕ) → IsPlaced g nodes n → IsPlaced h nodes n
    placed_over n is = record { one_name = sym (names_over n) ∙ is.one_name; in_parent = is.in_parent; reached = is.reached }

    -- all nodes
    nodes_over : NodesAgree g nodes → NodesAgree h nodes
    nodes_over is = record {
      inside = λ n some. let range = is.inside n some in (range.0, subst (λ k. n ≤ k) inodes range.1);
      each = λ n node e. node_over node (is.each n node e);
      targets = is.targets;
      root = is.root;
      root_parent = is.root_parent;
      root_name = sym (names_over 1) ∙ is.root_name;
      placed = λ n other dir. placed_over n (is.placed n other dir);
      links = λ n node e. is.links n node e ∙ links_over n node;
    }

  -- the tree
  pub tree_over : (t : Tree) → IsTree g t → IsTree h t
  tree_over t is = record { nodes = nodes_over t.nodes is.nodes; open_files = is.open_files; nameless = is.nameless }
