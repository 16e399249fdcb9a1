-- With version 3's form the definitions are those of version 3 volumes.
use Rattle.std.proofs.Common.{◌≡◌, ℕ, zero, suc, refl, sym, ap, ◌∙◌}
use Rattle.std.specs.Prelude.{◌+◌, ◌-◌, Some, None, if◌then◌else◌}
use Rattle.layout.specs.declared.Geometry.{Geometry}
use Rattle.volume.specs.declared.Inode.{Inode}
use Rattle.tree.specs.Names.{with_name}
use Rattle.tree.specs.Tree.{Tree, Node, is_file, is_directory}
use Rattle.volume.specs.Pieces.{Pieces}
use Rattle.volume.specs.Nodes as nodes_3
use Rattle.volume.specs.Nodes.{file_byte, file_of, is_directory_mode, is_marked}
use Rattle.volume.specs.Holds as holds_3
use Rattle.volume.specs.Verdict as verdict_3
use Rattle.volume.specs.Verdict.{first_found, place_limit, Test}
use Rattle.fsck.specs.Form.{version_3}
use Rattle.fsck.specs.Nodes.{names_in, body_of, node_of, nodes_of}
use Rattle.migrate.specs.Holds.{HoldsNodes, IsSoundDirectory}
use Rattle.fsck.specs.Verdict.{tests}
use Rattle.migrate.specs.OneDefinition.{OneDefinition}

-- the names
names_same : (f : ℕ → ℕ) (k : ℕ) → names_in version_3 f k ≡ nodes_3.names_in f k
unfolding names_in nodes_3.names_in
names_same f zero = refl
names_same f (suc k) = ap (λ names. with_name names (nodes_3.entry_name f (k + 2)) (nodes_3.entry_inode f (k + 2))) (names_same f k)

module _ (g : Geometry) (v : Pieces) where
  -- the bodies
  body_same : (i : Inode) → body_of version_3 g v i ≡ nodes_3.body_of g v i
  body_same i = ap (λ names. if is_directory_mode i.mode then is_directory
      (record { parent = nodes_3.entry_inode (file_byte g v i) 1; names = names }) else is_file (file_of g v i))
      (names_same (file_byte g v i) (nodes_3.entry_count_of i - 2))

  -- the nodes
  node_same : (i : Inode) → node_of version_3 g v i ≡ nodes_3.node_of g v i
  node_same i = ap (λ body. record (nodes_3.node_of g v i) { body = body }) (body_same i)

  nodes_same : nodes_of version_3 g v ≡ nodes_3.nodes_of g v
  nodes_same = λ i n. ap (λ (node : Node). if is_marked g v n then Some node else None) (node_same (v.inodes n)) i

  -- the findings
  tests_same : tests version_3 g v ≡ verdict_3.tests g v
  tests_same = refl

  -- a sound directory is one
  sound_directory_from : (n : ℕ) → IsSoundDirectory version_3 g v n → holds_3.IsSoundDirectory g v n
  sound_directory_from n d = record {
    sized = d.sized;
    two = d.two;
    whole = d.whole;
    dot_entry = d.dot_entry;
    dot_dot_entry = d.dot_dot_entry;
    used = λ e low. d.used e low refl;
    names = λ e two low. d.names e two low refl;
    distinct = λ e f less low. d.distinct e f less low refl refl;
  }

  sound_directory_to : (n : ℕ) → holds_3.IsSoundDirectory g v n → IsSoundDirectory version_3 g v n
  sound_directory_to n d = record {
    sized = d.sized;
    two = d.two;
    whole = d.whole;
    dot_entry = d.dot_entry;
    dot_dot_entry = d.dot_dot_entry;
    used = λ e low free. d.used e low;
    names = λ e two low free. d.names e two low;
    distinct = λ e f less low free free'. d.distinct e f less low;
  }

  -- the same trees are held
  held_from : (t : Tree) → HoldsNodes version_3 g v t → holds_3.HoldsNodes g v t
  held_from t h = record {
    nodes = h.nodes ∙ nodes_same;
    sound = record {
      zones = h.sound.zones;
      inodes = h.sound.inodes;
      directories = λ n is. sound_directory_from n
          (h.sound.directories n is);
    };
    tree = h.tree;
  }

  held_to : (t : Tree) → holds_3.HoldsNodes g v t → HoldsNodes version_3 g v t
  held_to t h = record {
    nodes = h.nodes ∙ sym nodes_same;
    sound = record {
      zones = h.sound.zones;
      inodes = h.sound.inodes;
      directories = λ n is. sound_directory_to n
          (h.sound.directories n is);
    };
    tree = h.tree;
  }

-- the law
pub one_definition : OneDefinition
one_definition g v = record {
  nodes = nodes_same g v;
  tests = tests_same g v;
  verdict = refl;
  holds = λ t. (held_from g v t, held_to g v t);
}
