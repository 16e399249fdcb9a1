-- What stands between the steps of a call.
use Rattle.std.proofs.Common.{◌≡◌, ◌≤◌, ◌*◌, ◌+◌, ◌/◌, ◌%◌, ℕ, Bool, true, false, refl, sym, ap, ◌∙◌, arith, length}
use mathlib.Core.Logic.{inl, inr}
use Rattle.std.specs.Prelude.{IsTrue, Option, if◌then◌else◌}
use Rattle.std.proofs.lemmas.Bool.{and_from, cases_Bool, cond-true, cond-false}
use Rattle.std.proofs.lemmas.Nat.{div_below}
use Rattle.layout.specs.declared.Geometry.{Geometry}
use Rattle.layout.specs.Places.{IsGeometry, is_block_size}
use Rattle.layout.proofs.Parsed.{block_sizes}
use Rattle.lemmas.specs.Sums.{put}
use Rattle.tree.specs.Tree.{Body, Directory, Node, Tree, is_dir, is_directory, is_file, size_of}
use Rattle.volume.specs.Reading.{Disk}
use Rattle.volume.specs.Pieces.{Pieces, pieces}
use Rattle.volume.specs.Nodes.{directory_of, file_of, is_directory_mode, is_marked}
use Rattle.volume.specs.Holds.{HasSuperblock, IsSound}
use Rattle.volume.proofs.NodesAs.{length_node, names_differ}
use Rattle.block_store.specs.Volume.{SameHead}
use Rattle.inode_operations.specs.Steps.{node_at}
use Rattle.inode_operations.proofs.Nodes.{node_is}
use Rattle.inode_operations.specs.Stands.{NothingIsDone, StepIsDone, NodeStands, DirectoryStands, HoldsAtEnd}

pub nothing_is_done : NothingIsDone
nothing_is_done g d t holds = record { head = λ b low. refl; sound = holds.nodes.sound; nodes = sym holds.nodes.nodes }

pub step_is_done : StepIsDone
step_is_done g d e f nodes n x s head b = record {
  head = λ block low. head block low ∙ s.head block low;
  sound = b.sound;
  nodes = b.nodes ∙ ap (λ (m : ℕ → Option Node). put m n x) s.nodes;
}

-- the kind of a node is that of its inode
kind_of_body : (b : Bool) (dir : Directory) (f : Rattle.tree.specs.Tree.File) (node : Node) → is_dir (record node { body = if b then is_directory dir else is_file f }) ≡ b
kind_of_body true dir f node = refl
kind_of_body false dir f node = refl

pub kind_is : (g : Geometry) (v : Pieces) (n : ℕ) → is_dir (node_at g v n) ≡ is_directory_mode (v.inodes n).mode
kind_is g v n = kind_of_body (is_directory_mode (v.inodes n).mode) (directory_of g v (v.inodes n)) (file_of g v (v.inodes n)) (node_at g v n)

-- a node's size is its inode's
size_is : (g : Geometry) (v : Pieces) (n : ℕ) → IsSound g v → is_marked g v n ≡ true → (v.inodes n).size ≡ size_of (node_at g v n).body
size_is g v n sound is = elim (cases_Bool (is_directory_mode (v.inodes n).mode)) [
  | inl mode ↦
      let dir = and_from (is_marked g v n) (is_directory_mode (v.inodes n).mode) is mode in
      let order = sound.directories n dir in
      let many = length_node g v (names_differ g v sound) n dir in
      let two = order.two in
      let sized = order.sized in
      let size : (v.inodes n).size ≡ 64 * (length (directory_of g v (v.inodes n)).names + 2) = omega (arith, many, two, sized) in
      size ∙ sym (ap size_of (cond-true (is_directory_mode (v.inodes n).mode) (is_directory (directory_of g v (v.inodes n))) (is_file (file_of g v (v.inodes n))) mode))
  | inr mode ↦ sym (ap size_of (cond-false (is_directory_mode (v.inodes n).mode) (is_directory (directory_of g v (v.inodes n))) (is_file (file_of g v (v.inodes n))) mode))
]

pub node_stands : NodeStands
node_stands g d e nodes n x ok s is =
    let v = pieces g e in
    let there = node_is g v n x (ap (λ (m : ℕ → Option Node). m n) s.nodes ∙ is) in
    record {
      of = record { geometry = ok; sound = s.sound; marked = there.0 };
      node = there.1;
      size = size_is g v n s.sound there.0 ∙ ap (λ (y : Node). size_of y.body) there.1;
    }

pub directory_stands : DirectoryStands
directory_stands g d e nodes n x ok s is kind =
    let v = pieces g e in
    let there = node_stands g d e nodes n x ok s is in
    let mode : is_directory_mode (v.inodes n).mode ≡ true = sym (kind_is g v n) ∙ ap is_dir there.node ∙ kind in
    record { geometry = ok; sound = s.sound; directory = and_from (is_marked g v n) (is_directory_mode (v.inodes n).mode) there.of.marked mode }

-- the superblock lies before the maps
wide : (w : ℕ) → IsTrue (is_block_size w) → 1024 ≤ w
wide w is = elim (block_sizes w is) [
  | inl e ↦ omega (arith, e)
  | inr (inl e) ↦ omega (arith, e)
  | inr (inr e) ↦ omega (arith, e)
]

superblock_stays : (g : Geometry) (d e : Disk) → IsGeometry g → SameHead d e → HasSuperblock g d → HasSuperblock g e
superblock_stays g d e ok head s = record {
  image = s.image;
  parsed = s.parsed;
  same = λ p low high.
      let big = wide g.block_size ok.block_size in
      let first = div_below p g.block_size 2 (omega (arith, big)) (omega (arith, big, high)) in
      ap (λ (r : ℕ → ℕ). r (p % g.block_size)) (head (p / g.block_size) first) ∙ s.same p low high;
}

pub holds_at_end : HoldsAtEnd
holds_at_end g d e nodes t u ok holds s is tree = record {
  superblock = superblock_stays g d e ok s.head holds.superblock;
  nodes = record { nodes = is ∙ sym s.nodes; sound = s.sound; tree = tree };
}
