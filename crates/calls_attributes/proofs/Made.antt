-- How an effect is made on a volume.
use Rattle.std.proofs.Common.{◌≡◌, ℕ, refl, sym, ap, subst, Option, Some, None, Ok, Err, Bool, true, false}
use Rattle.std.specs.Prelude.{if◌then◌else◌, is_some, IsTrue}
use Rattle.errno.specs.declared.Errno.{Errno}
use Rattle.layout.specs.declared.Geometry.{Geometry}
use Rattle.tree.specs.Tree.{Tree, Node}
use Rattle.tree.specs.Answers.{Answer, Effect, refused}
use Rattle.volume.specs.Reading.{Disk}
use Rattle.volume.specs.Pieces.{pieces}
use Rattle.volume.specs.Nodes.{is_marked, node_of}
use Rattle.volume.specs.Holds.{HoldsVolume}
use Rattle.calls_attributes.specs.Does.{answer_in, tree_in, IsMade}

-- what is refused leaves the disk
pub refused_made : (g : Geometry) (t : Tree) (effect : Effect) (error : Errno) (After : Tree → Type 0) (d e : Disk)
    → effect ≡ Err error → e ≡ d → HoldsVolume g d t → After t → IsMade g t effect (refused error) After e
refused_made g t effect error After d e is same holds after =
    let tree : tree_in t effect ≡ t = ap (tree_in t) is in
    record {
      answers = sym (ap answer_in is);
      holds = subst (λ (x : Tree). HoldsVolume g e x) (sym tree) (subst (λ (x : Disk). HoldsVolume g x t) (sym same) holds);
      after = subst After (sym tree) after;
    }

-- what is granted leaves a volume that holds the tree after it
pub granted_made : (g : Geometry) (t u : Tree) (effect : Effect) (answer : Answer) (After : Tree → Type 0) (e : Disk)
    → effect ≡ Ok (answer, u) → HoldsVolume g e u → After u → IsMade g t effect answer After e
granted_made g t u effect answer After e is holds after =
    let tree : tree_in t effect ≡ u = ap (tree_in t) is in
    record {
      answers = sym (ap answer_in is);
      holds = subst (λ (x : Tree). HoldsVolume g e x) (sym tree) holds;
      after = subst After (sym tree) after;
    }

-- what only looks leaves the disk
pub looked_made : (g : Geometry) (t : Tree) (effect : Effect) (answer : Answer) (After : Tree → Type 0) (d e : Disk)
    → effect ≡ Ok (answer, t) → e ≡ d → HoldsVolume g d t → After t → IsMade g t effect answer After e
looked_made g t effect answer After d e is same holds after =
    granted_made g t t effect answer After e is (subst (λ (x : Disk). HoldsVolume g x t) (sym same) holds) after

-- a node that is there is the one that the volume says
there : (b : Bool) (x : Node) (o : Option Node) → o ≡ (if b then Some x else None) → IsTrue (is_some o) → (b ≡ true) × (o ≡ Some x)
there true x o e h = (refl, e)
there false x None e h = cc
there false x (Some y) e h = cc

pub node_there : (g : Geometry) (d : Disk) (t : Tree) (n : ℕ) → HoldsVolume g d t → IsTrue (is_some (t.nodes n))
    → (is_marked g (pieces g d) n ≡ true) × (t.nodes n ≡ Some (node_of g (pieces g d) ((pieces g d).inodes n)))
node_there g d t n holds h = there (is_marked g (pieces g d) n) (node_of g (pieces g d) ((pieces g d).inodes n)) (t.nodes n)
    (ap (λ (f : ℕ → Option Node). f n) holds.nodes.nodes) h
