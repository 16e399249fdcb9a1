-- Steps that lead from tree to tree.
use Rattle.std.proofs.Common.{◌≡◌, ℕ, sym, ap, subst, Some, None}
use Rattle.std.specs.Prelude.{Option}
use Rattle.layout.specs.declared.Geometry.{Geometry}
use Rattle.tree.specs.Tree.{Node, Tree, on_node, with_node}
use Rattle.volume.specs.Reading.{Disk}
use Rattle.volume.specs.Pieces.{Pieces, pieces}
use Rattle.block_store.specs.Volume.{SameHead}
use Rattle.directory.specs.Names.{BecomesNode}
use Rattle.inode_operations.specs.Steps.{BecomesAt}
use Rattle.inode_operations.specs.Stands.{Stands}
use Rattle.inode_operations.proofs.Between.{step_is_done}
use Rattle.inode_operations.specs.Leads.{Leads, CanLead}

-- one step and another
pub leads_then : (g : Geometry) (P Q : Tree → Type 0) (F G : Tree → Tree) (d e f : Disk) → ((t : Tree) → P t → Q (F t)) → Leads g P F d e → Leads g Q G e f
    → Leads g P (λ t. G (F t)) d f
leads_then g P Q F G d e f so a b = record { each = λ c t s p. b.each c (F t) (a.each c t s p) (so t p) }

pub can_then : (g : Geometry) (P Q : Tree → Type 0) (F : Tree → Tree) (d e : Disk) → ((t : Tree) → P t → Q (F t)) → Leads g P F d e → CanLead g P d → CanLead g Q e
can_then g P Q F d e so a k = record { from = k.from; tree = F k.tree; stands = a.each k.from k.tree k.stands k.may; may = so k.tree k.may }

-- another effect that is the same
pub leads_as : (g : Geometry) (P : Tree → Type 0) (F G : Tree → Tree) (d e : Disk) → ((t : Tree) → P t → F t ≡ G t) → Leads g P F d e → Leads g P G d e
leads_as g P F G d e same a = record { each = λ c t s p. subst (λ (u : Tree). Stands g c e u.nodes) (same t p) (a.each c t s p) }

-- a node that is there is changed
pub changed_at : (t : Tree) (n : ℕ) (f : Node → Node) (x : Node) → t.nodes n ≡ Some x → on_node t n f ≡ with_node t n (Some (f x))
changed_at t n f x is = ap (λ (o : Option Node). elim o [ None ↦ t | Some node ↦ with_node t n (Some (f node)) ]) is

-- what becomes of node n, where these nodes stand before
pub record ChangesTo (g : Geometry) (d e : Disk) (t : Tree) (n : ℕ) (f : Node → Node) : Type 0 where
  pub node : Node
  pub there : t.nodes n ≡ Some node
  pub becomes : BecomesAt g (pieces g d) (pieces g e) n (Some (f node))

-- one node is changed
pub node_leads : (g : Geometry) (P : Tree → Type 0) (n : ℕ) (f : Node → Node) (d e : Disk) → SameHead d e
    → ((c : Disk) (t : Tree) → Stands g c d t.nodes → P t → ChangesTo g d e t n f) → Leads g P (λ t. on_node t n f) d e
node_leads g P n f d e head changes = record {
  each = λ c t s p.
      let x = changes c t s p in
      subst (λ (u : Tree). Stands g c e u.nodes) (sym (changed_at t n f x.node x.there)) (step_is_done g c d e t.nodes n (Some (f x.node)) s head x.becomes);
}

-- a change of names is a change of the node
pub becomes_at : (g : Geometry) (v w : Pieces) (n : ℕ) (x y : Node) → x ≡ y → BecomesNode g v w n x → BecomesAt g v w n (Some y)
becomes_at g v w n x y is b = subst (λ (z : Node). BecomesAt g v w n (Some z)) is (record { sound = b.sound; nodes = b.nodes })
