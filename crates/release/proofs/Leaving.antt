-- Nodes that are given back one by one.
use Rattle.std.proofs.Common.{◌≡◌, ◌≤◌, ◌+◌, ℕ, Bool, true, false, refl, sym, ap, subst, ◌∙◌, arith, add-one}
use mathlib.Core.Logic.{inl, inr}
use Rattle.std.specs.Prelude.{Option, None, Some, nat_lt, ◌==◌, if◌then◌else◌}
use Rattle.std.proofs.lemmas.Bool.{cases_lt, cond-true, cond-false, lt-ltb, le-ltb}
use Rattle.layout.specs.declared.Geometry.{Geometry}
use Rattle.layout.specs.Places.{IsGeometry}
use Rattle.lemmas.specs.Sums.{one_if, put, sum_below}
use Rattle.tree.specs.Tree.{Node}
use Rattle.tree.specs.Changes.{has_no_link}
use Rattle.lemmas.proofs.Maps.{is_put}
use Rattle.volume.specs.Reading.{Disk}
use Rattle.volume.specs.Pieces.{Pieces, pieces}
use Rattle.volume.specs.Nodes.{is_marked, node_of, nodes_of}
use Rattle.image.specs.declared.Image.{Image}
use Rattle.image.specs.Contents.{contents}
use Rattle.inode_operations.specs.Steps.{BecomesAt, FreesNode, IsOfNode}
use Rattle.inode_operations.proofs.Nodes.{node_is, put_back}
use Rattle.release.specs.Nameless.{if_linked, linked_below, unlinked_below}
use Rattle.release.specs.Giving.{GivesBack, GivesBackBelow, HasImage, MayGiveBack}

-- nothing was given back
pub linked_none : (nodes : ℕ → Option Node) → linked_below nodes 0 ≡ nodes
linked_none nodes = λ i n. cond-false (nat_lt n 0) (if_linked (nodes n)) (nodes n) (le-ltb n 0 (omega arith)) i

-- the next is still there
pub linked_next : (nodes : ℕ → Option Node) (k : ℕ) → linked_below nodes k k ≡ nodes k
linked_next nodes k = cond-false (nat_lt k k) (if_linked (nodes k)) (nodes k) (le-ltb k k (omega arith))

-- one more
pub linked_more : (nodes : ℕ → Option Node) (k : ℕ) → linked_below nodes (k + 1) ≡ put (linked_below nodes k) k (if_linked (nodes k))
linked_more nodes k = is_put (linked_below nodes k) (linked_below nodes (k + 1)) k (if_linked (nodes k))
    (cond-true (nat_lt k (k + 1)) _ _ (lt-ltb k (k + 1) (omega arith)))
    (λ m d. elim (cases_lt m k) [
      | inl low ↦ cond-true (nat_lt m (k + 1)) _ _ (lt-ltb m (k + 1) (omega arith)) ∙ sym (cond-true (nat_lt m k) _ _ (lt-ltb m k low))
      | inr high ↦
          let past : k + 1 ≤ m = omega (arith, d, high) in
          cond-false (nat_lt m (k + 1)) _ _ (le-ltb m (k + 1) past) ∙ sym (cond-false (nat_lt m k) _ _ (le-ltb m k high))
    ])

-- where a node has a link, it stays
pub stays : (x : Option Node) → has_no_link x ≡ false → if_linked x ≡ x
stays x has = cond-false (has_no_link x) None x has

-- where it has none, it goes
pub goes : (x : Option Node) → has_no_link x ≡ true → if_linked x ≡ None
goes x none = cond-true (has_no_link x) None x none

-- a node without a link is one
there : (x : Option Node) → has_no_link x ≡ true → (node : Node) × (x ≡ Some node)
there None h = absurd (cc)
there (Some node) h = (node, refl)

module _ (i : Image) (n : ℕ) (d : Disk) where
  -- nothing is done
  pub kept : (e : Disk) → e ≡ d → has_no_link (nodes_of i.geometry (contents i) n) ≡ false → GivesBack i n d e
  kept e same has = subst (λ (x : Disk). GivesBack i n d x) (sym same) (record {
    head = λ b low. refl;
    becomes = λ may. record {
      sound = may.sound;
      nodes = put_back (nodes_of i.geometry (pieces i.geometry d)) n _ (may.same ∙ sym (stays (nodes_of i.geometry (contents i) n) has));
    };
  })

  -- the node is of an inode that may be freed
  of_node : IsGeometry i.geometry → has_no_link (nodes_of i.geometry (contents i) n) ≡ true → MayGiveBack i n d
      → IsOfNode i.geometry (pieces i.geometry d) n
  of_node sized none may =
      let it = there _ none in
      record { geometry = sized; sound = may.sound; marked = (node_is i.geometry (pieces i.geometry d) n it.0 (may.same ∙ it.1)).0 }

  module _ (g : Geometry) (same : g ≡ i.geometry) (sized : IsGeometry i.geometry) (none : has_no_link (nodes_of i.geometry (contents i) n) ≡ true) where
    -- also by a copy of its sizes
    pub may_free : MayGiveBack i n d → IsOfNode g (pieces g d) n
    may_free may = subst (λ (x : Geometry). IsOfNode x (pieces x d) n) (sym same) (of_node sized none may)

    -- and is freed
    pub gone : (e : Disk) → FreesNode g n d e → GivesBack i n d e
    gone e freed =
        let frees = subst (λ (x : Geometry). FreesNode x n d e) same freed in
        record {
          head = frees.head;
          becomes = λ may. subst (λ (x : Option Node). BecomesAt i.geometry (pieces i.geometry d) (pieces i.geometry e) n x)
              (sym (goes (nodes_of i.geometry (contents i) n) none)) (frees.becomes (of_node sized none may));
        }

module _ (i : Image) (d : Disk) where
  abbrev nodes : ℕ → Option Node
  nodes = nodes_of i.geometry (contents i)

  -- at first
  pub none_given : (e : Disk) → e ≡ d → GivesBackBelow i 0 d e
  none_given e same = subst (λ (x : Disk). GivesBackBelow i 0 d x) (sym same) (record {
    head = λ b low. refl;
    left = λ has. record { sound = has.sound; nodes = has.same ∙ sym (linked_none nodes) };
  })

  -- the next may be given back
  pub may_next : (k : ℕ) (m : Disk) → GivesBackBelow i k d m → HasImage i d → MayGiveBack i k m
  may_next k m below has =
      let left = below.left has in
      record { sound = left.sound; same = ap (λ (x : ℕ → Option Node). x k) left.nodes ∙ linked_next nodes k }

  -- and is
  pub next_given : (k : ℕ) (m e : Disk) → GivesBackBelow i k d m → GivesBack i k m e → GivesBackBelow i (k + 1) d e
  next_given k m e below gives = record {
    head = λ b low. gives.head b low ∙ below.head b low;
    left = λ has.
        let becomes = gives.becomes (may_next k m below has) in
        record {
          sound = becomes.sound;
          nodes = becomes.nodes ∙ ap (λ (x : ℕ → Option Node). put x k (if_linked (nodes k))) (below.left has).nodes ∙ sym (linked_more nodes k);
        };
  }

-- whether there is a node without a link, at a marked inode and at another
pub by_inode : (g : Geometry) (v : Pieces) (n : ℕ) → is_marked g v n ≡ true → has_no_link (nodes_of g v n) ≡ ((v.inodes n).links == 0)
by_inode g v n is = ap (λ b. has_no_link (if b then Some (node_of g v (v.inodes n)) else None)) is

pub by_none : (g : Geometry) (v : Pieces) (n : ℕ) → is_marked g v n ≡ false → has_no_link (nodes_of g v n) ≡ false
by_none g v n is = ap (λ b. has_no_link (if b then Some (node_of g v (v.inodes n)) else None)) is

-- one more is counted, or none
pub counted_more : (nodes : ℕ → Option Node) (k : ℕ) → unlinked_below nodes (k + 1) ≡ unlinked_below nodes k + one_if (has_no_link (nodes k))
unfolding sum_below
counted_more nodes k = ap (λ j. unlinked_below nodes j) (add-one k)

pub counted_none : (nodes : ℕ → Option Node) → unlinked_below nodes 0 ≡ 0
unfolding sum_below
counted_none nodes = refl

-- a count goes up by one at most
pub one_most : (b : Bool) → one_if b ≤ 1
one_most true = omega arith
one_most false = omega arith
