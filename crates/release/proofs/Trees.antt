-- A tree without its nodes that have no link is a tree.
use Rattle.std.proofs.Common.{◌≡◌, ◌≢◌, ◌≤◌, ◌+◌, ℕ, zero, suc, true, refl, sym, ap, subst, ◌∙◌, arith}
use mathlib.Core.Logic.{inl, inr}
use Rattle.std.specs.Prelude.{Option, None, Some, is_some, nat_lt, ◌==◌, IsTrue}
use Rattle.std.proofs.lemmas.Bool.{cases_Bool, cases_lt, cond-true, cond-false, eqb-true, eq-eqb, lt-ltb, le-ltb}
use Rattle.layout.specs.declared.Geometry.{Geometry}
use Rattle.lemmas.specs.Sums.{put}
use Rattle.tree.specs.Tree.{Node, Tree}
use Rattle.tree.specs.Changes.{has_no_link}
use Rattle.tree.specs.IsTree.{IsTree, NodesAgree}
use Rattle.tree.proofs.Freed.{freed}
use Rattle.inode_operations.proofs.Nodes.{put_back}
use Rattle.release.specs.Nameless.{closed_of, if_linked, linked_below}
use Rattle.release.proofs.Leaving.{goes, linked_more, linked_next, linked_none, stays}

-- a node without a link is one
pub unlinked_node : (x : Option Node) → has_no_link x ≡ true → (node : Node) × (x ≡ Some node) × (node.links ≡ 0)
unlinked_node None h = absurd (cc)
unlinked_node (Some node) h = (node, refl, eqb-true node.links 0 h)

-- what is left has a link
linked_node : (x : Option Node) (node : Node) → if_linked x ≡ Some node → node.links ≢ 0
linked_node None node h = absurd (cc)
linked_node (Some y) node h = elim (cases_Bool (y.links == 0)) [
  | inl none ↦ let gone : None ≡ Some node = sym (goes (Some y) none) ∙ h in absurd (cc)
  | inr some ↦
      let same : Some y ≡ Some node = sym (stays (Some y) some) ∙ h in
      λ z. let zero_links : (y.links == 0) ≡ true = eq-eqb y.links 0 (ap (λ (o : Option Node). elim o [ None ↦ 0 | Some x ↦ x.links ]) same ∙ z) in
      absurd (cc)
]

-- no node stands past the last inode
none_past : (g : Geometry) (nodes : ℕ → Option Node) → ((n : ℕ) → IsTrue (is_some (nodes n)) → n ≤ g.inodes) → (n : ℕ) → g.inodes + 1 ≤ n
    → nodes n ≡ None
none_past g nodes inside n past = by (nodes n) refl
  where
    by : (x : Option Node) → nodes n ≡ x → nodes n ≡ None
    by None is = is
    by (Some node) is = let most = inside n (ap is_some is) in absurd (omega (arith, most, past))

-- all are looked at
pub linked_all : (g : Geometry) (nodes : ℕ → Option Node) → ((n : ℕ) → IsTrue (is_some (nodes n)) → n ≤ g.inodes)
    → linked_below nodes (g.inodes + 1) ≡ (λ n. if_linked (nodes n))
linked_all g nodes inside = λ i n. each n i
  where
    each : (n : ℕ) → linked_below nodes (g.inodes + 1) n ≡ if_linked (nodes n)
    each n = elim (cases_lt n (g.inodes + 1)) [
      | inl low ↦ cond-true (nat_lt n (g.inodes + 1)) _ _ (lt-ltb n (g.inodes + 1) low)
      | inr past ↦
          let none = none_past g nodes inside n past in
          cond-false (nat_lt n (g.inodes + 1)) _ _ (le-ltb n (g.inodes + 1) past) ∙ none ∙ sym (ap if_linked none)
    ]

module _ (g : Geometry) (nodes : ℕ → Option Node) (agree : NodesAgree g nodes) where
  -- one node more is looked at
  looked : (k : ℕ) → NodesAgree g (linked_below nodes k) → NodesAgree g (linked_below nodes (k + 1))
  looked k before = elim (cases_Bool (has_no_link (nodes k))) [
    | inl none ↦
        let it = unlinked_node (nodes k) none in
        subst (NodesAgree g) (sym (linked_more nodes k ∙ ap (put (linked_below nodes k) k) (goes (nodes k) none)))
        (freed g (linked_below nodes k) k it.0 (linked_next nodes k ∙ it.1) it.2 before)
    | inr some ↦
        let same : linked_below nodes (k + 1) ≡ linked_below nodes k = linked_more nodes k
        ∙ sym (put_back (linked_below nodes k) k (if_linked (nodes k)) (linked_next nodes k ∙ sym (stays (nodes k) some))) in
        subst (NodesAgree g) (sym same) before
  ]

  -- so many
  linked_agree : (k : ℕ) → NodesAgree g (linked_below nodes k)
  linked_agree zero = subst (NodesAgree g) (sym (linked_none nodes)) agree
  linked_agree (suc k) = subst (λ j. NodesAgree g (linked_below nodes j)) (let e : k + 1 ≡ suc k = omega arith in e) (looked k (linked_agree k))

  -- all
  pub all_linked_agree : NodesAgree g (λ n. if_linked (nodes n))
  all_linked_agree = subst (NodesAgree g) (linked_all g nodes (λ n some. (agree.inside n some).1)) (linked_agree (g.inodes + 1))

-- the tree that is left
pub closed_is_tree : (g : Geometry) (t : Tree) → IsTree g t → IsTree g (closed_of t)
closed_is_tree g t tree = record {
  nodes = all_linked_agree g t.nodes tree.nodes;
  open_files = record {
    numbers = λ k some. absurd (cc);
    each = λ k o is. absurd (cc);
    descriptors = λ s fd k is. absurd (cc);
    in_use = λ k some. absurd (cc);
  };
  nameless = λ n node is none. absurd (linked_node (t.nodes n) node is none);
}
