-- What a move asks of the tree before its first step.
use Rattle.std.proofs.Common.{◌≡◌, ◌≢◌, ℕ, ap, ◌∙◌, Some}
use Rattle.layout.specs.declared.Geometry.{Geometry}
use Rattle.layout.specs.Places.{IsGeometry}
use Rattle.tree.specs.Names.{Names, with_name, without_name}
use Rattle.tree.specs.Tree.{Node, Tree, on_node}
use Rattle.tree.specs.Changes.{fewer_links, more_links, with_names}
use Rattle.lemmas.proofs.Maps.{put-other}
use Rattle.inode_operations.specs.Moves.{IsParent}
use Rattle.inode_operations.specs.Whole.{links_of, out_of}
use Rattle.inode_operations.specs.Asking.{MoveToMayBeMade}
use Rattle.inode_operations.proofs.Leading.{changed_at}
use Rattle.inode_operations.proofs.Parents.{fresh_after}

-- another node stays
other_stays : (t : Tree) (n k : ℕ) (f : Node → Node) (x : Node) → t.nodes n ≡ Some x → k ≢ n → (on_node t n f).nodes k ≡ t.nodes k
other_stays t n k f x there apart = ap (λ (u : Tree). u.nodes k) (changed_at t n f x there) ∙ put-other t.nodes n (Some (f x)) k apart

-- whatever became of a directory's names and links
beside : (g : Geometry) (ok : IsGeometry g) (t : Tree) (n k now : ℕ) (f : Names → Names) (h : Node → Node) (x : Node) → IsParent t n x → k ≢ n
    → (on_node (on_node t n (with_names now f)) n h).nodes k ≡ t.nodes k
beside g ok t n k now f h x parent apart =
    let fresh = fresh_after g ok n now f t x parent in
    other_stays (on_node t n (with_names now f)) n k h fresh.node fresh.parent.there apart ∙ other_stays t n k (with_names now f) x parent.there apart

pub move_to_may_be_made : MoveToMayBeMade
move_to_may_be_made g m t ok asks =
    let out : (k : ℕ) → k ≢ m.from → (out_of m t).nodes k ≡ t.nodes k =
    λ k apart. beside g ok t m.from k m.now (λ names. without_name names m.old.now) (fewer_links (links_of m)) asks.out.node asks.out.parent apart in
    let parent : IsParent (out_of m t) m.to asks.parent = record { there = out m.to asks.other ∙ asks.is_parent.there; kind = asks.is_parent.kind; links = asks.is_parent.links } in
    record {
      out = asks.out;
      put = record {
        node = asks.parent;
        parent = parent;
        size = asks.size;
        named = asks.named;
        some = asks.some;
        free = asks.free;
        fits = asks.fits;
      };
      settle = record {
        node = asks.node;
        there =
            beside g ok (out_of m t) m.to m.number m.now (λ names. with_name names m.new.now m.number) (more_links (links_of m)) asks.parent parent asks.not_to
            ∙ out m.number asks.not_from ∙ asks.there;
        kind = asks.kind;
        some = asks.some_parent;
      };
    }
