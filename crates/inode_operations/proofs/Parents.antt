-- Names of directories, and links.
use Rattle.std.proofs.Common.{◌≡◌, ◌-◌, ℕ, true, false, refl, sym, ap, subst, ◌∙◌, arith, Some}
use Rattle.layout.specs.declared.Geometry.{Geometry}
use Rattle.layout.specs.Places.{IsGeometry}
use Rattle.tree.specs.Names.{Name, Names, without_name}
use Rattle.tree.specs.Tree.{Body, is_file, is_directory, Node, Tree, is_dir, on_node, with_node}
use Rattle.tree.specs.Changes.{fewer_links, with_link_lost, with_names}
use Rattle.lemmas.proofs.Maps.{put-same}
use Rattle.volume.specs.Reading.{Disk}
use Rattle.volume.specs.Pieces.{pieces}
use Rattle.directory.specs.Names.{HasName}
use Rattle.directory.specs.Removal.{Removes}
use Rattle.inode_operations.specs.Steps.{BecomesAt, DropsLink, IsOfNode}
use Rattle.inode_operations.proofs.Nodes.{put_back}
use Rattle.inode_operations.proofs.Between.{node_stands}
use Rattle.inode_operations.proofs.Entering.{name_is_there}
use Rattle.inode_operations.specs.Leads.{Leads, CanLead}
use Rattle.inode_operations.specs.Replaced.{HasChanged, IsFresh}
use Rattle.inode_operations.specs.Moves.{IsParent, MayTakeOut, taken_out}
use Rattle.inode_operations.proofs.Leading.{leads_then, leads_as, can_then, node_leads, becomes_at, changed_at}

-- a directory whose names changed is one still, changed at `now`, and has its links
names_kept : (now : ℕ) (f : Names → Names) (x : Node) → is_dir x ≡ true → (is_dir (with_names now f x) ≡ true) × ((with_names now f x).ctime ≡ now) × ((with_names now f x).links ≡ x.links)
names_kept now f x kind = by x.body kind
  where
    by : (b : Body) → is_dir (record x { body = b }) ≡ true
        → (is_dir (with_names now f (record x { body = b })) ≡ true) × ((with_names now f (record x { body = b })).ctime ≡ now) × ((with_names now f (record x { body = b })).links ≡ x.links)
    by (is_file file) h = let no : false ≡ true = h in cc
    by (is_directory d) h = (refl, refl, refl)

module _ (g : Geometry) (ok : IsGeometry g) (n : ℕ) (now : ℕ) where
  -- its names changed
  pub fresh_after : (f : Names → Names) (t : Tree) (x : Node) → IsParent t n x → IsFresh now n (on_node t n (with_names now f))
  fresh_after f t x p =
      let kept = names_kept now f x p.kind in
      let there : (on_node t n (with_names now f)).nodes n ≡ Some (with_names now f x) = ap (λ (u : Tree). u.nodes n) (changed_at t n (with_names now f) x p.there) ∙ put-same t.nodes n (Some (with_names now f x)) in
      let few = p.links in
      record {
        node = with_names now f x;
        parent = record { there = there; kind = kept.0; links = let l = kept.2 in omega (arith, l, few) };
        time = kept.1;
      }

  -- the name may go
  pub may_remove : (name : Name) (d : Disk) → CanLead g (MayTakeOut n name) d → HasName g (pieces g d) n name
  may_remove name d k = name_is_there g k.from d k.tree.nodes n k.may.node name ok k.stands k.may.parent.there k.may.parent.kind k.may.size k.may.named k.may.has

  pub remove_leads : (name : Name) (d e : Disk) → Removes g n name now d e → Leads g (MayTakeOut n name) (λ t. on_node t n (with_names now (λ names. without_name names name))) d e
  remove_leads name d e r = node_leads g (MayTakeOut n name) n (with_names now (λ names. without_name names name)) d e r.head (λ c t s may. record {
    node = may.node;
    there = may.parent.there;
    becomes = becomes_at g (pieces g d) (pieces g e) n _ _ (ap (with_names now (λ names. without_name names name)) (node_stands g c d t.nodes n may.node ok s may.parent.there).node)
        (r.becomes (may_remove name d (record { from = c; tree = t; stands = s; may = may })));
  })

  -- whatever its links
  pub has_changed : (t : Tree) → IsFresh now n t → HasChanged now n t
  has_changed t may = record { node = may.node; there = may.parent.there; time = may.time }

  -- a link goes
  pub may_drop : (d : Disk) → CanLead g (HasChanged now n) d → IsOfNode g (pieces g d) n
  may_drop d k = (node_stands g k.from d k.tree.nodes n k.may.node ok k.stands k.may.there).of

  pub drop_leads : (d e : Disk) → DropsLink g n now d e → Leads g (HasChanged now n) (λ t. on_node t n (fewer_links 1)) d e
  drop_leads d e r = node_leads g (HasChanged now n) n (fewer_links 1) d e r.head (λ c t s may.
      let stands = node_stands g c d t.nodes n may.node ok s may.there in
      record {
        node = may.node;
        there = may.there;
        becomes = subst (λ (z : Node). BecomesAt g (pieces g d) (pieces g e) n (Some z))
            (ap (with_link_lost now) stands.node ∙ (λ t. record (fewer_links 1 may.node) { ctime = sym may.time t })) (r.becomes stands.of);
      })

  -- none goes
  pub no_link_less : (t : Tree) → IsFresh now n t → t ≡ on_node t n (fewer_links 0)
  no_link_less t may =
      let x = may.node in
      let few : x.links - 0 ≡ x.links = omega arith in
      let same : Some x ≡ Some (fewer_links 0 x) = λ t. Some (record x { links = sym few t }) in
      (λ k. record t { nodes = put_back t.nodes n (Some x) may.parent.there k }) ∙ (λ k. with_node t n (same k)) ∙ sym (changed_at t n (fewer_links 0) x may.parent.there)

  pub taken_fresh : (name : Name) (t : Tree) → MayTakeOut n name t → IsFresh now n (on_node t n (with_names now (λ names. without_name names name)))
  taken_fresh name t may = fresh_after (λ names. without_name names name) t may.node may.parent

  taken_changed : (name : Name) (t : Tree) → MayTakeOut n name t → HasChanged now n (on_node t n (with_names now (λ names. without_name names name)))
  taken_changed name t may = has_changed _ (taken_fresh name t may)

  pub taken_file : (name : Name) (d e : Disk) → Removes g n name now d e → Leads g (MayTakeOut n name) (taken_out now n name 0) d e
  taken_file name d e r = leads_as g (MayTakeOut n name) _ _ d e (λ t may. no_link_less (on_node t n (with_names now (λ names. without_name names name))) (taken_fresh name t may)) (remove_leads name d e r)

  pub taken_directory : (name : Name) (d e f : Disk) → Removes g n name now d e → DropsLink g n now e f → Leads g (MayTakeOut n name) (taken_out now n name 1) d f
  taken_directory name d e f r s = leads_then g (MayTakeOut n name) (HasChanged now n) _ (λ t. on_node t n (fewer_links 1)) d e f (taken_changed name) (remove_leads name d e r) (drop_leads e f s)

  pub may_then_drop : (name : Name) (d e : Disk) → Removes g n name now d e → CanLead g (MayTakeOut n name) d → IsOfNode g (pieces g e) n
  may_then_drop name d e r k = may_drop e (can_then g (MayTakeOut n name) (HasChanged now n) _ d e (taken_changed name) (remove_leads name d e r) k)
