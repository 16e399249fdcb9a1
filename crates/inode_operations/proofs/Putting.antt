-- Names that are put into a directory, with a link more.
use Rattle.std.proofs.Common.{◌≡◌, ◌+◌, ℕ, sym, ap, subst, ◌∙◌, arith, Some}
use Rattle.layout.specs.declared.Geometry.{Geometry}
use Rattle.layout.specs.Places.{IsGeometry}
use Rattle.tree.specs.Names.{Name, with_name}
use Rattle.tree.specs.Tree.{Node, Tree, on_node, with_node}
use Rattle.tree.specs.Changes.{more_links, with_ctime, with_names}
use Rattle.volume.specs.Reading.{Disk}
use Rattle.volume.specs.Pieces.{pieces}
use Rattle.directory.specs.Names.{Inserts, MayInsert, MayReplace, Replaces}
use Rattle.inode_operations.specs.Steps.{AddsLink, BecomesAt, MayAddLink}
use Rattle.inode_operations.proofs.Nodes.{put_back}
use Rattle.inode_operations.proofs.Between.{node_stands}
use Rattle.inode_operations.proofs.Entering.{name_may_be_put}
use Rattle.inode_operations.specs.Leads.{Leads, CanLead}
use Rattle.inode_operations.specs.Moves.{MayPutIn, MayPutOver, with_entry_and_links}
use Rattle.inode_operations.proofs.Leading.{leads_then, leads_as, can_then, node_leads, becomes_at, changed_at}
use Rattle.inode_operations.specs.Replaced.{IsFresh}
use Rattle.inode_operations.proofs.Parents.{fresh_after, may_remove}

module _ (g : Geometry) (ok : IsGeometry g) (n : ℕ) (now : ℕ) where
  -- a link more
  pub may_add : (d : Disk) → CanLead g (IsFresh now n) d → MayAddLink g (pieces g d) n
  may_add d k =
      let stands = node_stands g k.from d k.tree.nodes n k.may.node ok k.stands k.may.parent.there in
      let few = k.may.parent.links in
      let links : ((pieces g d).inodes n).links ≡ k.may.node.links = ap (λ (y : Node). y.links) stands.node in
      record { of = stands.of; links = omega (arith, few, links) }

  pub add_leads : (d e : Disk) → AddsLink g n now d e → Leads g (IsFresh now n) (λ t. on_node t n (more_links 1)) d e
  add_leads d e r = node_leads g (IsFresh now n) n (more_links 1) d e r.head (λ c t s may.
      let stands = node_stands g c d t.nodes n may.node ok s may.parent.there in
      record {
        node = may.node;
        there = may.parent.there;
        becomes = subst (λ (z : Node). BecomesAt g (pieces g d) (pieces g e) n (Some z))
            (ap (λ (y : Node). with_ctime now (more_links 1 y)) stands.node ∙ (λ t. record (more_links 1 may.node) { ctime = sym may.time t }))
            (r.becomes (may_add d (record { from = c; tree = t; stands = s; may = may })));
      })

  -- none more
  pub no_link_more : (t : Tree) → IsFresh now n t → t ≡ on_node t n (more_links 0)
  no_link_more t may =
      let x = may.node in
      let few : x.links + 0 ≡ x.links = omega arith in
      let same : Some x ≡ Some (more_links 0 x) = λ t. Some (record x { links = sym few t }) in
      (λ k. record t { nodes = put_back t.nodes n (Some x) may.parent.there k }) ∙ (λ k. with_node t n (same k)) ∙ sym (changed_at t n (more_links 0) x may.parent.there)

  module _ (name : Name) (number : ℕ) where
    -- a name of its own
    pub may_insert : (d : Disk) → CanLead g (MayPutIn g now n name number) d → MayInsert g (pieces g d) n name number
    may_insert d k = name_may_be_put g k.from d k.tree.nodes n k.may.node name number now ok k.stands k.may.parent.there k.may.parent.kind k.may.size k.may.named k.may.some k.may.free k.may.fits

    pub insert_leads : (d e : Disk) → Inserts g n name number now d e → Leads g (MayPutIn g now n name number) (λ t. on_node t n (with_names now (λ names. with_name names name number))) d e
    insert_leads d e r = node_leads g (MayPutIn g now n name number) n (with_names now (λ names. with_name names name number)) d e r.head (λ c t s may. record {
      node = may.node;
      there = may.parent.there;
      becomes = becomes_at g (pieces g d) (pieces g e) n _ _ (ap (with_names now (λ names. with_name names name number)) (node_stands g c d t.nodes n may.node ok s may.parent.there).node)
          (r.becomes (may_insert d (record { from = c; tree = t; stands = s; may = may })));
    })

    -- or another's
    pub may_replace : (d : Disk) → CanLead g (MayPutOver n name number) d → MayReplace g (pieces g d) n name number
    may_replace d k = record { has = may_remove g ok n now name d (record { from = k.from; tree = k.tree; stands = k.stands; may = k.may.out }); some = k.may.some }

    pub replace_leads : (d e : Disk) → Replaces g n name number now d e → Leads g (MayPutOver n name number) (λ t. on_node t n (with_names now (λ names. with_name names name number))) d e
    replace_leads d e r = node_leads g (MayPutOver n name number) n (with_names now (λ names. with_name names name number)) d e r.head (λ c t s may. record {
      node = may.out.node;
      there = may.out.parent.there;
      becomes = becomes_at g (pieces g d) (pieces g e) n _ _ (ap (with_names now (λ names. with_name names name number)) (node_stands g c d t.nodes n may.out.node ok s may.out.parent.there).node)
          (r.becomes (may_replace d (record { from = c; tree = t; stands = s; may = may })));
    })

    -- the directory then
    in_fresh : (t : Tree) → MayPutIn g now n name number t → IsFresh now n (on_node t n (with_names now (λ names. with_name names name number)))
    in_fresh t may = fresh_after g ok n now (λ names. with_name names name number) t may.node may.parent

    over_fresh : (t : Tree) → MayPutOver n name number t → IsFresh now n (on_node t n (with_names now (λ names. with_name names name number)))
    over_fresh t may = fresh_after g ok n now (λ names. with_name names name number) t may.out.node may.out.parent

    pub in_file : (d e : Disk) → Inserts g n name number now d e → Leads g (MayPutIn g now n name number) (with_entry_and_links now n name number 0) d e
    in_file d e r = leads_as g (MayPutIn g now n name number) _ _ d e (λ t may. no_link_more _ (in_fresh t may)) (insert_leads d e r)

    pub in_directory : (d e f : Disk) → Inserts g n name number now d e → AddsLink g n now e f → Leads g (MayPutIn g now n name number) (with_entry_and_links now n name number 1) d f
    in_directory d e f r s = leads_then g (MayPutIn g now n name number) (IsFresh now n) _ (λ t. on_node t n (more_links 1)) d e f in_fresh (insert_leads d e r) (add_leads e f s)

    pub in_then_add : (d e : Disk) → Inserts g n name number now d e → CanLead g (MayPutIn g now n name number) d → MayAddLink g (pieces g e) n
    in_then_add d e r k = may_add e (can_then g (MayPutIn g now n name number) (IsFresh now n) _ d e in_fresh (insert_leads d e r) k)

    pub over_file : (d e : Disk) → Replaces g n name number now d e → Leads g (MayPutOver n name number) (with_entry_and_links now n name number 0) d e
    over_file d e r = leads_as g (MayPutOver n name number) _ _ d e (λ t may. no_link_more _ (over_fresh t may)) (replace_leads d e r)

    pub over_directory : (d e f : Disk) → Replaces g n name number now d e → AddsLink g n now e f → Leads g (MayPutOver n name number) (with_entry_and_links now n name number 1) d f
    over_directory d e f r s = leads_then g (MayPutOver n name number) (IsFresh now n) _ (λ t. on_node t n (more_links 1)) d e f over_fresh (replace_leads d e r) (add_leads e f s)

    pub over_then_add : (d e : Disk) → Replaces g n name number now d e → CanLead g (MayPutOver n name number) d → MayAddLink g (pieces g e) n
    over_then_add d e r k = may_add e (can_then g (MayPutOver n name number) (IsFresh now n) _ d e over_fresh (replace_leads d e r) k)
