-- What was replaced goes.
use Rattle.std.proofs.Common.{◌≡◌, ℕ, Bool, true, false, refl, sym, ap, subst, ◌∙◌, Some, None}
use Rattle.layout.specs.declared.Geometry.{Geometry}
use Rattle.layout.specs.Places.{IsGeometry}
use Rattle.tree.specs.Tree.{Node, Tree, on_node, with_node}
use Rattle.tree.specs.Changes.{fewer_links, with_link_lost, without_nameless}
use Rattle.lemmas.proofs.Maps.{put-other}
use Rattle.volume.specs.Reading.{Disk}
use Rattle.volume.specs.Pieces.{pieces}
use Rattle.descriptors.specs.Files.{Files}
use Rattle.inode_operations.specs.Steps.{BecomesAt, DropsLink, FreesNode, IsOfNode, LosesName, left_of}
use Rattle.inode_operations.specs.Stands.{Stands}
use Rattle.inode_operations.proofs.Between.{node_stands, step_is_done}
use Rattle.inode_operations.proofs.CallLawsEnding.{put_is_left}
use Rattle.inode_operations.specs.Leads.{Leads, CanLead}
use Rattle.inode_operations.specs.Replaced.{HasChanged, MayDropReplaced, without_it}
use Rattle.inode_operations.proofs.Leading.{changed_at}
use Rattle.inode_operations.proofs.Parents.{drop_leads, may_drop}

module _ (g : Geometry) (ok : IsGeometry g) (f : Files) (now n parent : ℕ) where
  pub of_replaced : (directory : Bool) (d : Disk) → CanLead g (MayDropReplaced f now n parent directory) d → IsOfNode g (pieces g d) n
  of_replaced directory d k = (node_stands g k.from d k.tree.nodes n k.may.node ok k.stands k.may.there).of

  -- a file
  pub file_dropped : (d e : Disk) → LosesName g f n now d e → Leads g (MayDropReplaced f now n parent false) (without_it now n parent false) d e
  file_dropped d e r = record {
    each = λ c t s may.
        let x = may.node in
        let stands = node_stands g c d t.nodes n x ok s may.there in
        let becomes = subst (λ (y : Node). BecomesAt g (pieces g d) (pieces g e) n (left_of f n (with_link_lost now y))) stands.node (r.becomes stands.of) in
        let tree : with_node t n (left_of f n (with_link_lost now x)) ≡ without_nameless (on_node t n (with_link_lost now)) n =
        sym (ap (λ (u : Tree). without_nameless u n) (changed_at t n (with_link_lost now) x may.there) ∙ put_is_left f t n (with_link_lost now x) may.files) in
        subst (λ (u : Tree). Stands g c e u.nodes) tree (step_is_done g c d e t.nodes n _ s r.head becomes);
  }

  -- a directory
  changed_of : (t : Tree) → MayDropReplaced f now n parent true t → HasChanged now parent t
  changed_of t may = may.changed refl

  pub may_drop_parent : (d : Disk) → CanLead g (MayDropReplaced f now n parent true) d → IsOfNode g (pieces g d) parent
  may_drop_parent d k = may_drop g ok parent now d (record { from = k.from; tree = k.tree; stands = k.stands; may = changed_of k.tree k.may })

  -- it is there still
  still : (t : Tree) (may : MayDropReplaced f now n parent true t) → (on_node t parent (fewer_links 1)).nodes n ≡ Some may.node
  still t may =
      let changed = changed_of t may in
      ap (λ (u : Tree). u.nodes n) (changed_at t parent (fewer_links 1) changed.node changed.there) ∙ put-other t.nodes parent (Some (fewer_links 1 changed.node)) n (may.apart refl) ∙ may.there

  module _ (d e : Disk) (r : DropsLink g parent now d e) where
    between : (c : Disk) (t : Tree) → Stands g c d t.nodes → MayDropReplaced f now n parent true t → Stands g c e (on_node t parent (fewer_links 1)).nodes
    between c t s may = (drop_leads g ok parent now d e r).each c t s (changed_of t may)

    pub may_free : CanLead g (MayDropReplaced f now n parent true) d → IsOfNode g (pieces g e) n
    may_free k = (node_stands g k.from e _ n k.may.node ok (between k.from k.tree k.stands k.may) (still k.tree k.may)).of

    pub directory_dropped : (h : Disk) → FreesNode g n e h → Leads g (MayDropReplaced f now n parent true) (without_it now n parent true) d h
    directory_dropped h x = record {
      each = λ c t s may.
          step_is_done g c e h (on_node t parent (fewer_links 1)).nodes n None (between c t s may) x.head
          (x.becomes (may_free (record { from = c; tree = t; stands = s; may = may })));
    }
