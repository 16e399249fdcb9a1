-- The node that moved.
use Rattle.std.proofs.Common.{◌≡◌, ℕ, true, false, refl, sym, ap, subst, ◌∙◌, Some}
use Rattle.layout.specs.declared.Geometry.{Geometry}
use Rattle.layout.specs.Places.{IsGeometry}
use Rattle.tree.specs.Tree.{Body, is_file, is_directory, Node, Tree, is_dir, on_node, with_node}
use Rattle.tree.specs.Changes.{with_ctime, with_parent}
use Rattle.lemmas.proofs.Maps.{put-same}
use Rattle.volume.specs.declared.Inode.{Inode}
use Rattle.volume.specs.Reading.{Disk}
use Rattle.volume.specs.Pieces.{pieces}
use Rattle.volume.specs.Nodes.{is_mode}
use Rattle.directory.specs.Names.{MaySetParent, SetsParent}
use Rattle.inode_operations.specs.Steps.{BecomesAt, IsOfNode, MaySetAttributes, SetsAttributes}
use Rattle.inode_operations.proofs.Nodes.{put_twice}
use Rattle.inode_operations.specs.Stands.{Stands}
use Rattle.inode_operations.proofs.Between.{directory_stands, node_stands}
use Rattle.inode_operations.specs.Leads.{Leads, CanLead}
use Rattle.inode_operations.specs.Moves.{IsThere, MaySettle, settled, touched}
use Rattle.inode_operations.proofs.Leading.{leads_then, leads_as, can_then, node_leads, becomes_at, changed_at}

-- a node that is changed twice
pub changed_twice : (t : Tree) (n : ℕ) (f h : Node → Node) (x : Node) → t.nodes n ≡ Some x → on_node (on_node t n f) n h ≡ on_node t n (λ y. h (f y))
changed_twice t n f h x is =
    ap (λ (u : Tree). on_node u n h) (changed_at t n f x is) ∙ changed_at (with_node t n (Some (f x))) n h (f x) (put-same t.nodes n (Some (f x)))
    ∙ (λ k. record t { nodes = put_twice t.nodes n (Some (f x)) (Some (h (f x))) k }) ∙ sym (changed_at t n (λ y. h (f y)) x is)

-- and changes that are the same to it
pub same_change : (t : Tree) (n : ℕ) (f h : Node → Node) (x : Node) → t.nodes n ≡ Some x → f x ≡ h x → on_node t n f ≡ on_node t n h
same_change t n f h x is same = changed_at t n f x is ∙ (λ k. with_node t n (Some (same k))) ∙ sym (changed_at t n h x is)

-- a file has no parent
file_stays : (parent : ℕ) (x : Node) → is_dir x ≡ false → with_parent parent x ≡ x
file_stays parent x kind = by x.body kind
  where
    by : (b : Body) → is_dir (record x { body = b }) ≡ false → with_parent parent (record x { body = b }) ≡ record x { body = b }
    by (is_file file) h = refl
    by (is_directory d) h = let no : true ≡ false = h in cc

module _ (g : Geometry) (ok : IsGeometry g) (n : ℕ) (now : ℕ) where
  abbrev dated : Inode → Inode
  dated i = record i { ctime = now }

  pub of_there : (d : Disk) → CanLead g (IsThere n) d → IsOfNode g (pieces g d) n
  of_there d k = (node_stands g k.from d k.tree.nodes n k.may.node ok k.stands k.may.there).of

  -- its time may be set
  pub may_touch : (d e : Disk) (i : Inode) → e ≡ d → i ≡ (pieces g d).inodes n → CanLead g (IsThere n) d → MaySetAttributes g (pieces g e) n (dated i)
  may_touch d e i same loaded k =
      let of = of_there d k in
      subst (λ (x : Disk). MaySetAttributes g (pieces g x) n (dated i)) (sym same) (record {
        of = of;
        size = ap (λ (j : Inode). j.size) loaded;
        zones = ap (λ (j : Inode). j.zones) loaded;
        mode = ap (λ (j : Inode). is_mode j.mode) loaded ∙ (of.sound.inodes n of.marked).mode;
        kind = ap (λ (j : Inode). Rattle.volume.specs.Nodes.is_directory_mode j.mode) loaded;
      })

  pub touch_leads : (d e f : Disk) (i : Inode) → e ≡ d → i ≡ (pieces g d).inodes n → SetsAttributes g n (dated i) e f → Leads g (IsThere n) (touched now n) d f
  touch_leads d e f i same loaded r = node_leads g (IsThere n) n (with_ctime now) d f (λ b low. r.head b low ∙ ap (λ (x : Disk). x b) same) (λ c t s may.
      let stands = node_stands g c d t.nodes n may.node ok s may.there in
      let s1 = subst (λ (x : Disk). SetsAttributes g n (dated i) x f) same r in
      let s2 = subst (λ (j : Inode). SetsAttributes g n (dated j) d f) loaded s1 in
      record {
        node = may.node;
        there = may.there;
        becomes = subst (λ (z : Node). BecomesAt g (pieces g d) (pieces g f) n (Some z)) (ap (with_ctime now) stands.node)
            (s2.becomes (may_touch d d ((pieces g d).inodes n) refl refl (record { from = c; tree = t; stands = s; may = may })));
      })

  module _ (parent : ℕ) where
    -- its parent
    pub may_parent : (d : Disk) → CanLead g (MaySettle n parent true) d → MaySetParent g (pieces g d) n parent
    may_parent d k = record { of = directory_stands g k.from d k.tree.nodes n k.may.node ok k.stands k.may.there k.may.kind; some = k.may.some }

    pub parent_leads : (d e : Disk) → SetsParent g n parent d e → Leads g (MaySettle n parent true) (λ t. on_node t n (with_parent parent)) d e
    parent_leads d e r = node_leads g (MaySettle n parent true) n (with_parent parent) d e r.head (λ c t s may. record {
      node = may.node;
      there = may.there;
      becomes = becomes_at g (pieces g d) (pieces g e) n _ _ (ap (with_parent parent) (node_stands g c d t.nodes n may.node ok s may.there).node)
          (r.becomes (may_parent d (record { from = c; tree = t; stands = s; may = may })));
    })

    -- it is there still
    then_there : (t : Tree) → MaySettle n parent true t → IsThere n (on_node t n (with_parent parent))
    then_there t may = record {
      node = with_parent parent may.node;
      there = ap (λ (u : Tree). u.nodes n) (changed_at t n (with_parent parent) may.node may.there) ∙ put-same t.nodes n (Some (with_parent parent may.node));
    }

    pub settled_directory : (d e f : Disk) → SetsParent g n parent d e → Leads g (IsThere n) (touched now n) e f → Leads g (MaySettle n parent true) (settled now n parent) d f
    settled_directory d e f r s = leads_as g (MaySettle n parent true) _ _ d f (λ t may. changed_twice t n (with_parent parent) (with_ctime now) may.node may.there)
        (leads_then g (MaySettle n parent true) (IsThere n) _ (touched now n) d e f then_there (parent_leads d e r) s)

    pub can_touch : (d e : Disk) → SetsParent g n parent d e → CanLead g (MaySettle n parent true) d → CanLead g (IsThere n) e
    can_touch d e r k = can_then g (MaySettle n parent true) (IsThere n) _ d e then_there (parent_leads d e r) k

    pub settled_file : (d e : Disk) → Leads g (IsThere n) (touched now n) d e → Leads g (MaySettle n parent false) (settled now n parent) d e
    settled_file d e r = record {
      each = λ c t s may.
          let done = r.each c t s (record { node = may.node; there = may.there }) in
          subst (λ (u : Tree). Stands g c e u.nodes)
          (same_change t n (with_ctime now) (λ moved. with_ctime now (with_parent parent moved)) may.node may.there (ap (with_ctime now) (sym (file_stays parent may.node may.kind)))) done;
    }

    pub file_touch : (d : Disk) → CanLead g (MaySettle n parent false) d → CanLead g (IsThere n) d
    file_touch d k = record { from = k.from; tree = k.tree; stands = k.stands; may = record { node = k.may.node; there = k.may.there } }
