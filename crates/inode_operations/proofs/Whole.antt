-- Whole moves.
use Rattle.std.proofs.Common.{◌≡◌, ◌≤◌, ◌+◌, ◌-◌, ℕ, true, false, sym, ap, ◌∙◌, arith, Some}
use Rattle.layout.specs.declared.Geometry.{Geometry}
use Rattle.layout.specs.Places.{IsGeometry}
use Rattle.lemmas.specs.Sums.{one_if}
use Rattle.tree.specs.Names.{Name, Names, inode_of, with_name, without_name}
use Rattle.tree.specs.Tree.{Body, is_file, is_directory, Node, Tree, is_dir, names_of, on_node}
use Rattle.tree.specs.Changes.{fewer_links, more_links, with_ctime, with_names, with_parent}
use Rattle.volume.specs.Reading.{Disk}
use Rattle.volume.specs.Pieces.{pieces}
use Rattle.directory.specs.Directories.{before}
use Rattle.directory.specs.Names.{MayRename, MayRenameIt, Renames}
use Rattle.inode_operations.proofs.Between.{directory_stands, node_stands}
use Rattle.inode_operations.proofs.Entering.{names_are}
use Rattle.inode_operations.specs.declared.moves.Move.{Move}
use Rattle.inode_operations.specs.Leads.{Leads, CanLead}
use Rattle.inode_operations.specs.Moves.{MayPutIn, MayPutOver, MaySettle, MayTakeOut, settled, with_entry_and_links}
use Rattle.inode_operations.specs.Whole.{links_of, out_of, into, moved, within, moved_within, MayMoveTo, MayMoveOver, MayMoveWithin, MovedIsMoved}
use Rattle.inode_operations.proofs.Leading.{leads_then, leads_as, can_then, node_leads, becomes_at}
use Rattle.inode_operations.proofs.Settling.{changed_twice, same_change}
use Rattle.inode_operations.proofs.Parents.{may_remove}

pub moved_is_moved : MovedIsMoved
moved_is_moved m t old new node from old_name to new_name kind i =
    let a = old_name i in
    let k = one_if (kind i) in
    on_node (on_node (on_node (on_node (on_node t (from i) (with_names m.now (λ names. without_name names a))) (from i) (fewer_links k))
    (to i) (with_names m.now (λ names. with_name names (new_name i) m.number))) (to i) (more_links k))
    m.number (λ moving. with_ctime m.now (with_parent (to i) moving))

module _ (g : Geometry) (m : Move) where
  -- the first step
  pub can_out_to : (d : Disk) → CanLead g (MayMoveTo g m) d → CanLead g (MayTakeOut m.from m.old.now) d
  can_out_to d k = record { from = k.from; tree = k.tree; stands = k.stands; may = k.may.out }

  pub can_out_over : (d : Disk) → CanLead g (MayMoveOver m) d → CanLead g (MayTakeOut m.from m.old.now) d
  can_out_over d k = record { from = k.from; tree = k.tree; stands = k.stands; may = k.may.out }

  module _ (d e : Disk) (out : Leads g (MayTakeOut m.from m.old.now) (out_of m) d e) where
    -- the second
    pub can_put_to : CanLead g (MayMoveTo g m) d → CanLead g (MayPutIn g m.now m.to m.new.now m.number) e
    can_put_to k = record { from = k.from; tree = out_of m k.tree; stands = out.each k.from k.tree k.stands k.may.out; may = k.may.put }

    pub can_put_over : CanLead g (MayMoveOver m) d → CanLead g (MayPutOver m.to m.new.now m.number) e
    can_put_over k = record { from = k.from; tree = out_of m k.tree; stands = out.each k.from k.tree k.stands k.may.out; may = k.may.put }

    module _ (f : Disk) where
      -- and the third
      pub can_settle_to : Leads g (MayPutIn g m.now m.to m.new.now m.number) (with_entry_and_links m.now m.to m.new.now m.number (links_of m)) e f
          → CanLead g (MayMoveTo g m) d → CanLead g (MaySettle m.number m.to m.is_directory) f
      can_settle_to put k = record { from = k.from; tree = into m k.tree; stands = put.each k.from (out_of m k.tree) (out.each k.from k.tree k.stands k.may.out) k.may.put; may = k.may.settle }

      pub can_settle_over : Leads g (MayPutOver m.to m.new.now m.number) (with_entry_and_links m.now m.to m.new.now m.number (links_of m)) e f
          → CanLead g (MayMoveOver m) d → CanLead g (MaySettle m.number m.to m.is_directory) f
      can_settle_over put k = record { from = k.from; tree = into m k.tree; stands = put.each k.from (out_of m k.tree) (out.each k.from k.tree k.stands k.may.out) k.may.put; may = k.may.settle }

      -- all of them
      pub moved_to : (h : Disk) → Leads g (MayPutIn g m.now m.to m.new.now m.number) (with_entry_and_links m.now m.to m.new.now m.number (links_of m)) e f
          → Leads g (MaySettle m.number m.to m.is_directory) (settled m.now m.number m.to) f h → Leads g (MayMoveTo g m) (moved m) d h
      moved_to h put settle = record { each = λ c t s may. settle.each c (into m t) (put.each c (out_of m t) (out.each c t s may.out) may.put) may.settle }

      pub moved_over : (h : Disk) → Leads g (MayPutOver m.to m.new.now m.number) (with_entry_and_links m.now m.to m.new.now m.number (links_of m)) e f
          → Leads g (MaySettle m.number m.to m.is_directory) (settled m.now m.number m.to) f h → Leads g (MayMoveOver m) (moved m) d h
      moved_over h put settle = record { each = λ c t s may. settle.each c (into m t) (put.each c (out_of m t) (out.each c t s may.out) may.put) may.settle }

-- a name in place of another, and the links that went and came
both_ways : (now k : ℕ) (old new : Name) (n : ℕ) (x : Node) → is_dir x ≡ true → k ≤ x.links
    → with_names now (λ names. with_name (without_name names old) new n) x
    ≡ more_links k (with_names now (λ names. with_name names new n) (fewer_links k (with_names now (λ names. without_name names old) x)))
both_ways now k old new n x kind few = by x.body kind
  where
    back : x.links ≡ x.links - k + k
    back = omega (arith, few)

    by : (b : Body) → is_dir (record x { body = b }) ≡ true → with_names now (λ names. with_name (without_name names old) new n) (record x { body = b })
        ≡ more_links k (with_names now (λ names. with_name names new n) (fewer_links k (with_names now (λ names. without_name names old) (record x { body = b }))))
    by (is_file file) h = let no : false ≡ true = h in cc
    by (is_directory d) h = λ i. record x { body = is_directory (record d { names = with_name (without_name d.names old) new n }); mtime = now; ctime = now; links = back i }

module _ (g : Geometry) (ok : IsGeometry g) (m : Move) where
  -- one directory is changed four times
  within_is_both : (t : Tree) → MayMoveWithin m t
      → on_node t m.from (with_names m.now (λ names. with_name (without_name names m.old.now) m.new.now m.number)) ≡ into (within m) t
  within_is_both t may =
      let n = m.from in
      let x = may.out.node in
      let there = may.out.parent.there in
      let k = links_of m in
      let f1 = with_names m.now (λ names. without_name names m.old.now) in
      let f2 = fewer_links k in
      let f3 = with_names m.now (λ names. with_name names m.new.now m.number) in
      let f4 = more_links k in
      same_change t n (with_names m.now (λ names. with_name (without_name names m.old.now) m.new.now m.number)) (λ y. f4 (f3 (f2 (f1 y)))) x there (both_ways m.now k m.old.now m.new.now m.number x may.out.parent.kind may.links)
      ∙ sym (changed_twice t n (λ y. f3 (f2 (f1 y))) f4 x there)
      ∙ ap (λ (u : Tree). on_node u n f4) (sym (changed_twice t n (λ y. f2 (f1 y)) f3 x there))
      ∙ ap (λ (u : Tree). on_node (on_node u n f3) n f4) (sym (changed_twice t n f1 f2 x there))

  pub may_rename : (d : Disk) → (k : CanLead g (MayMoveWithin m) d) → MayRename g (pieces g d) m.from m.old.now m.new.now m.number
  may_rename d k =
      let out = k.may.out in
      let of = directory_stands g k.from d k.tree.nodes m.from out.node ok k.stands out.parent.there out.parent.kind in
      let same : (before g (pieces g d) m.from).names ≡ names_of (Some out.node) =
      sym (names_are g (pieces g d) m.from of) ∙ ap (λ (y : Node). names_of (Some y)) (node_stands g k.from d k.tree.nodes m.from out.node ok k.stands out.parent.there).node in
      record {
        has = may_remove g ok m.from m.now m.old.now d (record { from = k.from; tree = k.tree; stands = k.stands; may = out });
        leads = ap (λ (names : Names). inode_of names m.old.now) same ∙ k.may.leads;
        named = k.may.named;
        free = ap (λ (names : Names). inode_of names m.new.now) same ∙ k.may.free;
      }

  pub may_rename_it : (d : Disk) → CanLead g (MayMoveWithin m) d → MayRenameIt g (pieces g d) m.from m.old.now m.new.now
  may_rename_it d k = (m.number, may_rename d k)

  pub rename_leads : (d e : Disk) → Renames g m.from m.old.now m.new.now m.now d e → Leads g (MayMoveWithin m) (into (within m)) d e
  rename_leads d e r = leads_as g (MayMoveWithin m) _ _ d e within_is_both
      (node_leads g (MayMoveWithin m) m.from (with_names m.now (λ names. with_name (without_name names m.old.now) m.new.now m.number)) d e r.head (λ c t s may. record {
        node = may.out.node;
        there = may.out.parent.there;
        becomes = becomes_at g (pieces g d) (pieces g e) m.from _ _
            (ap (with_names m.now (λ names. with_name (without_name names m.old.now) m.new.now m.number)) (node_stands g c d t.nodes m.from may.out.node ok s may.out.parent.there).node)
            (r.becomes m.number (may_rename d (record { from = c; tree = t; stands = s; may = may })));
      }))

  pub then_settle : (d e : Disk) → Renames g m.from m.old.now m.new.now m.now d e → CanLead g (MayMoveWithin m) d → CanLead g (MaySettle m.number m.from m.is_directory) e
  then_settle d e r k = can_then g (MayMoveWithin m) (MaySettle m.number m.from m.is_directory) (into (within m)) d e (λ t may. may.settle) (rename_leads d e r) k

  pub settled_within : (d e f : Disk) → Renames g m.from m.old.now m.new.now m.now d e → Leads g (MaySettle m.number m.from m.is_directory) (settled m.now m.number m.from) e f
      → Leads g (MayMoveWithin m) (moved_within m) d f
  settled_within d e f r s = leads_then g (MayMoveWithin m) (MaySettle m.number m.from m.is_directory) (into (within m)) (settled m.now m.number m.from) d e f (λ t may. may.settle) (rename_leads d e r) s
