-- Moves that always fit.
use Rattle.std.proofs.Common.{◌≡◌, ◌≤◌, ◌+◌, ℕ, Bool, true, false, Some, None, length, refl, sym, ap, subst, ◌∙◌, ◌*◌, arith}
use mathlib.Core.Logic.{inl, inr}
use Rattle.std.specs.Prelude.{Option, is_some, nat_lt}
use Rattle.std.specs.Ordering.{eq_by_cmp}
use Rattle.std.proofs.lemmas.Bool.{cases_Bool, cases_eq}
use Rattle.lemmas.proofs.Bools.{false_not_true, to_T}
use Rattle.lemmas.proofs.Options.{some_same}
use Rattle.layout.specs.declared.Geometry.{Geometry}
use Rattle.layout.specs.Places.{IsGeometry}
use Rattle.tree.specs.Names.{Name, inode_of, name_cmp, with_name, without_name}
use Rattle.tree.specs.Tree.{Body, Node, Tree, is_dir, is_directory, is_file, names_of, on_node}
use Rattle.tree.specs.IsTree.{IsBody}
use Rattle.tree.specs.Walk.{Place}
use Rattle.tree.specs.Changes.{fewer_links, with_link_lost, with_names}
use Rattle.tree.specs.Space.{data_zones, numbers_in_zone, pages_of, zones_of, zones_used}
use Rattle.tree.specs.ZonesNeeded.{zones_needed}
use Rattle.tree.proofs.Entries.{gone_name, other_name, weigh_with_name_over}
use Rattle.tree.proofs.Fewer.{nameless_less, nodes_less, on_node_less, with_node_less, without_entry_less}
use Rattle.tree.proofs.Places.{without_name_fits}
use Rattle.tree.proofs.Totals.{only_nothing, weigh_one}
use Rattle.tree.proofs.Views.{on_node_at, on_node_elsewhere, view_gained}
use Rattle.tree.proofs.Weights.{weigh_with_name, weigh_without_name}
use Rattle.volume.specs.Reading.{Disk}
use Rattle.volume.specs.Pieces.{pieces}
use Rattle.volume.specs.Holds.{HoldsVolume}
use Rattle.volume.proofs.Entries.{same_by_cmp}
use Rattle.volume.proofs.Sums.{count_most}
use Rattle.zone.specs.Room.{taken_by}
use Rattle.zone.specs.ZoneSteps.{marked_in}
use Rattle.zone.proofs.Room.{nodes_take_marked}
use Rattle.file.proofs.Rest.{wide}
use Rattle.inode_operations.specs.declared.moves.Move.{Move}
use Rattle.inode_operations.specs.Replaced.{without_it}
use Rattle.inode_operations.specs.Whole.{links_of, moved, moved_within, out_of, within}
use Rattle.calls_rename.specs.MoveAsked.{IsAsked}
use Rattle.calls_rename.proofs.Between.{in_names, less, out_here, out_names, out_other, zones_are, zones_out}
use Rattle.calls_rename.proofs.Possible.{may_move_onto}
use Rattle.calls_rename.specs.Laws.{FitsDropped, FitsOver, FitsWithin}

-- a tree that a volume holds takes the zones that are marked
pub takes_marked : (g : Geometry) (d : Disk) (t : Tree) → IsGeometry g → HoldsVolume g d t → zones_used g t ≡ marked_in g (pieces g d)
takes_marked g d t ok holds = ap (taken_by g) holds.nodes.nodes ∙ nodes_take_marked g (pieces g d) ok holds.nodes.sound

-- so it fits
fits_before : (g : Geometry) (d : Disk) (t : Tree) → IsGeometry g → HoldsVolume g d t → zones_used g t ≤ data_zones g
fits_before g d t ok holds =
    let all = takes_marked g d t ok holds in
    let few : marked_in g (pieces g d) ≤ data_zones g = count_most (λ k. (pieces g d).zone_map (k + 1)) (data_zones g) in
    omega (arith, all, few)

-- Directories with a name less, and one more.

-- as many names, as many zones
as_many : (g : Geometry) (k l : ℕ) → k ≡ l
    → zones_needed (numbers_in_zone g) (λ q. nat_lt q (pages_of g (64 * (k + 2)))) ≡ zones_needed (numbers_in_zone g) (λ q. nat_lt q (pages_of g (64 * (l + 2))))
as_many g k l same = ap (λ n. zones_needed (numbers_in_zone g) (λ q. nat_lt q (pages_of g (64 * (n + 2))))) same

-- a name that leads elsewhere
name_over : (g : Geometry) (now : ℕ) (name : Name) (n : ℕ) (x : Node) (b : Body) (q : ℕ) → IsBody g b → is_dir (record x { body = b }) ≡ true
    → inode_of (names_of (Some (record x { body = b }))) name ≡ Some q
    → zones_of g (Some (with_names now (λ names. with_name names name n) (record x { body = b }))) ≡ zones_of g (Some (record x { body = b }))
name_over g now name n x (is_file f) q fits kind found = absurd (false_not_true kind)
name_over g now name n x (is_directory d) q fits kind found =
    let over = weigh_with_name_over (λ _. 1) name n q d.names (to_T _ fits.sorted) found in
    let a = weigh_one (with_name d.names name n) in
    let b = weigh_one d.names in
    as_many g (length (with_name d.names name n)) (length d.names) (omega (arith, over, a, b))

-- a name in place of another
name_changed : (g : Geometry) (now k : ℕ) (old new : Name) (n m : ℕ) (x : Node) (b : Body) → IsBody g b → is_dir (record x { body = b }) ≡ true
    → inode_of (names_of (Some (record x { body = b }))) old ≡ Some m → inode_of (names_of (Some (record x { body = b }))) new ≡ None
    → zones_of g (Some (with_names now (λ names. with_name names new n) (less now old k (record x { body = b })))) ≡ zones_of g (Some (record x { body = b }))
name_changed g now k old new n m x (is_file f) fits kind found free = absurd (false_not_true kind)
name_changed g now k old new n m x (is_directory d) fits kind found free =
    let gone : inode_of (without_name d.names old) new ≡ None = elim (cases_Bool (eq_by_cmp name_cmp old new)) [
      | inl tie ↦ ap (inode_of (without_name d.names old)) (sym (same_by_cmp old new tie)) ∙ gone_name d.names old
      | inr differ ↦ other_name d.names old new differ ∙ free
    ] in
    let out = weigh_without_name (λ _. 1) old m d.names fits.sorted found in
    let in_ = weigh_with_name (λ _. 1) new n (without_name d.names old) gone in
    let a = weigh_one (with_name (without_name d.names old) new n) in
    let b = weigh_one (without_name d.names old) in
    let c = weigh_one d.names in
    as_many g (length (with_name (without_name d.names old) new n)) (length d.names) (omega (arith, out, in_, a, b, c))

-- a name less
less_fits : (g : Geometry) (now : ℕ) (name : Name) (k : ℕ) (x : Node) (b : Body) → IsBody g b → IsBody g (less now name k (record x { body = b })).body
less_fits g now name k x (is_file f) fits = fits
less_fits g now name k x (is_directory d) fits = without_name_fits d name fits

module _ (g : Geometry) (d : Disk) (t : Tree) (m : Move) (there : Option ℕ) (from to node : Node) (ok : IsGeometry g) (holds : HoldsVolume g d t)
    (a : IsAsked g t m there from to node) where
  -- the nodes without the name are bodies
  out_fits : (k : ℕ) (x : Node) → (out_of m t).nodes k ≡ Some x → IsBody g x.body
  out_fits k x is = elim (cases_eq k m.from) [
    | inl e ↦
        let same : less m.now m.old.now (links_of m) from ≡ x = some_same _ _ (sym (out_here t m from a.from_there) ∙ sym (ap (out_of m t).nodes e) ∙ is) in
        subst (λ (y : Node). IsBody g y.body) same
        (less_fits g m.now m.old.now (links_of m) from from.body (a.tree.nodes.each m.from from a.from_there).body)
    | inr apart ↦ (a.tree.nodes.each k x (sym (out_other t m k apart) ∙ is)).body
  ]

  -- and take no more zones
  out_less : zones_used g (out_of m t) ≤ zones_used g t
  out_less =
      let place : Place = record { directory = m.from; names = names_of (Some from); name = m.old.now } in
      let all = nodes_less g (on_node t m.from (with_names m.now (out_names t m))) (out_of m t) (λ k. let e = zones_out t m g k in omega (arith, e)) in
      let fewer = without_entry_less g (wide g ok) t m.now place in
      omega (arith, all, fewer)

-- what is there
some_number : (o : Option ℕ) → is_some o ≡ true → (n : ℕ) × (o ≡ Some n)
some_number None h = absurd (false_not_true h)
some_number (Some n) h = (n, refl)

-- over a name
module _ (g : Geometry) (d : Disk) (t : Tree) (m : Move) (q : ℕ) (from to node : Node) (ok : IsGeometry g) (holds : HoldsVolume g d t)
    (a : IsAsked g t m (Some q) from to node) where
  over_same : (k : ℕ) → zones_of g ((moved m t).nodes k) ≡ zones_of g ((out_of m t).nodes k)
  over_same k =
      let goal = (may_move_onto g t m q from to node ok a).put.out in
      let y = goal.node in
      let y_there = goal.parent.there in
      let found = some_number (inode_of (names_of (Some y)) m.new.now) goal.has in
      let one : zones_of g (Some (with_names m.now (in_names t m) y)) ≡ zones_of g (Some y) + 0 =
      (let same = name_over g m.now m.new.now m.number y y.body found.0 (out_fits g d t m (Some q) from to node ok holds a m.to y y_there) goal.parent.kind found.1 in omega (arith, same)) in
      let all = view_gained (zones_of g) (out_of m t) m.to (with_names m.now (in_names t m)) 0 (ap is_some y_there)
      (λ x e. subst (λ (z : Node). zones_of g (Some (with_names m.now (in_names t m) z)) ≡ zones_of g (Some z) + 0) (some_same y x (sym y_there ∙ e)) one) k in
      let none = only_nothing m.to 0 k refl in
      let last = zones_are t m g k in
      omega (arith, all, none, last)

  over_less : zones_used g (moved m t) ≤ zones_used g t
  over_less =
      let all = nodes_less g (out_of m t) (moved m t) (λ k. let e = over_same k in omega (arith, e)) in
      let fewer = out_less g d t m (Some q) from to node ok holds a in
      omega (arith, all, fewer)

-- and without what had it
dropped_less : (g : Geometry) (now n parent : ℕ) (directory : Bool) (t : Tree) → zones_used g (without_it now n parent directory t) ≤ zones_used g t
dropped_less g now n parent true t =
    let parents = on_node_less g t parent (fewer_links 1) (λ x. let same : zones_of g (Some (fewer_links 1 x)) ≡ zones_of g (Some x) = refl in omega (arith, same)) in
    let gone = with_node_less g (on_node t parent (fewer_links 1)) n None (omega arith) in
    omega (arith, parents, gone)
dropped_less g now n parent false t =
    let lost = on_node_less g t n (with_link_lost now) (λ x. let same : zones_of g (Some (with_link_lost now x)) ≡ zones_of g (Some x) = refl in omega (arith, same)) in
    let gone = nameless_less g (on_node t n (with_link_lost now)) n in
    omega (arith, lost, gone)

-- within a directory
module _ (g : Geometry) (t : Tree) (m : Move) (from to node : Node) (a : IsAsked g t m None from to node) (e : m.from ≡ m.to) where
  free : inode_of (names_of (Some from)) m.new.now ≡ None
  free = ap (λ (x : Node). inode_of (names_of (Some x)) m.new.now) (some_same from to (sym a.from_there ∙ ap t.nodes e ∙ a.to_there)) ∙ a.finds

  here : zones_of g ((on_node (out_of m t) m.from (with_names m.now (in_names t m))).nodes m.from) ≡ zones_of g (t.nodes m.from)
  here =
      ap (zones_of g) (on_node_at (out_of m t) m.from (with_names m.now (in_names t m)) (less m.now m.old.now (links_of m) from) (out_here t m from a.from_there))
      ∙ name_changed g m.now (links_of m) m.old.now m.new.now m.number m.number from from.body (a.tree.nodes.each m.from from a.from_there).body a.from_kind a.leads free
      ∙ ap (zones_of g) (sym a.from_there)

  within_same : (k : ℕ) → zones_of g ((moved_within m t).nodes k) ≡ zones_of g (t.nodes k)
  within_same k =
      zones_are t (within m) g k
      ∙ elim (cases_eq k m.from) [
        | inl is ↦ ap (λ j. zones_of g ((on_node (out_of m t) m.from (with_names m.now (in_names t m))).nodes j)) is ∙ here ∙ ap (λ j. zones_of g (t.nodes j)) (sym is)
        | inr apart ↦ ap (zones_of g) (on_node_elsewhere (out_of m t) m.from (with_names m.now (in_names t m)) k apart ∙ out_other t m k apart)
      ]

pub fits_within : FitsWithin
fits_within g d t m from to node ok holds a e =
    let before = fits_before g d t ok holds in
    let all = nodes_less g t (moved_within m t) (λ k. let same = within_same g t m from to node a e k in omega (arith, same)) in
    omega (arith, before, all)

pub fits_over : FitsOver
fits_over g d t m q from to node ok holds a =
    let before = fits_before g d t ok holds in
    let all = over_less g d t m q from to node ok holds a in
    omega (arith, before, all)

pub fits_dropped : FitsDropped
fits_dropped g d t m q directory from to node ok holds a =
    let over = fits_over g d t m q from to node ok holds a in
    let gone = dropped_less g m.now q m.to directory (moved m t) in
    omega (arith, over, gone)
