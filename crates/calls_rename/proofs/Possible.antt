-- The moves may be made.
use Rattle.std.proofs.Common.{◌≡◌, ◌≢◌, ◌≤◌, ◌+◌, ℕ, Bool, true, false, Option, Some, None, refl, sym, ap, ◌∙◌, arith}
use mathlib.Core.Logic.{inl, inr}
use Rattle.std.specs.Prelude.{is_some}
use Rattle.std.specs.Ordering.{eq_by_cmp}
use Rattle.std.proofs.lemmas.Bool.{cases_Bool, cases_eq, cond-true, eqb-false}
use Rattle.lemmas.proofs.Bools.{false_not_true}
use Rattle.lemmas.proofs.Options.{some_same}
use Rattle.layout.specs.declared.Geometry.{Geometry}
use Rattle.layout.specs.Places.{IsGeometry}
use Rattle.lemmas.specs.Sums.{one_if, put, sum_below}
use Rattle.tree.specs.Names.{inode_of, name_cmp, with_name}
use Rattle.tree.specs.Tree.{Node, Tree, is_dir, most_size, names_of, size_of}
use Rattle.tree.specs.Changes.{with_names}
use Rattle.tree.specs.Space.{data_zones, zones_used}
use Rattle.tree.proofs.Entries.{other_name}
use Rattle.tree.proofs.Growth.{grown_fits}
use Rattle.tree.proofs.Shapes.{kind_of}
use Rattle.tree.proofs.Totals.{weigh_one}
use Rattle.tree.proofs.Views.{on_node_there}
use Rattle.tree.proofs.Weights.{weigh}
use Rattle.volume.proofs.Entries.{same_by_cmp}
use Rattle.zone.specs.Room.{taken_by}
use Rattle.descriptors.specs.Files.{Files, HasFiles}
use Rattle.inode_operations.specs.declared.moves.Move.{Move}
use Rattle.inode_operations.specs.Moves.{IsParent, MaySettle, MayTakeOut}
use Rattle.inode_operations.specs.Replaced.{MayDropReplaced}
use Rattle.inode_operations.specs.Whole.{MayMoveOver, MayMoveTo, MayMoveWithin, into, links_of, moved, out_of, within}
use Rattle.inode_operations.proofs.Asked.{move_to_may_be_made}
use Rattle.calls_rename.specs.MoveAsked.{IsAsked}
use Rattle.calls_rename.specs.MoveLaws.{MayDropOther, MayMoveInDirectory, MayMoveOnto, MayMoveWhereItFits}
use Rattle.calls_rename.proofs.Apart.{name_in, not_its_goal, not_its_place, size_fits}
use Rattle.calls_rename.proofs.Between.{IsLess, changed_then, in_names, into_here, into_other, is_less, is_one_still, less, moved_other, open_stay, out_here, out_other, size_with, some_stay, zones_are}

-- what is there
some_node : (o : Option Node) → is_some o ≡ true → (x : Node) × (o ≡ Some x)
some_node None h = absurd (false_not_true h)
some_node (Some x) h = (x, refl)

few : (b : Bool) → one_if b ≤ 1
few true = omega arith
few false = omega arith

module _ (g : Geometry) (t : Tree) (m : Move) (there : Option ℕ) (from to node : Node) (ok : IsGeometry g) (a : IsAsked g t m there from to node) where
  pub is_parent : (n : ℕ) (x : Node) → t.nodes n ≡ Some x → is_dir x ≡ true → IsParent t n x
  is_parent n x x_there kind = record { there = x_there; kind = kind; links = (a.tree.nodes.each n x x_there).links }

  pub may_take_out : MayTakeOut m.from m.old.now t
  may_take_out = record {
    node = from;
    parent = is_parent m.from from a.from_there a.from_kind;
    size = size_fits g from.body (a.tree.nodes.each m.from from a.from_there).body;
    named = name_in g from from.body m.old.now (a.tree.nodes.each m.from from a.from_there).body (ap is_some a.leads);
    has = ap is_some a.leads;
  }

  pub not_from : m.number ≢ m.from
  not_from = not_its_place g t a.tree m.number m.from from m.old.now a.from_there a.from_kind a.leads

  pub not_to : m.number ≢ m.to
  not_to = not_its_goal g t a.tree m.number m.to to node a.to_there a.to_kind a.node_there a.apart

  to_some : m.to ≢ 0
  to_some e = let some = (a.tree.nodes.inside m.to (ap is_some a.to_there)).0 in absurd (omega (arith, some, e))

  number_some : m.number ≢ 0
  number_some e = let some = (a.tree.nodes.inside m.number (ap is_some a.node_there)).0 in absurd (omega (arith, some, e))

  may_settle : MaySettle m.number m.to m.is_directory (into m t)
  may_settle = record {
    node = node;
    there = into_other t m m.number not_to ∙ out_other t m m.number not_from ∙ a.node_there;
    kind = a.kind;
    some = to_some;
  }

  -- the same node
  same_node : m.to ≡ m.from → to ≡ from
  same_node e = some_same to from (sym a.to_there ∙ ap t.nodes e ∙ a.from_there)

  from_less : IsLess from (less m.now m.old.now (links_of m) from) m.old.now
  from_less = is_less g m.now m.old.now (links_of m) from from.body (a.tree.nodes.each m.from from a.from_there).body a.from_kind

  module _ (q : ℕ) (is_there : there ≡ Some q) where
    finds : inode_of (names_of (Some to)) m.new.now ≡ Some q
    finds = a.finds ∙ is_there

    differs : m.number ≢ q
    differs = eqb-false m.number q (sym (ap (Rattle.tree.specs.NameCalls.is_same m.number) is_there) ∙ a.other)

    other_names : m.to ≡ m.from → eq_by_cmp name_cmp m.old.now m.new.now ≡ false
    other_names e = elim (cases_Bool (eq_by_cmp name_cmp m.old.now m.new.now)) [
      | inr differ ↦ differ
      | inl tie ↦ absurd (differs (some_same m.number q (
          sym a.leads ∙ ap (inode_of (names_of (Some from))) (same_by_cmp m.old.now m.new.now tie)
          ∙ ap (λ (x : Node). inode_of (names_of (Some x)) m.new.now) (sym (same_node e)) ∙ finds)))
    ]

    goal : MayTakeOut m.to m.new.now (out_of m t)
    goal = elim (cases_eq m.to m.from) [
      | inl e ↦ record {
        node = less m.now m.old.now (links_of m) from;
        parent = record {
          there = ap (out_of m t).nodes e ∙ out_here t m from a.from_there;
          kind = from_less.kind;
          links = let l = from_less.links in let n = (a.tree.nodes.each m.from from a.from_there).links in omega (arith, l, n);
        };
        size = from_less.size;
        named = a.named;
        has = ap is_some (
            ap (λ (names : Rattle.tree.specs.Names.Names). inode_of names m.new.now) from_less.names
            ∙ other_name (names_of (Some from)) m.old.now m.new.now (other_names e)
            ∙ ap (λ (x : Node). inode_of (names_of (Some x)) m.new.now) (sym (same_node e)) ∙ finds);
      }
      | inr apart ↦ record {
        node = to;
        parent = record { there = out_other t m m.to apart ∙ a.to_there; kind = a.to_kind; links = (a.tree.nodes.each m.to to a.to_there).links };
        size = size_fits g to.body (a.tree.nodes.each m.to to a.to_there).body;
        named = a.named;
        has = ap is_some finds;
      }
    ]

    over_is : MayMoveOver m t
    over_is = record { out = may_take_out; put = record { out = goal; some = number_some }; settle = may_settle }

    q_some : is_some ((moved m t).nodes q) ≡ true
    q_some = some_stay t m q ∙ a.tree.nodes.targets m.to q m.new.now (ap (λ (o : Option Node). inode_of (names_of o) m.new.now) a.to_there ∙ finds)

    drop_is : (f : Files) → HasFiles f t → MayDropReplaced f m.now q m.to m.is_directory (moved m t)
    drop_is f files = let other = some_node ((moved m t).nodes q) q_some in let over = open_stay t m in record {
      node = other.0;
      there = other.1;
      files = record { opened = over.files ∙ files.opened; descriptors = over.descriptors ∙ files.descriptors };
      changed = λ _. record {
        node = Rattle.tree.specs.Changes.more_links (links_of m) (with_names m.now (in_names t m) goal.node);
        there = moved_other t m m.to (λ e. not_to (sym e)) ∙ into_here t m goal.node goal.parent.there;
        time = changed_then m.now (links_of m) (in_names t m) goal.node goal.node.body goal.parent.kind;
      };
      apart = λ _. not_its_place g t a.tree q m.to to m.new.now a.to_there a.to_kind finds;
    }

  module _ (is_free : there ≡ None) where
    free : inode_of (names_of (Some to)) m.new.now ≡ None
    free = a.finds ∙ is_free

    within_is : m.from ≡ m.to → MayMoveWithin m t
    unfolding may_take_out
    within_is e = record {
      out = may_take_out;
      leads = a.leads;
      links =
          let due = a.tree.nodes.links m.from from a.from_there ∙ cond-true (is_dir from) _ _ a.from_kind in
          let most = few m.is_directory in
          omega (arith, due, most);
      named = a.named;
      free = ap (λ (x : Node). inode_of (names_of (Some x)) m.new.now) (sym (same_node (sym e))) ∙ free;
      settle = record {
        node = node;
        there = into_other t (within m) m.number not_from ∙ out_other t (within m) m.number not_from ∙ a.node_there;
        kind = a.kind;
        some = λ zero. to_some (sym e ∙ zero);
      };
    }

    module _ (apart : m.from ≢ m.to) (fits : zones_used g (moved m t) ≤ data_zones g) where
      to_there : (out_of m t).nodes m.to ≡ Some to
      to_there = out_other t m m.to (λ e. apart (sym e)) ∙ a.to_there

      at_to : (moved m t).nodes m.to ≡ Some (Rattle.tree.specs.Changes.more_links (links_of m) (with_names m.now (in_names t m) to))
      at_to = moved_other t m m.to (λ e. not_to (sym e)) ∙ into_here t m to to_there

      size : size_of to.body + 64 ≤ most_size
      size =
          let inside = (a.tree.nodes.inside m.to (ap is_some a.to_there)).1 in
          let kind = ap kind_of at_to ∙ is_one_still m.now (links_of m) (in_names t m) to to.body a.to_kind in
          let grown = grown_fits g ok (moved m t) m.to (omega (arith, inside)) kind fits in
          let same = ap (λ (o : Option Node). weigh (λ _. 1) (names_of o)) at_to in
          let count = weigh_one (names_of (Some (Rattle.tree.specs.Changes.more_links (links_of m) (with_names m.now (in_names t m) to)))) in
          let long = size_with m.now (links_of m) m.new.now m.number to to.body a.to_kind free in
          omega (arith, grown, same, count, long)

      abbrev named_to : Node
      named_to = with_names m.now (λ names. with_name names m.new.now m.number) to

      zones_same : zones_used g (moved m t) ≡ taken_by g (put (out_of m t).nodes m.to (Some named_to))
      zones_same =
          (λ i. sum_below (λ k. zones_are t m g k i) (g.inodes + 1))
          ∙ ap (λ (u : Tree). zones_used g u) (on_node_there (out_of m t) m.to (with_names m.now (in_names t m)) to to_there)

      to_is : MayMoveTo g m t
      to_is = move_to_may_be_made g m t ok (record {
        out = may_take_out;
        other = λ e. apart (sym e);
        not_from = not_from;
        not_to = not_to;
        parent = to;
        is_parent = is_parent m.to to a.to_there a.to_kind;
        size = size;
        named = a.named;
        free = free;
        fits = let s = zones_same in omega (arith, fits, s);
        node = node;
        there = a.node_there;
        kind = a.kind;
        some = number_some;
        some_parent = to_some;
      })

pub may_move_in_directory : MayMoveInDirectory
may_move_in_directory g t m from to node ok a e = within_is g t m None from to node ok a refl e

pub may_move_where_it_fits : MayMoveWhereItFits
may_move_where_it_fits g t m from to node ok a apart fits = to_is g t m None from to node ok a refl apart fits

pub may_move_onto : MayMoveOnto
may_move_onto g t m q from to node ok a = over_is g t m (Some q) from to node ok a q refl

pub may_drop_other : MayDropOther
may_drop_other g t m q from to node f ok a files = drop_is g t m (Some q) from to node ok a q refl f files
