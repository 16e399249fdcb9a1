-- The zones of a tree after a move to another directory.
use Rattle.std.proofs.Common.{◌≡◌, ◌≢◌, ◌-◌, ◌+◌, ℕ, true, Option, Some, None, refl, sym, ap, subst, ◌∙◌, arith, replicate}
use Rattle.std.specs.Prelude.{is_some}
use Rattle.lemmas.proofs.Bools.{false_not_true}
use Rattle.lemmas.proofs.Options.{some_same}
use Rattle.layout.specs.declared.Geometry.{Geometry}
use Rattle.layout.specs.Places.{IsGeometry}
use Rattle.tree.specs.Names.{Name, Names, inode_of, without_name}
use Rattle.tree.specs.Tree.{Body, Node, Tree, is_dir, is_directory, is_file, names_of, on_node, size_of}
use Rattle.tree.specs.IsTree.{IsBody}
use Rattle.tree.specs.Changes.{with_names}
use Rattle.tree.specs.Space.{numbers_in_zone, zones_of, zones_used}
use Rattle.tree.specs.ZonesNeeded.{zones_needed}
use Rattle.tree.proofs.Totals.{only_at, sum_moved, weigh_one}
use Rattle.tree.proofs.Views.{view_gained, view_lost}
use Rattle.tree.proofs.Weights.{weigh_without_name}
use Rattle.volume.specs.Reading.{Disk}
use Rattle.volume.specs.Pieces.{Pieces, pieces}
use Rattle.volume.specs.Holds.{HoldsVolume}
use Rattle.directory.specs.Directories.{before}
use Rattle.file.specs.PageChanges.{file_at}
use Rattle.file.specs.Changing.{written_at}
use Rattle.file.specs.Room.{TakesMore}
use Rattle.file.proofs.Spaces.{node_takes_held}
use Rattle.directory.specs.Names.{IsOfDirectory}
use Rattle.directory.proofs.Becoming.{may_change}
use Rattle.inode_operations.specs.Steps.{node_at}
use Rattle.inode_operations.specs.Stands.{NodeIs, Stands}
use Rattle.inode_operations.specs.Naming.{named}
use Rattle.inode_operations.proofs.Between.{directory_stands, node_stands, nothing_is_done}
use Rattle.inode_operations.proofs.Entering.{held_with_name, names_are}
use Rattle.calls_rename.specs.Sizes.{zones_of_size}
use Rattle.inode_operations.specs.declared.moves.Move.{Move}
use Rattle.inode_operations.specs.Whole.{moved, out_of}
use Rattle.calls_rename.specs.MoveAsked.{IsAsked}
use Rattle.calls_rename.specs.MoveZones.{MoveTakes}
use Rattle.calls_rename.proofs.Between.{in_names, out_names, out_other, zones_are, zones_out}

-- a directory with a name less is 64 bytes shorter
zones_less : (g : Geometry) (now : ℕ) (name : Name) (n : ℕ) (x : Node) (b : Body) (y : ℕ) → IsBody g b → is_dir (record x { body = b }) ≡ true
    → inode_of (names_of (Some (record x { body = b }))) name ≡ Some n → zones_of_size g (size_of b) ≡ zones_of_size g (size_of b - 64) + y
    → zones_of g (Some (record x { body = b })) ≡ zones_of g (Some (with_names now (λ names. without_name names name) (record x { body = b }))) + y
zones_less g now name n x (is_file f) y fits kind found more = absurd (false_not_true kind)
zones_less g now name n x (is_directory d) y fits kind found more =
    let less = weigh_without_name (λ _. 1) name n d.names fits.sorted found in
    let a = weigh_one (without_name d.names name) in
    let b = weigh_one d.names in
    let size : size_of (is_directory d) - 64 ≡ size_of (is_directory (record d { names = without_name d.names name })) = omega (arith, less, a, b) in
    more ∙ ap (λ s. zones_of_size g s + y) size

-- one with a name more takes what its entry's bytes take
module _ (g : Geometry) (d : Disk) (t : Tree) (n : ℕ) (x : Node) (name : Name) (number now size more : ℕ) (ok : IsGeometry g) (holds : HoldsVolume g d t)
    (there : t.nodes n ≡ Some x) (kind : is_dir x ≡ true) (free : inode_of (names_of (Some x)) name ≡ None) (size_is : size ≡ size_of x.body)
    (takes : TakesMore g (pieces g d) n size 64 more) where
  abbrev v : Pieces
  v = pieces g d

  s : Stands g d d t.nodes
  s = nothing_is_done g d t holds

  stands : NodeIs g d n x
  stands = node_stands g d d t.nodes n x ok s there

  of : IsOfDirectory g v n
  of = directory_stands g d d t.nodes n x ok s there kind

  its_size : (v.inodes n).size ≡ size_of (node_at g v n).body
  its_size = stands.size ∙ ap (λ (y : Node). size_of y.body) (sym stands.node)

  its_free : inode_of (before g v n).names name ≡ None
  its_free = ap (λ (names : Names). inode_of names name) (sym (names_are g v n of) ∙ ap (λ (y : Node). names_of (Some y)) stands.node) ∙ free

  held : zones_of g (Some (named now name number (node_at g v n))) ≡ zones_needed (numbers_in_zone g) (written_at g v n (v.inodes n).size (replicate 64 0)).held
  held = ap (zones_needed (numbers_in_zone g)) (held_with_name g v n of its_size name number now its_free (replicate 64 0) refl)

  zones_before : zones_of g (Some x) ≡ zones_needed (numbers_in_zone g) (file_at g v n).held
  zones_before = ap (zones_of g) (sym there) ∙ ap (λ (nodes : ℕ → Option Node). zones_of g (nodes n)) (sym s.nodes) ∙ node_takes_held g v n ok s.sound stands.of.marked

  pub zones_more : zones_of g (Some (named now name number x)) ≡ zones_of g (Some x) + more
  zones_more =
      let taken = subst (λ k. TakesMore g v n k 64 more) (size_is ∙ sym stands.size) takes (may_change g v n of) (replicate 64 0) refl in
      ap (λ (y : Node). zones_of g (Some (named now name number y))) (sym stands.node) ∙ held ∙ taken ∙ ap (λ z. z + more) (sym zones_before)

module _ (g : Geometry) (t : Tree) (m : Move) (from to node : Node) (a : IsAsked g t m None from to node) (apart : m.from ≢ m.to) (less more : ℕ)
    (goes : zones_of_size g (size_of from.body) ≡ zones_of_size g (size_of from.body - 64) + less)
    (comes : zones_of g (Some (named m.now m.new.now m.number to)) ≡ zones_of g (Some to) + more) where
  to_there : (out_of m t).nodes m.to ≡ Some to
  to_there = out_other t m m.to (λ e. apart (sym e)) ∙ a.to_there

  gone : (k : ℕ) → zones_of g (t.nodes k) ≡ zones_of g ((on_node t m.from (with_names m.now (out_names t m))).nodes k) + only_at m.from less k
  gone = view_lost (zones_of g) t m.from (with_names m.now (out_names t m)) less (ap is_some a.from_there) (λ x x_there.
      subst (λ (y : Node). zones_of g (Some y) ≡ zones_of g (Some (with_names m.now (out_names t m) y)) + less) (some_same from x (sym a.from_there ∙ x_there))
      (zones_less g m.now m.old.now m.number from from.body less (a.tree.nodes.each m.from from a.from_there).body a.from_kind a.leads goes))

  come : (k : ℕ) → zones_of g ((on_node (out_of m t) m.to (with_names m.now (in_names t m))).nodes k) ≡ zones_of g ((out_of m t).nodes k) + only_at m.to more k
  come = view_gained (zones_of g) (out_of m t) m.to (with_names m.now (in_names t m)) more (ap is_some to_there) (λ x x_there.
      subst (λ (y : Node). zones_of g (Some (with_names m.now (in_names t m) y)) ≡ zones_of g (Some y) + more) (some_same to x (sym to_there ∙ x_there)) comes)

  pub zones_moved : zones_used g (moved m t) + less ≡ zones_used g t + more
  zones_moved =
      let inside_from = (a.tree.nodes.inside m.from (ap is_some a.from_there)).1 in
      let inside_to = (a.tree.nodes.inside m.to (ap is_some a.to_there)).1 in
      sum_moved (λ k. zones_of g (t.nodes k)) (λ k. zones_of g ((moved m t).nodes k)) m.from less m.to more (g.inodes + 1) (omega (arith, inside_from)) (omega (arith, inside_to))
      (λ k. let p = gone k in let q = come k in let r = zones_are t m g k in let s = zones_out t m g k in omega (arith, p, q, r, s))

pub move_takes : MoveTakes
move_takes g d t m from to node less more ok holds a apart goes takes =
    zones_moved g t m from to node a apart less more goes
    (zones_more g d t m.to to m.new.now m.number m.now (size_of to.body) more ok holds a.to_there a.to_kind a.finds refl takes)
