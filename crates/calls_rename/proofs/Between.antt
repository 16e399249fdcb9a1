-- The nodes between the steps of a move.
use Rattle.std.proofs.Common.{◌≡◌, ◌≢◌, ◌≤◌, ◌+◌, ◌*◌, ℕ, true, Some, None, length, refl, ◌∙◌, arith}
use Rattle.std.specs.Prelude.{is_some}
use Rattle.lemmas.proofs.Bools.{false_not_true}
use Rattle.layout.specs.declared.Geometry.{Geometry}
use Rattle.tree.specs.Names.{Name, Names, inode_of, with_name, without_name}
use Rattle.tree.specs.Tree.{Body, Node, Tree, is_dir, is_directory, is_file, most_size, names_of, on_node, size_of}
use Rattle.tree.specs.IsTree.{IsBody}
use Rattle.tree.specs.Changes.{fewer_links, more_links, with_ctime, with_names, with_parent}
use Rattle.tree.specs.Space.{zones_of}
use Rattle.tree.proofs.Places.{without_name_fits}
use Rattle.tree.proofs.Totals.{weigh_one}
use Rattle.tree.proofs.Views.{on_node_at, on_node_elsewhere, view_kept}
use Rattle.tree.proofs.Weights.{weigh_with_name}
use Rattle.tree.proofs.TreeOver.{IsOver, over_itself, over_on_node}
use Rattle.inode_operations.specs.declared.moves.Move.{Move}
use Rattle.inode_operations.specs.Whole.{into, links_of, moved, out_of}

-- A directory with a name less.
pub record IsLess (x y : Node) (name : Name) : Type 0 where
  pub kind : is_dir y ≡ true
  pub size : size_of y.body ≤ most_size
  pub links : y.links ≤ x.links
  pub names : names_of (Some y) ≡ without_name (names_of (Some x)) name

abbrev pub less : ℕ → Name → ℕ → Node → Node
less now name k x = fewer_links k (with_names now (λ names. without_name names name) x)

pub is_less : (g : Geometry) (now : ℕ) (name : Name) (k : ℕ) (x : Node) (b : Body) → IsBody g b → is_dir (record x { body = b }) ≡ true
    → IsLess (record x { body = b }) (less now name k (record x { body = b })) name
is_less g now name k x (is_file f) fits kind = absurd (false_not_true kind)
is_less g now name k x (is_directory d) fits kind = record {
  kind = refl;
  size = (without_name_fits d name fits).size;
  links = omega arith;
  names = refl;
}

-- and one with names changed changed at that time
pub changed_then : (now k : ℕ) (f : Names → Names) (x : Node) (b : Body) → is_dir (record x { body = b }) ≡ true
    → (more_links k (with_names now f (record x { body = b }))).ctime ≡ now
changed_then now k f x (is_file file) kind = absurd (false_not_true kind)
changed_then now k f x (is_directory d) kind = refl

-- is one still
pub is_one_still : (now k : ℕ) (f : Names → Names) (x : Node) (b : Body) → is_dir (record x { body = b }) ≡ true
    → is_dir (more_links k (with_names now f (record x { body = b }))) ≡ true
is_one_still now k f x (is_file file) kind = absurd (false_not_true kind)
is_one_still now k f x (is_directory d) kind = refl

-- its size with a name more
pub size_with : (now k : ℕ) (name : Name) (n : ℕ) (x : Node) (b : Body) → is_dir (record x { body = b }) ≡ true → inode_of (names_of (Some (record x { body = b }))) name ≡ None
    → length (names_of (Some (more_links k (with_names now (λ names. with_name names name n) (record x { body = b }))))) * 64 + 128 ≡ size_of b + 64
size_with now k name n x (is_file file) kind free = absurd (false_not_true kind)
size_with now k name n x (is_directory d) kind free =
    let more = weigh_with_name (λ _. 1) name n d.names free in
    let a = weigh_one (with_name d.names name n) in
    let b = weigh_one d.names in
    omega (arith, more, a, b)

-- neither links nor a parent take zones
zones_settled : (g : Geometry) (now parent : ℕ) (x : Node) (b : Body) → zones_of g (Some (with_ctime now (with_parent parent (record x { body = b })))) ≡ zones_of g (Some (record x { body = b }))
zones_settled g now parent x (is_file f) = refl
zones_settled g now parent x (is_directory d) = refl

module _ (t : Tree) (m : Move) where
  abbrev pub out_names : Names → Names
  out_names names = without_name names m.old.now

  abbrev pub in_names : Names → Names
  in_names names = with_name names m.new.now m.number

  pub out_other : (k : ℕ) → k ≢ m.from → (out_of m t).nodes k ≡ t.nodes k
  out_other k apart =
      on_node_elsewhere (on_node t m.from (with_names m.now out_names)) m.from (fewer_links (links_of m)) k apart
      ∙ on_node_elsewhere t m.from (with_names m.now out_names) k apart

  pub out_here : (x : Node) → t.nodes m.from ≡ Some x → (out_of m t).nodes m.from ≡ Some (less m.now m.old.now (links_of m) x)
  out_here x there =
      on_node_at (on_node t m.from (with_names m.now out_names)) m.from (fewer_links (links_of m)) (with_names m.now out_names x)
      (on_node_at t m.from (with_names m.now out_names) x there)

  pub into_other : (k : ℕ) → k ≢ m.to → (into m t).nodes k ≡ (out_of m t).nodes k
  into_other k apart =
      on_node_elsewhere (on_node (out_of m t) m.to (with_names m.now in_names)) m.to (more_links (links_of m)) k apart
      ∙ on_node_elsewhere (out_of m t) m.to (with_names m.now in_names) k apart

  pub into_here : (x : Node) → (out_of m t).nodes m.to ≡ Some x → (into m t).nodes m.to ≡ Some (more_links (links_of m) (with_names m.now in_names x))
  into_here x there =
      on_node_at (on_node (out_of m t) m.to (with_names m.now in_names)) m.to (more_links (links_of m)) (with_names m.now in_names x)
      (on_node_at (out_of m t) m.to (with_names m.now in_names) x there)

  pub moved_other : (k : ℕ) → k ≢ m.number → (moved m t).nodes k ≡ (into m t).nodes k
  moved_other k apart = on_node_elsewhere (into m t) m.number (λ x. with_ctime m.now (with_parent m.to x)) k apart

  -- no node goes
  pub some_stay : (k : ℕ) → is_some ((moved m t).nodes k) ≡ is_some (t.nodes k)
  some_stay k =
      view_kept is_some (into m t) m.number (λ x. with_ctime m.now (with_parent m.to x)) (λ x. refl) k
      ∙ view_kept is_some (on_node (out_of m t) m.to (with_names m.now in_names)) m.to (more_links (links_of m)) (λ x. refl) k
      ∙ view_kept is_some (out_of m t) m.to (with_names m.now in_names) (λ x. refl) k
      ∙ view_kept is_some (on_node t m.from (with_names m.now out_names)) m.from (fewer_links (links_of m)) (λ x. refl) k
      ∙ view_kept is_some t m.from (with_names m.now out_names) (λ x. refl) k

  -- what is open stays
  pub open_stay : IsOver t (moved m t)
  open_stay =
      over_on_node t (into m t) m.number (λ x. with_ctime m.now (with_parent m.to x))
      (over_on_node t (on_node (out_of m t) m.to (with_names m.now in_names)) m.to (more_links (links_of m))
      (over_on_node t (out_of m t) m.to (with_names m.now in_names)
      (over_on_node t (on_node t m.from (with_names m.now out_names)) m.from (fewer_links (links_of m))
      (over_on_node t t m.from (with_names m.now out_names) (over_itself t)))))

  -- the zones are those of the nodes with the name put in
  pub zones_are : (g : Geometry) (k : ℕ) → zones_of g ((moved m t).nodes k) ≡ zones_of g ((on_node (out_of m t) m.to (with_names m.now in_names)).nodes k)
  zones_are g k =
      view_kept (zones_of g) (into m t) m.number (λ x. with_ctime m.now (with_parent m.to x)) (λ x. zones_settled g m.now m.to x x.body) k
      ∙ view_kept (zones_of g) (on_node (out_of m t) m.to (with_names m.now in_names)) m.to (more_links (links_of m)) (λ x. refl) k

  -- a name taken out
  pub zones_out : (g : Geometry) (k : ℕ) → zones_of g ((out_of m t).nodes k) ≡ zones_of g ((on_node t m.from (with_names m.now out_names)).nodes k)
  zones_out g k = view_kept (zones_of g) (on_node t m.from (with_names m.now out_names)) m.from (fewer_links (links_of m)) (λ x. refl) k
