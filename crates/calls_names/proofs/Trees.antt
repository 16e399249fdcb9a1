-- A tree with a new node at a place: its nodes, its zones, its open files.
use Rattle.std.proofs.Common.{◌≡◌, ◌≢◌, ◌<◌, ◌+◌, ℕ, List, true, refl, sym, ap, ◌∙◌, arith}
use Rattle.std.specs.Prelude.{None, Some}
use Rattle.layout.specs.declared.Geometry.{Geometry}
use Rattle.layout.specs.Places.{IsGeometry}
use Rattle.tree.specs.declared.User.{User}
use Rattle.tree.specs.Names.{inode_of, with_name}
use Rattle.lemmas.specs.Sums.{put}
use Rattle.tree.specs.Tree.{Node, Tree, is_dir, names_of, on_node, with_node}
use Rattle.tree.specs.Walk.{Place}
use Rattle.tree.specs.Changes.{empty_directory, empty_file, more_links, new_link, new_node, with_ctime, with_names}
use Rattle.tree.specs.NameCalls.{with_entry}
use Rattle.tree.specs.Space.{zones_of}
use Rattle.lemmas.proofs.Maps.{not_nothing, put-other, put-same}
use Rattle.tree.proofs.TreeOver.{over_itself, over_on_node, over_with_node}
use Rattle.tree.proofs.Views.{on_node_there}
use Rattle.zone.specs.Room.{taken_by}
use Rattle.descriptors.specs.Files.{Files, HasFiles}
use Rattle.inode_operations.proofs.Nodes.{put_twice}
use Rattle.calls_names.specs.Making.{with_new_directory, with_new_file, with_new_link}
use Rattle.calls_names.specs.Vacant.{zones_with_name}
use Rattle.calls_names.proofs.Zones.{by_directory, directory_takes, file_takes, link_takes, taken_put}

module _ (g : Geometry) (ok : IsGeometry g) (t : Tree) (user : User) (now mode : ℕ) (place : Place) (n : ℕ) (parent : Node)
    (there : t.nodes place.directory ≡ Some parent) (kind : is_dir parent ≡ true) (nothing : t.nodes n ≡ None)
    (free : inode_of (names_of (Some parent)) place.name ≡ None) where
  abbrev d : ℕ
  d = place.directory

  abbrev named : Node
  named = with_names now (λ names. with_name names place.name n) parent

  pub apart : d ≢ n
  apart e = not_nothing parent (sym nothing ∙ ap t.nodes (sym e) ∙ there)

  -- with any node at n, and then its name
  module _ (x : Node) where
    abbrev middle : Tree
    middle = with_node t n (Some x)

    pub still_there : middle.nodes d ≡ Some parent
    still_there = put-other t.nodes n (Some x) d apart ∙ there

    pub entered : with_entry middle now place n ≡ with_node middle d (Some named)
    entered = on_node_there middle d (with_names now (λ names. with_name names place.name n)) parent still_there

    -- the zones that are taken then
    pub entered_takes : d < g.inodes + 1 → n < g.inodes + 1
        → taken_by g (put (put t.nodes n (Some x)) d (Some named)) ≡ zones_with_name g t d parent place.name now n + zones_of g (Some x)
    entered_takes d_in n_in =
        let a = taken_put g t.nodes n (Some x) n_in in
        let b = taken_put g (put t.nodes n (Some x)) d (Some named) d_in in
        let c = taken_put g t.nodes d (Some named) d_in in
        let none : zones_of g (t.nodes n) ≡ 0 = ap (zones_of g) nothing in
        let one : zones_of g (put t.nodes n (Some x) d) ≡ zones_of g (Some parent) = ap (zones_of g) still_there in
        let two : zones_of g (t.nodes d) ≡ zones_of g (Some parent) = ap (zones_of g) there in
        omega (arith, a, b, c, none, one, two)

  -- a file
  abbrev file : Node
  file = new_node now user mode 1 empty_file

  pub file_nodes : (with_new_file t user now mode place n).nodes ≡ put (put t.nodes n (Some file)) d (Some named)
  file_nodes = ap (λ (u : Tree). u.nodes) (entered file)

  pub file_zones : d < g.inodes + 1 → n < g.inodes + 1 → taken_by g (with_new_file t user now mode place n).nodes ≡ zones_with_name g t d parent place.name now n
  file_zones d_in n_in =
      let same = ap (taken_by g) file_nodes in
      let all = entered_takes file d_in n_in in
      let none = file_takes g now mode user in
      omega (arith, same, all, none)

  pub file_files : (f : Files) → HasFiles f t → HasFiles f (with_new_file t user now mode place n)
  file_files f h =
      let over = over_on_node t (with_node t n (Some file)) d (with_names now (λ names. with_name names place.name n)) (over_with_node t t n (Some file) (over_itself t)) in
      record { opened = over.files ∙ h.opened; descriptors = over.descriptors ∙ h.descriptors }

  -- a symbolic link
  module _ (target : List ℕ) where
    abbrev link : Node
    link = new_link now user target

    pub link_nodes : (with_new_link t user now target place n).nodes ≡ put (put t.nodes n (Some link)) d (Some named)
    link_nodes = ap (λ (u : Tree). u.nodes) (entered link)

    pub link_zones : d < g.inodes + 1 → n < g.inodes + 1
        → taken_by g (with_new_link t user now target place n).nodes ≡ zones_with_name g t d parent place.name now n + 1
    link_zones d_in n_in =
        let same = ap (taken_by g) link_nodes in
        let all = entered_takes link d_in n_in in
        let one = link_takes g now user target in
        omega (arith, same, all, one)

    pub link_files : (f : Files) → HasFiles f t → HasFiles f (with_new_link t user now target place n)
    link_files f h =
        let over = over_on_node t (with_node t n (Some link)) d (with_names now (λ names. with_name names place.name n))
        (over_with_node t t n (Some link) (over_itself t)) in
        record { opened = over.files ∙ h.opened; descriptors = over.descriptors ∙ h.descriptors }

  -- a directory
  abbrev directory : Node
  directory = new_node now user mode 2 (empty_directory d)

  -- the parent's link is set at the same time
  pub linked : with_ctime now (more_links 1 named) ≡ more_links 1 named
  linked = by_directory (λ (y : Node). with_ctime now (more_links 1 (with_names now (λ names. with_name names place.name n) y)) ≡ more_links 1 (with_names now (λ names. with_name names place.name n) y)) parent kind (λ x. refl)

  abbrev entry : Tree
  entry = with_node (with_node t n (Some directory)) d (Some named)

  pub directory_nodes : (with_new_directory t user now mode place n).nodes ≡ put (put (put t.nodes n (Some directory)) d (Some named)) d (Some (with_ctime now (more_links 1 named)))
  directory_nodes =
      ap (λ (u : Tree). (on_node u d (more_links 1)).nodes) (entered directory)
      ∙ ap (λ (u : Tree). u.nodes) (on_node_there entry d (more_links 1) named (put-same (put t.nodes n (Some directory)) d (Some named)))
      ∙ ap (λ (y : Node). put (put (put t.nodes n (Some directory)) d (Some named)) d (Some y)) (sym linked)

  pub directory_zones : d < g.inodes + 1 → n < g.inodes + 1 → taken_by g (with_new_directory t user now mode place n).nodes ≡ zones_with_name g t d parent place.name now n + 1
  directory_zones d_in n_in =
      let same : taken_by g (with_new_directory t user now mode place n).nodes ≡ taken_by g (put (put t.nodes n (Some directory)) d (Some named)) =
      ap (taken_by g) (directory_nodes ∙ put_twice (put t.nodes n (Some directory)) d (Some named) (Some (with_ctime now (more_links 1 named)))) ∙ links d_in in
      let all = entered_takes directory d_in n_in in
      let one = directory_takes g now mode d user ok in
      omega (arith, same, all, one)
    where
      links : d < g.inodes + 1 → taken_by g (put (put t.nodes n (Some directory)) d (Some (with_ctime now (more_links 1 named)))) ≡ taken_by g (put (put t.nodes n (Some directory)) d (Some named))
      links d_in =
          let a = taken_put g (put t.nodes n (Some directory)) d (Some (with_ctime now (more_links 1 named))) d_in in
          let b = taken_put g (put t.nodes n (Some directory)) d (Some named) d_in in
          let same : zones_of g (Some (with_ctime now (more_links 1 named))) ≡ zones_of g (Some named) = refl in
          omega (arith, a, b, same)

  pub directory_files : (f : Files) → HasFiles f t → HasFiles f (with_new_directory t user now mode place n)
  directory_files f h =
      let over = over_on_node t (with_entry (with_node t n (Some directory)) now place n) d (more_links 1)
      (over_on_node t (with_node t n (Some directory)) d (with_names now (λ names. with_name names place.name n)) (over_with_node t t n (Some directory) (over_itself t))) in
      record { opened = over.files ∙ h.opened; descriptors = over.descriptors ∙ h.descriptors }
