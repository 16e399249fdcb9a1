-- A new node and its name are put on a volume, step by step.
use Rattle.std.proofs.Common.{◌≡◌, ◌≢◌, ◌<◌, ◌≤◌, ◌+◌, ℕ, List, length, refl, sym, ap, subst, ◌∙◌, arith, Some, Ok}
use mathlib.Core.Logic.{inl, inr}
use Rattle.std.specs.Prelude.{IsTrue, Option, nat_le, nat_lt, ◌&&◌, ◌||◌, ◌==◌, not}
use Rattle.std.specs.List.{list_any}
use Rattle.std.proofs.lemmas.Bool.{and_from, and_parts, le-leb, leb-true}
use Rattle.errno.specs.declared.Errno.TheVariants.{ENOSPC}
use Rattle.layout.specs.declared.Geometry.{Geometry}
use Rattle.layout.specs.Places.{IsGeometry}
use Rattle.tree.specs.declared.User.{User}
use Rattle.lemmas.specs.Sums.{put}
use Rattle.tree.specs.Names.{Name, is_dots, is_name, most_name, with_name}
use Rattle.tree.specs.Tree.{Node, Tree, most_links}
use Rattle.tree.specs.Walk as tree
use Rattle.tree.specs.Changes.{empty_directory, empty_file, free_inode, more_links, new_link, new_node, with_ctime, with_names}
use Rattle.tree.specs.Space.{zones_of}
use Rattle.lemmas.proofs.Maps.{put-same}
use Rattle.tree.proofs.Outcomes.{IsFree, free_inode_is}
use Rattle.tree.proofs.Steps.{not_refused, ok_is}
use Rattle.volume.specs.declared.Inode.{Inode}
use Rattle.volume.specs.Holds.{HoldsVolume}
use Rattle.volume.specs.Nodes.{nodes_of}
use Rattle.volume.specs.Pieces.{Pieces, pieces}
use Rattle.volume.specs.Reading.{Disk}
use Rattle.zone.specs.Room.{taken_by}
use Rattle.directory.specs.Names.{Inserts, MayInsert}
use Rattle.path.specs.declared.place.NamePlace.{NamePlace}
use Rattle.path.specs.Places.{place_of}
use Rattle.inode_operations.specs.NewNodes.{MakesDirectory, MakesFile, MakesLink, MayMakeDirectory, MayMakeFile, MayMakeLink}
use Rattle.inode_operations.specs.Steps.{AddsLink, MayAddLink}
use Rattle.inode_operations.specs.Stands.{Stands}
use Rattle.inode_operations.proofs.Between.{node_stands, nothing_is_done, step_is_done}
use Rattle.inode_operations.proofs.Entering.{name_may_be_put}
use Rattle.calls_names.specs.Making.{MayMakeAt, MayMakeDirectoryAt, with_new_directory, with_new_file, with_new_link}
use Rattle.calls_names.specs.Vacant.{IsVacant, zones_with_name}
use Rattle.calls_names.proofs.Numbers.{directory_in, directory_some, may_grow}
use Rattle.calls_names.proofs.Trees.{directory_nodes, entered_takes, file_nodes, link_nodes, still_there}
use Rattle.calls_names.proofs.Zones.{by_directory, directory_takes, file_takes, link_takes, name_takes_more, taken_put}

-- what was found free is
pub is_free : (g : Geometry) (t : Tree) (n : ℕ) → free_inode g t ≡ Ok n → IsFree g t n
is_free g t n is = elim (free_inode_is g t) [
  | inl h ↦ absurd (not_refused ENOSPC n (sym h.0 ∙ is))
  | inr h ↦ subst (IsFree g t) (ok_is h.0 n (free_inode g t) h.1 is) h.2
]

-- a name has no more bytes than it may
pub name_short : (name : Name) → IsTrue (is_name name) → length name ≤ 60
name_short name is =
    let one = and_parts (nat_le 1 (length name) && nat_le (length name) most_name && not (list_any (λ c. (c == 47) || (c == 0) || nat_lt 255 c) name)) (not (is_dots name)) is in
    let two = and_parts (nat_le 1 (length name) && nat_le (length name) most_name) _ one.0 in
    leb-true (length name) 60 (and_parts (nat_le 1 (length name)) (nat_le (length name) most_name) two.0).1

module _ (g : Geometry) (ok : IsGeometry g) (d : Disk) (p : NamePlace) (n others now mode : ℕ) (user : User) (may : MayMakeAt g d p n others) where
  abbrev t : Tree
  t = may.tree

  abbrev v : Pieces
  v = pieces g d

  abbrev parent : Node
  parent = may.parent

  abbrev at : ℕ
  at = p.directory

  abbrev place : tree.Place
  place = place_of g d p

  free : IsFree g t n
  free = is_free g t n may.free.least

  n_in : n < g.inodes + 1
  n_in = let l = free.to in omega (arith, l)

  pub some : n ≢ 0
  some e = let l = free.from in absurd (omega (arith, l, e))

  at_in : at < g.inodes + 1
  at_in = directory_in g ok d t p parent may.holds may.vacant

  begun : Stands g d d t.nodes
  begun = nothing_is_done g d t may.holds

  pub may_make_file : MayMakeFile g v n
  may_make_file = record {
    sound = may.holds.nodes.sound;
    number = let a = free.from in let b = free.to in and_from (nat_le 1 n) (nat_le n g.inodes) (le-leb 1 n a) (le-leb n g.inodes b);
    free = ap (λ (f : ℕ → Option Node). f n) (sym may.holds.nodes.nodes) ∙ free.nothing;
  }

  abbrev named : Node
  named = with_names now (λ names. with_name names p.name.now n) parent

  -- without the name no more zones are taken
  takes_less : taken_by g t.nodes ≤ zones_with_name g t at parent p.name.now now n
  takes_less =
      let a = taken_put g t.nodes at (Some named) at_in in
      let b = name_takes_more g parent p.name.now n now ok may.vacant.directory may.vacant.free in
      let c : zones_of g (t.nodes at) ≡ zones_of g (Some parent) = ap (zones_of g) may.vacant.there in
      omega (arith, a, b, c)

  pub may_make_directory : 0 < others → MayMakeDirectory g v n at
  may_make_directory some_others = record {
    make = may_make_file;
    some = directory_some g ok d t p parent may.holds may.vacant;
    room =
        let a = takes_less in
        let b = may.free.room now in
        let c : taken_by g (nodes_of g v) ≡ taken_by g t.nodes = ap (taken_by g) (sym may.holds.nodes.nodes) in
        omega (arith, a, b, c, some_others);
  }

  pub may_make_link : 0 < others → MayMakeLink g v n
  may_make_link some_others = record { make = may_make_file; room = (may_make_directory some_others).room }

  -- a node at n, then its name
  module _ (x : Node) (e : Disk) (fits : zones_of g (Some x) ≤ others) (one : Stands g d e (put t.nodes n (Some x))) where
    abbrev first : ℕ → Option Node
    first = put t.nodes n (Some x)

    there : first at ≡ Some parent
    there = still_there g ok t user now mode place n parent may.vacant.there may.vacant.directory free.nothing may.vacant.free x

    pub may_enter : MayInsert g (pieces g e) at p.name.now n
    may_enter = name_may_be_put g d e first at parent p.name.now n now ok one there may.vacant.directory
        (may_grow g ok d t p parent may.holds may.vacant) may.vacant.named some may.vacant.free
        (let a = entered_takes g ok t user now mode place n parent may.vacant.there may.vacant.directory free.nothing may.vacant.free x at_in n_in in
        let b = may.free.room now in
        omega (arith, a, b, fits))

    pub entered : (f : Disk) → Inserts g at p.name.now n now e f → Stands g d f (put first at (Some named))
    entered f inserts =
        let b = inserts.becomes may_enter in
        let node = (node_stands g d e first at parent ok one there).node in
        step_is_done g d e f first at (Some named) one inserts.head (record {
          sound = b.sound;
          nodes = b.nodes ∙ (λ i. put (nodes_of g (pieces g e)) at (Some (with_names now (λ names. with_name names p.name.now n) (node i))));
        })

  -- a file
  abbrev file : Node
  file = new_node now user mode 1 empty_file

  pub file_stands : (e : Disk) → MakesFile g n user now mode d e → Stands g d e (put t.nodes n (Some file))
  file_stands e makes =
      step_is_done g d d e t.nodes n (Some file) begun makes.head (makes.becomes may_make_file)

  pub file_small : zones_of g (Some file) ≤ others
  file_small = let a = file_takes g now mode user in omega (arith, a)

  pub file_done : (e f : Disk) → MakesFile g n user now mode d e → Inserts g at p.name.now n now e f → Stands g d f (with_new_file t user now mode place n).nodes
  file_done e f makes inserts = subst (λ (nodes : ℕ → Option Node). Stands g d f nodes)
      (sym (file_nodes g ok t user now mode place n parent may.vacant.there may.vacant.directory free.nothing may.vacant.free))
      (entered file e file_small (file_stands e makes) f inserts)

  -- a symbolic link
  module _ (target : List ℕ) (some_others : 0 < others) where
    abbrev link : Node
    link = new_link now user target

    link_stands : (e : Disk) → MakesLink g n user now target d e → Stands g d e (put t.nodes n (Some link))
    link_stands e makes = step_is_done g d d e t.nodes n (Some link) begun makes.head (makes.becomes (may_make_link some_others))

    link_small : zones_of g (Some link) ≤ others
    link_small = let a = link_takes g now user target in omega (arith, a, some_others)

    module _ (e : Disk) (makes : MakesLink g n user now target d e) where
      pub may_name_link : MayInsert g (pieces g e) at p.name.now n
      may_name_link = may_enter link e link_small (link_stands e makes)

      pub link_done : (f : Disk) → Inserts g at p.name.now n now e f → Stands g d f (with_new_link t user now target place n).nodes
      link_done f inserts = subst (λ (nodes : ℕ → Option Node). Stands g d f nodes)
          (sym (link_nodes g ok t user now mode place n parent may.vacant.there may.vacant.directory free.nothing may.vacant.free target))
          (entered link e link_small (link_stands e makes) f inserts)

  -- a directory
  abbrev directory : Node
  directory = new_node now user mode 2 (empty_directory at)

  module _ (links : parent.links < most_links) (some_others : 0 < others) where
    pub directory_stands : (e : Disk) → MakesDirectory g n at user now mode d e → Stands g d e (put t.nodes n (Some directory))
    directory_stands e makes =
        step_is_done g d d e t.nodes n (Some directory) begun makes.head (makes.becomes (may_make_directory some_others))

    pub directory_small : zones_of g (Some directory) ≤ others
    directory_small = let a = directory_takes g now mode at user ok in omega (arith, a, some_others)

    module _ (e f : Disk) (makes : MakesDirectory g n at user now mode d e) (inserts : Inserts g at p.name.now n now e f) where
      abbrev second : ℕ → Option Node
      second = put (put t.nodes n (Some directory)) at (Some named)

      two : Stands g d f second
      two = entered directory e directory_small (directory_stands e makes) f inserts

      named_there : second at ≡ Some named
      named_there = put-same (put t.nodes n (Some directory)) at (Some named)

      same_links : named.links ≡ parent.links
      same_links = by_directory (λ (y : Node). (with_names now (λ names. with_name names p.name.now n) y).links ≡ y.links) parent may.vacant.directory (λ x. refl)

      pub may_link : MayAddLink g (pieces g f) at
      may_link =
          let stands = node_stands g d f second at named ok two named_there in
          let its : ((pieces g f).inodes at).links ≡ named.links = ap (λ (y : Node). y.links) stands.node in
          let same = same_links in
          record { of = stands.of; links = omega (arith, its, same, links) }

      pub directory_done : (h : Disk) → AddsLink g at now f h → Stands g d h (with_new_directory t user now mode place n).nodes
      directory_done h adds =
          let b = adds.becomes may_link in
          let node = (node_stands g d f second at named ok two named_there).node in
          subst (λ (nodes : ℕ → Option Node). Stands g d h nodes)
          (sym (directory_nodes g ok t user now mode place n parent may.vacant.there may.vacant.directory free.nothing may.vacant.free))
          (step_is_done g d f h second at (Some (with_ctime now (more_links 1 named))) two adds.head (record {
            sound = b.sound;
            nodes = b.nodes ∙ (λ i. put (nodes_of g (pieces g f)) at (Some (with_ctime now (more_links 1 (node i)))));
          }))

-- the parent's links are those of its inode
pub parent_links : (g : Geometry) → IsGeometry g → (d : Disk) (t : Tree) (p : NamePlace) (parent : Node) → HoldsVolume g d t → IsVacant g d t p parent → p.inode.links ≡ parent.links
parent_links g ok d t p parent holds vacant =
    let node = (node_stands g d d t.nodes p.directory parent ok (nothing_is_done g d t holds) vacant.there).node in
    ap (λ (i : Inode). i.links) vacant.inode ∙ ap (λ (y : Node). y.links) node

-- The same of a directory, from what is asked before.
module _ (g : Geometry) (ok : IsGeometry g) (d : Disk) (p : NamePlace) (n now mode : ℕ) (user : User) (may : MayMakeDirectoryAt g d p n) where
  low : may.make.parent.links < most_links
  low =
      let same = parent_links g ok d may.make.tree p may.make.parent may.make.holds may.make.vacant in
      let l = may.links in
      omega (arith, same, l)

  pub to_make : MayMakeDirectory g (pieces g d) n p.directory
  to_make = may_make_directory g ok d p n 1 now mode user may.make (omega arith)

  module _ (e : Disk) (makes : MakesDirectory g n p.directory user now mode d e) where
    pub to_enter : MayInsert g (pieces g e) p.directory p.name.now n
    to_enter = may_enter g ok d p n 1 now mode user may.make (new_node now user mode 2 (empty_directory p.directory)) e
        (directory_small g ok d p n 1 now mode user may.make low (omega arith)) (directory_stands g ok d p n 1 now mode user may.make low (omega arith) e makes)

    module _ (f : Disk) (inserts : Inserts g p.directory p.name.now n now e f) where
      pub to_link : MayAddLink g (pieces g f) p.directory
      to_link = may_link g ok d p n 1 now mode user may.make low (omega arith) e f makes inserts

      pub all_done : (h : Disk) → AddsLink g p.directory now f h → Stands g d h (with_new_directory may.make.tree user now mode (place_of g d p) n).nodes
      all_done h adds = directory_done g ok d p n 1 now mode user may.make low (omega arith) e f makes inserts h adds
