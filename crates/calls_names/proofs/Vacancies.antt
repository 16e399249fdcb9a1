-- What a path to a new name leads to.
use Rattle.std.proofs.Common.{◌≡◌, ◌<◌, true, false, sym, ap, ◌∙◌, Some, None, Ok, Err}
use mathlib.Core.Logic.{inl, inr}
use Rattle.std.specs.Prelude.{◌||◌, is_some, not, All}
use Rattle.std.proofs.lemmas.Bool.{cases_Bool, cond-true, not-false, or_parts}
use Rattle.lemmas.proofs.Options.{some_same}
use Rattle.errno.specs.declared.Errno.{Errno}
use Rattle.errno.specs.declared.Errno.TheVariants.{EACCES, EEXIST, ENOENT}
use Rattle.layout.specs.declared.Geometry.{Geometry}
use Rattle.tree.specs.declared.PathFrom.{PathFrom}
use Rattle.tree.specs.declared.User.{User}
use Rattle.tree.specs.Names.{Names, has_name, inode_of}
use Rattle.tree.specs.Tree.{Body, Node, Tree, is_dir, names_of}
use Rattle.tree.specs.Refusals.{◌>>=◌, or_refuse, refuse_if}
use Rattle.tree.specs.Walk.{has_last_name, is_taken, last_part, may_access, node_at, parent_walk, read_path, to_write, Way}
use Rattle.tree.specs.Walk as tree
use Rattle.tree.specs.Answers.{Effect}
use Rattle.tree.proofs.NewPlaces.{last_named, none_there}
use Rattle.tree.proofs.Places.{is_place}
use Rattle.volume.specs.declared.Inode.{Inode}
use Rattle.volume.specs.Holds.{HoldsVolume}
use Rattle.volume.specs.Nodes.{node_of}
use Rattle.volume.specs.Pieces.{pieces}
use Rattle.volume.specs.Reading.{Disk}
use Rattle.path.specs.declared.place.NamePlace.{NamePlace}
use Rattle.path.specs.Places.{IsPlace, place_of}
use Rattle.calls_attributes.proofs.Made.{node_there}
use Rattle.calls_names.specs.Vacant.{IsNewPlace, IsVacant, at_new_place}

module _ (t : Tree) (user : User) (path : PathFrom) (rest : tree.Place → Node → Effect) where
  abbrev at_parent : tree.Place → Node → Effect
  at_parent place parent = refuse_if (not (may_access user parent to_write)) EACCES >>= λ _. rest place parent

  abbrev at_free : tree.Place → Effect
  at_free place = node_at t place.directory >>= at_parent place

  abbrev at_place : Way → tree.Place → Effect
  at_place way place = refuse_if (is_taken place way) EEXIST >>= λ _. at_free place

  abbrev at_parts : Way → Effect
  at_parts way = parent_walk t user way >>= at_place way

  -- the path can't be read, the walk is refused
  pub not_read : (e : Errno) → read_path path ≡ Err e → at_new_place t user path rest ≡ Err e
  not_read e is = ap (λ r. r >>= at_parts) is

  pub not_walked : (way : Way) (e : Errno) → read_path path ≡ Ok way → parent_walk t user way ≡ Err e → at_new_place t user path rest ≡ Err e
  not_walked way e read is = ap (λ r. r >>= at_parts) read ∙ ap (λ r. r >>= at_place way) is

  walked : (way : Way) (place : tree.Place) → read_path path ≡ Ok way → parent_walk t user way ≡ Ok place → at_new_place t user path rest ≡ at_place way place
  walked way place read is = ap (λ r. r >>= at_parts) read ∙ ap (λ r. r >>= at_place way) is

  -- the name is taken
  pub name_taken : (way : Way) (place : tree.Place) → read_path path ≡ Ok way → parent_walk t user way ≡ Ok place → is_taken place way ≡ true
      → at_new_place t user path rest ≡ Err EEXIST
  name_taken way place read is taken = walked way place read is ∙ ap (λ b. refuse_if b EEXIST >>= λ _. at_free place) taken

  free_at : (way : Way) (place : tree.Place) (parent : Node) → read_path path ≡ Ok way → parent_walk t user way ≡ Ok place → is_taken place way ≡ false
      → t.nodes place.directory ≡ Some parent → at_new_place t user path rest ≡ at_parent place parent
  free_at way place parent read is free there =
      walked way place read is ∙ ap (λ b. refuse_if b EEXIST >>= λ _. at_free place) free ∙ ap (λ o. or_refuse o ENOENT >>= at_parent place) there

  -- the directory may not be written, or it may
  pub barred : (way : Way) (place : tree.Place) (parent : Node) → read_path path ≡ Ok way → parent_walk t user way ≡ Ok place → is_taken place way ≡ false
      → t.nodes place.directory ≡ Some parent → may_access user parent to_write ≡ false → at_new_place t user path rest ≡ Err EACCES
  barred way place parent read is free there may =
      free_at way place parent read is free there ∙ ap (λ b. refuse_if (not b) EACCES >>= λ _. rest place parent) may

  pub on : (way : Way) (place : tree.Place) (parent : Node) → read_path path ≡ Ok way → parent_walk t user way ≡ Ok place → is_taken place way ≡ false
      → t.nodes place.directory ≡ Some parent → may_access user parent to_write ≡ true → at_new_place t user path rest ≡ rest place parent
  on way place parent read is free there may =
      free_at way place parent read is free there ∙ ap (λ b. refuse_if (not b) EACCES >>= λ _. rest place parent) may

module _ (g : Geometry) (d : Disk) (t : Tree) (user : User) (way : Way) (p : NamePlace) (holds : HoldsVolume g d t) (at : IsPlace g d t user way p) where
  -- whether the name is taken is what was looked up
  pub taken_is : is_taken (place_of g d p) way ≡ (not (has_last_name way) || is_some p.there)
  taken_is = elim (cases_Bool (has_last_name way)) [
    | inr none ↦ ap (λ b. not b || has_name (place_of g d p).names p.name.now) none ∙ sym (ap (λ b. not b || is_some p.there) none)
    | inl some ↦
        let leads = at.there ∙ cond-true (has_last_name way) (inode_of (place_of g d p).names (last_part way.parts)) None some in
        ap (λ o. not (has_last_name way) || is_some o) (ap (inode_of (place_of g d p).names) at.name ∙ sym leads)
  ]

  -- the directory's node
  abbrev pub parent_node : Node
  parent_node = node_of g (pieces g d) p.inode

  stands : Rattle.tree.proofs.Places.IsPlace t (place_of g d p)
  stands = is_place t user way (place_of g d p) at.walked

  pub parent_there : t.nodes p.directory ≡ Some parent_node
  parent_there =
      let there = node_there g d t p.directory holds (ap is_some stands.there) in
      there.1 ∙ ap (λ (i : Inode). Some (node_of g (pieces g d) i)) (sym at.inode)

  is_node : stands.node ≡ parent_node
  is_node = some_same stands.node parent_node (sym stands.there ∙ parent_there)

  -- is a directory
  is_directory_node : is_dir parent_node ≡ true
  is_directory_node = ap is_dir (sym is_node) ∙ ap (λ (b : Body). is_dir (record stands.node { body = b })) stands.body

  has_names : (place_of g d p).names ≡ names_of (Some parent_node)
  has_names = sym stands.names ∙ sym (ap (λ (b : Body). names_of (Some (record stands.node { body = b }))) stands.body) ∙ ap (λ (x : Node). names_of (Some x)) is_node

  pub is_vacant : (path : PathFrom) → All (λ b. b < 256) path.bytes.now → read_path path ≡ Ok way → is_taken (place_of g d p) way ≡ false → IsVacant g d t p parent_node
  is_vacant path bytes read free =
      let none = or_parts (not (has_last_name way)) (has_name (place_of g d p).names p.name.now) free in
      record {
        there = parent_there;
        directory = is_directory_node;
        names = has_names;
        inode = at.inode;
        named = last_named t user path way (place_of g d p) bytes read at.walked (not-false _ none.0);
        free = ap (λ (es : Names). inode_of es p.name.now) (sym has_names) ∙ none_there (inode_of (place_of g d p).names p.name.now) none.1;
      }

  pub is_new_place : (path : PathFrom) → All (λ b. b < 256) path.bytes.now → read_path path ≡ Ok way → is_taken (place_of g d p) way ≡ false
      → may_access user parent_node to_write ≡ true → IsNewPlace g d t user path p
  is_new_place path bytes read free may = record {
    parent = parent_node;
    goes_on = λ rest. on t user path rest way (place_of g d p) parent_node read at.walked free parent_there may;
    vacant = is_vacant path bytes read free;
  }
