-- The name at the end of a path.
use Rattle.std.proofs.Common.{◌≡◌, ◌<◌, ℕ, List, Bool, true, false, Option, Some, None, Ok, Err, refl, sym, ap, subst, ◌∙◌, arith}
use Rattle.std.specs.Prelude.{IsTrue, Result, is_some, length, not, ◌==◌}
use Rattle.std.specs.Borrow.{Bor}
use Rattle.std.specs.List.{All}
use Rattle.std.proofs.lemmas.Bool.{and_parts, cond-true, eqb-false, not-true}
use Rattle.errno.specs.declared.Errno.{Errno}
use Rattle.errno.specs.declared.Errno.TheVariants.{EACCES, EINVAL, ENOENT}
use Rattle.layout.specs.declared.Geometry.{Geometry}
use Rattle.tree.specs.declared.PathFrom.{PathFrom}
use Rattle.tree.specs.declared.User.{User}
use Rattle.tree.specs.Names.{Name, Names, inode_of, is_dots, is_name}
use Rattle.tree.specs.Tree.{Node, Tree}
use Rattle.tree.specs.Refusals.{◌>>=◌, or_refuse, refuse_if}
use Rattle.tree.specs.Walk.{Place, has_last_name, last_part, may_access, node_at, parent_walk, read_path, to_write, Way}
use Rattle.tree.specs.Answers.{Effect}
use Rattle.tree.proofs.PathNames.{last_is_name}
use Rattle.volume.specs.declared.Inode.{Inode}
use Rattle.volume.specs.Reading.{Disk, is_inode}
use Rattle.volume.specs.Pieces.{Pieces, pieces}
use Rattle.volume.specs.Nodes.{directory_of, is_directory_mode, is_marked, node_of}
use Rattle.volume.specs.Holds.{Holds, HoldsVolume}
use Rattle.block_store.specs.declared.Halt.{Halt}
use Rattle.block_store.specs.declared.Halt.TheVariants as halt
use Rattle.block_store.specs.Halts.{Ends}
use Rattle.zone.proofs.ZoneInodes.{inode_is}
use Rattle.path.specs.declared.stop.Stop.{Stop}
use Rattle.path.specs.declared.stop.Stop.TheVariants as stop
use Rattle.path.specs.declared.place.NamePlace.{NamePlace as Found}
use Rattle.path.specs.Stops.{Answers}
use Rattle.path.specs.Places.{FindsPlace, place_of}
use Rattle.path.proofs.Going.{has_entries}
use Rattle.calls_attributes.proofs.Made.{node_there}
use Rattle.calls_names.specs.Names.{FindsName, IsOfInode, IsVolume, MeansPlace, on_name}

-- What the place's search answers, of each tree that is held.
module _ (g : Geometry) (d : Disk) (user : User) (way : Way) (s : Result Found Stop) (finds : (t : Tree) → Holds g d t → Answers s (FindsPlace g d t user way)) where
  answered : (r : Result Found Stop) → s ≡ r → (t : Tree) → HoldsVolume g d t → Answers r (FindsPlace g d t user way)
  answered r is t holds = subst (λ (x : Result Found Stop). Answers x (FindsPlace g d t user way)) is (finds t holds.nodes)

  pub place_meant : (p : Found) → s ≡ Ok p → MeansPlace g d user way (Ok p)
  place_meant p is t holds = answered (Ok p) is t holds

  pub place_refused : (e : Errno) → s ≡ Err (stop.Refused e) → MeansPlace g d user way (Err e)
  place_refused e is t holds = answered (Err (stop.Refused e)) is t holds

  pub place_halted : {X : Type 0} (h : Halt) (P : X → Type 0) → s ≡ Err (stop.Halted h) → Ends (Err h) P (IsVolume g d)
  place_halted h P is = by P h (λ t holds. answered (Err (stop.Halted h)) is t holds)
    where
      by : {X : Type 0} (P : X → Type 0) (h : Halt) → ((t : Tree) → HoldsVolume g d t → Answers (Err (stop.Halted h)) (FindsPlace g d t user way)) → Ends (Err h) P (IsVolume g d)
      by P (halt.Cut c) a = tt
      by P halt.Unsound a = λ x. a x.tree x.holds

-- The steps of a call that takes a name away.
abbrev Rest : Type 0
Rest = Place → ℕ → Node → Effect

abbrev from_node : Tree → Rest → Place → ℕ → Effect
from_node t rest place n = node_at t n >>= λ node. rest place n node

abbrev from_parent : Tree → User → Rest → Place → ℕ → Effect
from_parent t user rest place n = node_at t place.directory >>= λ parent. refuse_if (not (may_access user parent to_write)) EACCES >>= λ _. from_node t rest place n

abbrev from_place : Tree → User → Rest → Place → Effect
from_place t user rest place = or_refuse (inode_of place.names place.name) ENOENT >>= λ n. from_parent t user rest place n

abbrev from_parts : Tree → User → Rest → Way → Effect
from_parts t user rest way = refuse_if (not (has_last_name way)) EINVAL >>= λ _. parent_walk t user way >>= λ place. from_place t user rest place

-- the path can't be read
pub not_read : (g : Geometry) (d : Disk) (user : User) (path : PathFrom) (e : Errno) → read_path path ≡ Err e → FindsName g d user path (Err e)
not_read g d user path e is t holds rest = ap (λ (r : Result Way Errno). r >>= λ way. from_parts t user rest way) is

module _ (g : Geometry) (d : Disk) (user : User) (path : PathFrom) (way : Way) (read : read_path path ≡ Ok way) where
  begun : (t : Tree) (rest : Rest) (b : Bool) → has_last_name way ≡ b
      → on_name t user path rest ≡ (refuse_if (not b) EINVAL >>= λ _. parent_walk t user way >>= λ place. from_place t user rest place)
  begun t rest b is =
      ap (λ (r : Result Way Errno). r >>= λ ps. from_parts t user rest ps) read
      ∙ ap (λ (x : Bool). refuse_if (not x) EINVAL >>= λ _. parent_walk t user way >>= λ place. from_place t user rest place) is

  -- it has no last name
  pub no_last_name : has_last_name way ≡ false → FindsName g d user path (Err EINVAL)
  no_last_name none t holds rest = begun t rest false none

  module _ (last : has_last_name way ≡ true) where
    walked : (t : Tree) (rest : Rest) (r : Result Place Errno) → parent_walk t user way ≡ r → on_name t user path rest ≡ (r >>= λ place. from_place t user rest place)
    walked t rest r is = begun t rest true last ∙ ap (λ (x : Result Place Errno). x >>= λ place. from_place t user rest place) is

    -- the walk is refused
    pub not_walked : (e : Errno) → MeansPlace g d user way (Err e) → FindsName g d user path (Err e)
    not_walked e means t holds rest = walked t rest (Err e) (means t holds)

    module _ (p : Found) (means : MeansPlace g d user way (Ok p)) where
      abbrev v : Pieces
      v = pieces g d

      leads : (t : Tree) → HoldsVolume g d t → inode_of (place_of g d p).names p.name.now ≡ p.there
      leads t holds =
          let at = means t holds in
          ap (inode_of (place_of g d p).names) at.name ∙ sym (cond-true (has_last_name way) (inode_of (place_of g d p).names (last_part way.parts)) None last) ∙ sym at.there

      at_place : (t : Tree) → HoldsVolume g d t → (rest : Rest) (o : Option ℕ) → p.there ≡ o
          → on_name t user path rest ≡ (or_refuse o ENOENT >>= λ n. from_parent t user rest (place_of g d p) n)
      at_place t holds rest o is =
          walked t rest (Ok (place_of g d p)) (means t holds).walked
          ∙ ap (λ (x : Option ℕ). or_refuse x ENOENT >>= λ n. from_parent t user rest (place_of g d p) n) (leads t holds ∙ is)

      -- there is no such name
      pub no_name : p.there ≡ None → FindsName g d user path (Err ENOENT)
      no_name is t holds rest = at_place t holds rest None is

      module _ (n : ℕ) (is : p.there ≡ Some n) where
        parent_there : (t : Tree) → HoldsVolume g d t → t.nodes p.directory ≡ Some (node_of g v p.inode)
        parent_there t holds =
            let at = means t holds in
            ap (λ (f : ℕ → Option Node). f p.directory) holds.nodes.nodes
            ∙ cond-true (is_marked g v p.directory) _ _ (and_parts (is_marked g v p.directory) (is_directory_mode (v.inodes p.directory).mode) at.directory).0
            ∙ ap (λ (j : Inode). Some (node_of g v j)) (sym at.inode)

        at_parent : (t : Tree) → HoldsVolume g d t → (rest : Rest) (b c : Bool) → ((node : Node) → IsOfInode node p.inode → b ≡ may_access user node to_write) → b ≡ c
            → on_name t user path rest ≡ (refuse_if (not c) EACCES >>= λ _. from_node t rest (place_of g d p) n)
        at_parent t holds rest b c right b_is =
            at_place t holds rest (Some n) is
            ∙ ap (λ (o : Option Node). or_refuse o ENOENT >>= λ parent. refuse_if (not (may_access user parent to_write)) EACCES >>= λ _. from_node t rest (place_of g d p) n) (parent_there t holds)
            ∙ ap (λ (x : Bool). refuse_if (not x) EACCES >>= λ _. from_node t rest (place_of g d p) n)
            (sym (right (node_of g v p.inode) (record { permissions = refl; uid = refl; gid = refl })) ∙ b_is)

        -- the user may not write the directory
        pub not_writable : (b : Bool) → ((node : Node) → IsOfInode node p.inode → b ≡ may_access user node to_write) → b ≡ false → FindsName g d user path (Err EACCES)
        not_writable b right b_is t holds rest = at_parent t holds rest b false right b_is

        -- a name leads to a node
        there : (t : Tree) → HoldsVolume g d t → IsTrue (is_some (t.nodes n))
        there t holds =
            let at = means t holds in
            holds.nodes.tree.nodes.targets p.directory n p.name.now
            (ap (λ (ns : Names). inode_of ns p.name.now) (has_entries g d t p.directory p.inode holds.nodes at.directory at.inode).names ∙ leads t holds ∙ is)

        pub its_number : IsVolume g d → IsTrue (is_inode g n)
        its_number x = inode_is g v n (node_there g d x.tree n x.holds (there x.tree x.holds)).0

        -- and that is the one
        pub name_found : (b : Bool) → ((node : Node) → IsOfInode node p.inode → b ≡ may_access user node to_write) → b ≡ true → All (λ c. c < 256) path.bytes.now
            → (i : Inode) → i ≡ v.inodes n → (name : Bor Name) → name.now ≡ last_part way.parts
            → FindsName g d user path (Ok (record { directory = p.directory; name = name; number = n; inode = i }))
        name_found b right b_is bytes i loaded name name_is t holds =
            let at = means t holds in
            let names : (directory_of g v p.inode).names ≡ (directory_of g v (v.inodes p.directory)).names = ap (λ (j : Inode). (directory_of g v j).names) at.inode in
            let same : p.name.now ≡ name.now = at.name ∙ sym name_is in
            record {
              directory = at.directory;
              name = ap is_name name_is ∙ last_is_name path way bytes read last;
              found = (λ k. inode_of (sym names k) (sym same k)) ∙ leads t holds ∙ is;
              loaded = loaded;
              goes_on = λ rest.
                  at_parent t holds rest b true right b_is
                  ∙ ap (λ (o : Option Node). or_refuse o ENOENT >>= λ node. rest (place_of g d p) n node) (node_there g d t n holds (there t holds)).1
                  ∙ (λ k. rest (record { directory = p.directory; names = names k; name = same k }) n (node_of g v (sym loaded k)));
            }

-- a last name has bytes
pub has_bytes : (way : Way) (name : List ℕ) → has_last_name way ≡ true → name ≡ last_part way.parts → 0 < length name
has_bytes way name last is =
    let some = eqb-false (length (last_part way.parts)) 0 (not-true _ (and_parts (not (length (last_part way.parts) == 0)) (not (is_dots (last_part way.parts))) last).0) in
    let same = ap length is in
    omega (arith, some, same)
