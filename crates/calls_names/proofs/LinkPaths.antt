-- A file has a name more.
use Rattle.std.proofs.Common.{◌≡◌, ◌<◌, ◌≤◌, ℕ, Bool, true, false, Option, Some, None, Ok, Err, refl, sym, ap, ◌∙◌, arith}
use Rattle.std.specs.Prelude.{IsTrue, Result, is_some, not, nat_le, ◌||◌}
use Rattle.std.specs.Borrow.{Bor}
use Rattle.std.proofs.lemmas.Bool.{and_parts, cond-true, le-leb, lt-leb}
use Rattle.lemmas.proofs.Bools.{false_not_true}
use Rattle.errno.specs.declared.Errno.{Errno}
use Rattle.errno.specs.declared.Errno.TheVariants.{EACCES, EEXIST, EMLINK, ENOENT, EPERM}
use Rattle.layout.specs.declared.Geometry.{Geometry}
use Rattle.tree.specs.declared.User.{User}
use Rattle.tree.specs.Names.{Name, has_name, inode_of}
use Rattle.tree.specs.Tree.{Node, Tree, is_dir, most_links}
use Rattle.tree.specs.Refusals.{◌>>=◌, or_refuse, refuse_if}
use Rattle.tree.specs.Walk.{Place, has_last_name, is_taken, last_part, may_access, parent_walk, read_path, to_write, Way}
use Rattle.tree.specs.Walk as tree
use Rattle.tree.specs.Answers.{Effect}
use Rattle.volume.specs.declared.Inode.{Inode}
use Rattle.volume.specs.Reading.{Disk, is_inode}
use Rattle.volume.specs.Pieces.{Pieces, pieces}
use Rattle.volume.specs.Nodes.{directory_of, is_directory_mode, is_marked, node_of}
use Rattle.volume.specs.Holds.{HoldsVolume}
use Rattle.zone.proofs.ZoneInodes.{inode_is}
use Rattle.path.specs.declared.place.NamePlace.{NamePlace as Found}
use Rattle.path.specs.Places.{place_of}
use Rattle.calls_attributes.specs.Named.{LeadsTo}
use Rattle.calls_attributes.specs.Named as named
use Rattle.calls_attributes.proofs.Made.{node_there}
use Rattle.inode_operations.specs.Steps.{node_at}
use Rattle.inode_operations.proofs.Between.{kind_is}
use Rattle.calls_names.specs.Names.{IsOfInode, IsVolume, MeansPlace}
use Rattle.calls_names.specs.Linking.{FindsFile, FindsFree, on_file, on_free}

-- The file.
abbrev to_file : (ℕ → Node → Effect) → ℕ → Node → Effect
to_file rest n node = refuse_if (is_dir node) EPERM >>= λ _. refuse_if (nat_le most_links node.links) EMLINK >>= λ _. rest n node

-- a volume that holds a tree, by the name that the walk has for it
pub volume_named : (g : Geometry) (d : Disk) → IsVolume g d → named.IsVolume g d
volume_named g d x = record { tree = x.tree; holds = x.holds }

-- the walk there is refused
pub file_not_walked : (g : Geometry) (d : Disk) (user : User) (way : Way) (e : Errno) → LeadsTo g d user way (Err e)
    → FindsFile g d user way (Err e)
file_not_walked g d user way e leads t holds rest =
    ap (λ (r : Result ℕ Errno). r >>= λ n. tree.node_at t n >>= λ node. to_file rest n node) (leads t holds).answer

-- or leads to a node
module _ (g : Geometry) (d : Disk) (user : User) (way : Way) (n : ℕ) (leads : LeadsTo g d user way (Ok n)) where
  pub number_of_file : IsVolume g d → IsTrue (is_inode g n)
  number_of_file x = inode_is g (pieces g d) n (node_there g d x.tree n x.holds (leads x.tree x.holds).there).0

  there : (t : Tree) → HoldsVolume g d t → t.nodes n ≡ Some (node_at g (pieces g d) n)
  there t holds = (node_there g d t n holds (leads t holds).there).1

  -- what follows once it is known whether it has too many links, and before that whether it is a directory
  abbrev after_count : (ℕ → Node → Effect) → Bool → Effect
  after_count rest many = refuse_if many EMLINK >>= λ _. rest n (node_at g (pieces g d) n)

  abbrev after_kind : (ℕ → Node → Effect) → Bool → ℕ → Effect
  after_kind rest directory links = refuse_if directory EPERM >>= λ _. after_count rest (nat_le most_links links)

  module _ (i : Inode) (loaded : i ≡ (pieces g d).inodes n) where
    kind : is_dir (node_at g (pieces g d) n) ≡ is_directory_mode i.mode
    kind = kind_is g (pieces g d) n ∙ sym (ap (λ (j : Inode). is_directory_mode j.mode) loaded)

    reached : (t : Tree) → HoldsVolume g d t → (rest : ℕ → Node → Effect) (b : Bool) → is_directory_mode i.mode ≡ b
        → on_file t user way rest ≡ after_kind rest b i.links
    reached t holds rest b mode =
        ap (λ (r : Result ℕ Errno). r >>= λ m. tree.node_at t m >>= λ node. to_file rest m node) (leads t holds).answer
        ∙ ap (λ (o : Option Node). or_refuse o ENOENT >>= λ node. to_file rest n node) (there t holds)
        ∙ ap (λ x. after_kind rest x ((pieces g d).inodes n).links) (kind ∙ mode)
        ∙ ap (λ (j : Inode). after_kind rest b j.links) (sym loaded)

    pub file_is_directory : is_directory_mode i.mode ≡ true → FindsFile g d user way (Err EPERM)
    file_is_directory mode t holds rest = reached t holds rest true mode

    pub file_has_links : is_directory_mode i.mode ≡ false → most_links ≤ i.links → FindsFile g d user way (Err EMLINK)
    file_has_links mode many t holds rest =
        reached t holds rest false mode ∙ ap (after_count rest) (le-leb most_links i.links many)

    pub file_found : is_directory_mode i.mode ≡ false → i.links < most_links → FindsFile g d user way (Ok n)
    file_found mode few t holds = record {
      there = there t holds;
      file = kind ∙ mode;
      few = let same = ap (λ (j : Inode). j.links) loaded in omega (arith, few, same);
      goes_on = λ rest. reached t holds rest false mode ∙ ap (after_count rest) (lt-leb most_links i.links few);
    }

-- The place.
abbrev to_place : Tree → User → Way → (Place → Effect) → Place → Effect
to_place t user way rest place =
    refuse_if (is_taken place way) EEXIST >>= λ _. tree.node_at t place.directory >>= λ parent. refuse_if (not (may_access user parent to_write)) EACCES >>= λ _. rest place

pub place_not_walked : (g : Geometry) (d : Disk) (user : User) (way : Way) (e : Errno) → MeansPlace g d user way (Err e) → FindsFree g d user way (Err e)
place_not_walked g d user way e means t holds rest = ap (λ (r : Result Place Errno). r >>= λ place. to_place t user way rest place) (means t holds)

module _ (g : Geometry) (d : Disk) (user : User) (way : Way) (p : Found) (means : MeansPlace g d user way (Ok p)) where
  abbrev v : Pieces
  v = pieces g d

  come : (t : Tree) → HoldsVolume g d t → (rest : Place → Effect) (b : Bool) → has_last_name way ≡ b
      → on_free t user way rest ≡ (refuse_if (not b || has_name (place_of g d p).names p.name.now) EEXIST
      >>= λ _. tree.node_at t p.directory >>= λ parent. refuse_if (not (may_access user parent to_write)) EACCES >>= λ _. rest (place_of g d p))
  come t holds rest b is =
      ap (λ (r : Result Place Errno). r >>= λ place. to_place t user way rest place) (means t holds).walked
      ∙ ap (λ x. refuse_if (not x || has_name (place_of g d p).names p.name.now) EEXIST >>= λ _. tree.node_at t p.directory >>= λ parent.
      refuse_if (not (may_access user parent to_write)) EACCES >>= λ _. rest (place_of g d p)) is

  -- it has no last name
  pub place_unnamed : has_last_name way ≡ false → FindsFree g d user way (Err EEXIST)
  place_unnamed none t holds rest = come t holds rest false none

  module _ (last : has_last_name way ≡ true) where
    leads_to : (t : Tree) → HoldsVolume g d t → inode_of (place_of g d p).names p.name.now ≡ p.there
    leads_to t holds =
        let at = means t holds in
        ap (inode_of (place_of g d p).names) at.name ∙ sym (cond-true (has_last_name way) (inode_of (place_of g d p).names (last_part way.parts)) None last) ∙ sym at.there

    arrive : (t : Tree) → HoldsVolume g d t → (rest : Place → Effect) (b : Bool) → is_some p.there ≡ b
        → on_free t user way rest ≡ (refuse_if b EEXIST >>= λ _. tree.node_at t p.directory >>= λ parent. refuse_if (not (may_access user parent to_write)) EACCES >>= λ _. rest (place_of g d p))
    arrive t holds rest b is =
        come t holds rest true last
        ∙ ap (λ x. refuse_if x EEXIST >>= λ _. tree.node_at t p.directory >>= λ parent. refuse_if (not (may_access user parent to_write)) EACCES >>= λ _. rest (place_of g d p))
        (ap is_some (leads_to t holds) ∙ is)

    -- there is such a name
    pub place_taken : is_some p.there ≡ true → FindsFree g d user way (Err EEXIST)
    place_taken is t holds rest = arrive t holds rest true is

    module _ (free : is_some p.there ≡ false) (b : Bool) (right : (node : Node) → IsOfInode node p.inode → b ≡ may_access user node to_write) where
      parent_is : (t : Tree) → HoldsVolume g d t → t.nodes p.directory ≡ Some (node_of g v p.inode)
      parent_is t holds =
          let at = means t holds in
          ap (λ (f : ℕ → Option Node). f p.directory) holds.nodes.nodes
          ∙ cond-true (is_marked g v p.directory) _ _ (and_parts (is_marked g v p.directory) (is_directory_mode (v.inodes p.directory).mode) at.directory).0
          ∙ ap (λ (j : Inode). Some (node_of g v j)) (sym at.inode)

      asked : (t : Tree) → HoldsVolume g d t → (rest : Place → Effect) (c : Bool) → b ≡ c → on_free t user way rest ≡ (refuse_if (not c) EACCES >>= λ _. rest (place_of g d p))
      asked t holds rest c is =
          arrive t holds rest false free
          ∙ ap (λ (o : Option Node). or_refuse o ENOENT >>= λ parent. refuse_if (not (may_access user parent to_write)) EACCES >>= λ _. rest (place_of g d p)) (parent_is t holds)
          ∙ ap (λ x. refuse_if (not x) EACCES >>= λ _. rest (place_of g d p)) (sym (right (node_of g v p.inode) (record { permissions = refl; uid = refl; gid = refl })) ∙ is)

      -- the user may not write there
      pub place_barred : b ≡ false → FindsFree g d user way (Err EACCES)
      place_barred is t holds rest = asked t holds rest false is

      -- or may
      pub place_found : b ≡ true → (name : Bor Name) → name.now ≡ last_part way.parts → FindsFree g d user way (Ok (record { directory = p.directory; size = p.inode.size; name = name }))
      place_found is name name_is t holds =
          let at = means t holds in
          let names : (directory_of g v p.inode).names ≡ (directory_of g v (v.inodes p.directory)).names = ap (λ (j : Inode). (directory_of g v j).names) at.inode in
          let same : p.name.now ≡ name.now = at.name ∙ sym name_is in
          record {
            directory = at.directory;
            missing = (λ k. inode_of (sym names k) (sym same k)) ∙ leads_to t holds ∙ nothing p.there free;
            size = ap (λ (j : Inode). j.size) at.inode;
            goes_on = λ rest. asked t holds rest true is ∙ (λ k. rest (record { directory = p.directory; names = names k; name = same k }));
          }
        where
          nothing : (o : Option ℕ) → is_some o ≡ false → o ≡ None
          nothing None e = refl
          nothing (Some n) e = absurd (false_not_true (sym e))
