-- The places of a rename.
use Rattle.std.proofs.Common.{◌≡◌, ◌<◌, ℕ, Bool, true, false, Option, Some, None, Ok, Err, refl, sym, ap, ◌∙◌}
use Rattle.std.specs.Prelude.{IfOk, IsTrue, Result, is_some, not, ◌||◌}
use Rattle.std.specs.Borrow.{Bor}
use Rattle.std.specs.List.{All}
use Rattle.std.proofs.lemmas.Bool.{and_parts, cond-true}
use Rattle.errno.specs.declared.Errno.{Errno}
use Rattle.errno.specs.declared.Errno.TheVariants.{EACCES, EINVAL, ENOENT}
use Rattle.layout.specs.declared.Geometry.{Geometry}
use Rattle.tree.specs.declared.PathFrom.{PathFrom}
use Rattle.tree.specs.declared.User.{User}
use Rattle.tree.specs.Names.{Name, Names, inode_of, is_name}
use Rattle.tree.specs.Tree.{Node, Tree}
use Rattle.tree.specs.Refusals.{◌>>=◌, or_refuse, refuse_if}
use Rattle.tree.specs.Walk.{Place, has_last_name, last_part, may_access, node_at, parent_walk, read_path, to_write, Way}
use Rattle.tree.specs.Answers.{Effect}
use Rattle.tree.proofs.PathNames.{last_is_name}
use Rattle.volume.specs.declared.Inode.{Inode}
use Rattle.volume.specs.Reading.{Disk, is_inode}
use Rattle.volume.specs.Pieces.{Pieces, pieces}
use Rattle.volume.specs.Nodes.{is_directory_mode, is_marked, node_of}
use Rattle.volume.specs.Holds.{HoldsVolume}
use Rattle.block_store.specs.declared.Halt.{Halt}
use Rattle.zone.proofs.ZoneInodes.{inode_is}
use Rattle.path.specs.declared.place.NamePlace.{NamePlace as Found}
use Rattle.path.specs.Places.{place_of}
use Rattle.path.proofs.Going.{has_entries}
use Rattle.calls_attributes.proofs.Made.{node_there}
use Rattle.calls_names.specs.Names.{IsOfInode, IsVolume, MeansPlace}
use Rattle.inode_operations.specs.declared.moves.Move.{Move}
use Rattle.calls_rename.specs.declared.asked.Asked.{Asked}
use Rattle.calls_rename.specs.Asked.{FindsAsked, FindsBoth, IsBetween, IsNamed, Rest, on_paths, on_places}

-- The steps of a rename.
abbrev from_node : Tree → Rest → Place → Place → ℕ → Effect
from_node t rest old new n = node_at t n >>= λ node. rest old new n node

abbrev from_new : Tree → User → Rest → Place → Place → ℕ → Effect
from_new t user rest old new n = node_at t new.directory >>= λ parent. refuse_if (not (may_access user parent to_write)) EACCES >>= λ _. from_node t rest old new n

abbrev from_old : Tree → User → Rest → Place → Place → ℕ → Effect
from_old t user rest old new n = node_at t old.directory >>= λ parent. refuse_if (not (may_access user parent to_write)) EACCES >>= λ _. from_new t user rest old new n

abbrev from_second : Tree → User → Way → Rest → Place → ℕ → Effect
from_second t user to rest old n = parent_walk t user to >>= λ new. from_old t user rest old new n

abbrev from_first : Tree → User → Way → Rest → Place → Effect
from_first t user to rest old = or_refuse (inode_of old.names old.name) ENOENT >>= λ n. from_second t user to rest old n

-- A place, with its last name.
module _ (g : Geometry) (d : Disk) (user : User) (way : Way) (p : Found) (means : MeansPlace g d user way (Ok p)) where
  abbrev v : Pieces
  v = pieces g d

  leads_to : has_last_name way ≡ true → (t : Tree) → HoldsVolume g d t → inode_of (place_of g d p).names p.name.now ≡ p.there
  leads_to last t holds =
      let at = means t holds in
      ap (inode_of (place_of g d p).names) at.name ∙ sym (cond-true (has_last_name way) (inode_of (place_of g d p).names (last_part way.parts)) None last) ∙ sym at.there

  its_directory : (t : Tree) → HoldsVolume g d t → t.nodes p.directory ≡ Some (node_of g v p.inode)
  its_directory t holds =
      let at = means t holds in
      ap (λ (f : ℕ → Option Node). f p.directory) holds.nodes.nodes
      ∙ cond-true (is_marked g v p.directory) _ _ (and_parts (is_marked g v p.directory) (is_directory_mode (v.inodes p.directory).mode) at.directory).0
      ∙ ap (λ (j : Inode). Some (node_of g v j)) (sym at.inode)

module _ (g : Geometry) (d : Disk) (user : User) (from to : Way) where
  -- the walk to the old place is refused
  pub old_not_walked : (e : Errno) → MeansPlace g d user from (Err e) → FindsBoth g d user from to (Err e)
  old_not_walked e means t holds rest = ap (λ (r : Result Place Errno). r >>= λ old. from_first t user to rest old) (means t holds)

  module _ (last : has_last_name from ≡ true) (p : Found) (means : MeansPlace g d user from (Ok p)) where
    at_old : (t : Tree) → HoldsVolume g d t → (rest : Rest) (o : Option ℕ) → p.there ≡ o
        → on_places t user from to rest ≡ (or_refuse o ENOENT >>= λ n. from_second t user to rest (place_of g d p) n)
    at_old t holds rest o is =
        ap (λ (r : Result Place Errno). r >>= λ old. from_first t user to rest old) (means t holds).walked
        ∙ ap (λ (x : Option ℕ). or_refuse x ENOENT >>= λ n. from_second t user to rest (place_of g d p) n) (leads_to g d user from p means last t holds ∙ is)

    -- there is no such name
    pub old_missing : p.there ≡ None → FindsBoth g d user from to (Err ENOENT)
    old_missing is t holds rest = at_old t holds rest None is

    module _ (n : ℕ) (is : p.there ≡ Some n) where
      at_new : (t : Tree) → HoldsVolume g d t → (rest : Rest) (r : Result Place Errno) → parent_walk t user to ≡ r
          → on_places t user from to rest ≡ (r >>= λ new. from_old t user rest (place_of g d p) new n)
      at_new t holds rest r walked = at_old t holds rest (Some n) is ∙ ap (λ (x : Result Place Errno). x >>= λ new. from_old t user rest (place_of g d p) new n) walked

      -- the walk to the new place is refused
      pub new_not_walked : (e : Errno) → MeansPlace g d user to (Err e) → FindsBoth g d user from to (Err e)
      new_not_walked e refused t holds rest = at_new t holds rest (Err e) (refused t holds)

      module _ (q : Found) (means_too : MeansPlace g d user to (Ok q)) (b : Bool) (right : (node : Node) → IsOfInode node p.inode → b ≡ may_access user node to_write) where
        at_parent : (t : Tree) → HoldsVolume g d t → (rest : Rest) (c : Bool) → b ≡ c
            → on_places t user from to rest ≡ (refuse_if (not c) EACCES >>= λ _. from_new t user rest (place_of g d p) (place_of g d q) n)
        at_parent t holds rest c b_is =
            at_new t holds rest (Ok (place_of g d q)) (means_too t holds).walked
            ∙ ap (λ (o : Option Node). or_refuse o ENOENT >>= λ parent. refuse_if (not (may_access user parent to_write)) EACCES >>= λ _. from_new t user rest (place_of g d p) (place_of g d q) n)
            (its_directory g d user from p means t holds)
            ∙ ap (λ (x : Bool). refuse_if (not x) EACCES >>= λ _. from_new t user rest (place_of g d p) (place_of g d q) n)
            (sym (right (node_of g (pieces g d) p.inode) (record { permissions = refl; uid = refl; gid = refl })) ∙ b_is)

        -- the user may not write the old directory
        pub old_not_writable : b ≡ false → FindsBoth g d user from to (Err EACCES)
        old_not_writable b_is t holds rest = at_parent t holds rest false b_is

        module _ (b_is : b ≡ true) (w : Bool) (right_too : (node : Node) → IsOfInode node q.inode → w ≡ may_access user node to_write) where
          at_node : (t : Tree) → HoldsVolume g d t → (rest : Rest) (c : Bool) → w ≡ c
              → on_places t user from to rest ≡ (refuse_if (not c) EACCES >>= λ _. from_node t rest (place_of g d p) (place_of g d q) n)
          at_node t holds rest c w_is =
              at_parent t holds rest true b_is
              ∙ ap (λ (o : Option Node). or_refuse o ENOENT >>= λ parent. refuse_if (not (may_access user parent to_write)) EACCES >>= λ _. from_node t rest (place_of g d p) (place_of g d q) n)
              (its_directory g d user to q means_too t holds)
              ∙ ap (λ (x : Bool). refuse_if (not x) EACCES >>= λ _. from_node t rest (place_of g d p) (place_of g d q) n)
              (sym (right_too (node_of g (pieces g d) q.inode) (record { permissions = refl; uid = refl; gid = refl })) ∙ w_is)

          -- or the new one
          pub new_not_writable : w ≡ false → FindsBoth g d user from to (Err EACCES)
          new_not_writable w_is t holds rest = at_node t holds rest false w_is

          -- a name leads to a node
          some_there : (t : Tree) → HoldsVolume g d t → IsTrue (is_some (t.nodes n))
          some_there t holds =
              let at = means t holds in
              holds.nodes.tree.nodes.targets p.directory n p.name.now
              (ap (λ (ns : Names). inode_of ns p.name.now) (has_entries g d t p.directory p.inode holds.nodes at.directory at.inode).names ∙ leads_to g d user from p means last t holds ∙ is)

          pub its_number : IsVolume g d → IsTrue (is_inode g n)
          its_number x = inode_is g (pieces g d) n (node_there g d x.tree n x.holds (some_there x.tree x.holds)).0

          -- and these are the places
          pub both_found : w ≡ true → has_last_name to ≡ true → (i : Inode) → i ≡ (pieces g d).inodes n → (k : Bool) → k ≡ is_directory_mode i.mode
              → (now : ℕ) (old new : Bor Name) → old.now ≡ last_part from.parts → new.now ≡ last_part to.parts
              → FindsBoth g d user from to (Ok (record {
                what = record { number = n; is_directory = k; from = p.directory; old = old; to = q.directory; new = new; now = now };
                from = p.inode;
                to = q.inode;
                there = q.there;
              }))
          both_found w_is last_too i loaded k kind now old new old_is new_is t holds =
              let at = means t holds in
              let at_too = means_too t holds in
              let same : p.name.now ≡ old.now = at.name ∙ sym old_is in
              let same_too : q.name.now ≡ new.now = at_too.name ∙ sym new_is in
              record {
                from = at.inode;
                from_there = its_directory g d user from p means t holds;
                from_directory = at.directory;
                to = at_too.inode;
                to_there = its_directory g d user to q means_too t holds;
                to_directory = at_too.directory;
                leads = ap (inode_of (place_of g d p).names) (sym same) ∙ leads_to g d user from p means last t holds ∙ is;
                finds = ap (inode_of (place_of g d q).names) (sym same_too) ∙ leads_to g d user to q means_too last_too t holds;
                there = (node_there g d t n holds (some_there t holds)).1;
                kind = kind ∙ ap (λ (j : Inode). is_directory_mode j.mode) loaded;
                goes_on = λ rest.
                    at_node t holds rest true w_is
                    ∙ ap (λ (o : Option Node). or_refuse o ENOENT >>= λ node. rest (place_of g d p) (place_of g d q) n node) (node_there g d t n holds (some_there t holds)).1
                    ∙ (λ j. rest (record { directory = p.directory; names = (place_of g d p).names; name = same j })
                    (record { directory = q.directory; names = (place_of g d q).names; name = same_too j }) n (node_of g (pieces g d) ((pieces g d).inodes n)));
              }

-- The two paths.
module _ (g : Geometry) (d : Disk) (user : User) (old new : PathFrom) where
  abbrev from_ways : Tree → Rest → Way → Way → Effect
  from_ways t rest from to = refuse_if (not (has_last_name from) || not (has_last_name to)) EINVAL >>= λ _. on_places t user from to rest

  -- the old one can't be read
  pub old_not_read : (e : Errno) → read_path old ≡ Err e → FindsAsked g d user old new (Err e)
  old_not_read e is t holds rest = ap (λ (r : Result Way Errno). r >>= λ from. read_path new >>= λ to. from_ways t rest from to) is

  module _ (from : Way) (old_read : read_path old ≡ Ok from) where
    begun : (t : Tree) (rest : Rest) (r : Result Way Errno) → read_path new ≡ r → on_paths t user old new rest ≡ (r >>= λ to. from_ways t rest from to)
    begun t rest r is =
        ap (λ (r : Result Way Errno). r >>= λ ps. read_path new >>= λ to. from_ways t rest ps to) old_read
        ∙ ap (λ (r : Result Way Errno). r >>= λ to. from_ways t rest from to) is

    -- or the new one
    pub new_not_read : (e : Errno) → read_path new ≡ Err e → FindsAsked g d user old new (Err e)
    new_not_read e is t holds rest = begun t rest (Err e) is

    module _ (to : Way) (new_read : read_path new ≡ Ok to) where
      asks : (t : Tree) (rest : Rest) (b c : Bool) → has_last_name from ≡ b → has_last_name to ≡ c
          → on_paths t user old new rest ≡ (refuse_if (not b || not c) EINVAL >>= λ _. on_places t user from to rest)
      asks t rest b c b_is c_is =
          begun t rest (Ok to) new_read
          ∙ ap (λ (x : Bool). refuse_if (not x || not (has_last_name to)) EINVAL >>= λ _. on_places t user from to rest) b_is
          ∙ ap (λ (x : Bool). refuse_if (not b || not x) EINVAL >>= λ _. on_places t user from to rest) c_is

      -- it has no last name
      pub old_unnamed : has_last_name from ≡ false → FindsAsked g d user old new (Err EINVAL)
      old_unnamed none t holds rest = asks t rest false (has_last_name to) none refl

      pub new_unnamed : has_last_name from ≡ true → has_last_name to ≡ false → FindsAsked g d user old new (Err EINVAL)
      new_unnamed last none t holds rest = asks t rest true false last none

      -- both have, and the places are asked for
      pub asked_as_found : has_last_name from ≡ true → has_last_name to ≡ true → (r : Result Asked Errno) → FindsBoth g d user from to r → FindsAsked g d user old new r
      asked_as_found last last_too (Err e) finds t holds = λ rest. asks t rest true true last last_too ∙ finds t holds rest
      asked_as_found last last_too (Ok x) finds t holds =
          let f = finds t holds in
          record {
            from = f.from;
            from_there = f.from_there;
            from_directory = f.from_directory;
            to = f.to;
            to_there = f.to_there;
            to_directory = f.to_directory;
            leads = f.leads;
            finds = f.finds;
            there = f.there;
            kind = f.kind;
            goes_on = λ rest. asks t rest true true last last_too ∙ f.goes_on rest;
          }

      -- the names are names
      pub named_as_between : has_last_name from ≡ true → has_last_name to ≡ true → All (λ c. c < 256) old.bytes.now → All (λ c. c < 256) new.bytes.now
          → (now : ℕ) (m : Move) → IsBetween now from to m → IsNamed now m
      named_as_between last last_too bytes bytes_too now m at = record {
        time = at.time;
        old = ap is_name at.old ∙ last_is_name old from bytes old_read last;
        new = ap is_name at.new ∙ last_is_name new to bytes_too new_read last_too;
      }

      pub named_in_asked : has_last_name from ≡ true → has_last_name to ≡ true → All (λ c. c < 256) old.bytes.now → All (λ c. c < 256) new.bytes.now
          → (now : ℕ) (r : Result (Result Asked Errno) Halt) → IfOk r (λ s. IfOk s (λ (x : Asked). IsBetween now from to x.what)) → IfOk r (λ s. IfOk s (λ (x : Asked). IsNamed now x.what))
      named_in_asked last last_too bytes bytes_too now (Ok (Ok x)) at = named_as_between last last_too bytes bytes_too now x.what at
      named_in_asked last last_too bytes bytes_too now (Ok (Err e)) at = tt
      named_in_asked last last_too bytes bytes_too now (Err h) at = tt
