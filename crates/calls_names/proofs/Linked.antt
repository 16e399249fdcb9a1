-- Link, once its paths are read.
use Rattle.std.proofs.Common.{◌≡◌, ◌≢◌, ◌<◌, ◌≤◌, ◌+◌, ◌*◌, ◌^◌, ℕ, length, Bool, true, false, Option, Some, None, Ok, Err, refl, sym, ap, subst, ◌∙◌, arith}
use mathlib.Core.Logic.{inl, inr}
use Rattle.std.specs.Prelude.{IsTrue, Result, not, nat_le, nat_lt, ◌==◌, ◌||◌, ◌&&◌, if◌then◌else◌}
use Rattle.std.specs.List.{All, list_any}
use Rattle.std.proofs.lemmas.Bool.{and_parts, cases_eq, cases_lt, cond-true, le-ltb, leb-true, lt-ltb}
use Rattle.lemmas.proofs.Bools.{false_not_true}
use Rattle.errno.specs.declared.Errno.{Errno}
use Rattle.errno.specs.declared.Errno.TheVariants.{ENOSPC}
use Rattle.layout.specs.declared.Geometry.{Geometry}
use Rattle.layout.specs.Places.{IsGeometry}
use Rattle.tree.specs.declared.PathFrom.{PathFrom}
use Rattle.tree.specs.declared.User.{User}
use Rattle.lemmas.specs.Sums.{put}
use Rattle.tree.specs.Names.{Name, Names, inode_of, is_dots, is_name, most_name, with_name}
use Rattle.tree.specs.Tree.{Body, Node, Tree, is_dir, is_directory, most_size, names_of, size_of, with_node}
use Rattle.tree.specs.IsTree.{IsTree}
use Rattle.tree.specs.Refusals.{◌>>=◌}
use Rattle.tree.specs.Walk.{Place, read_path, Way}
use Rattle.tree.specs.Changes.{more_links, with_ctime, with_names}
use Rattle.tree.specs.Space.{data_zones, zones_of, zones_used}
use Rattle.tree.specs.Answers.{Effect, done, if_it_fits, refused}
use Rattle.tree.specs.NameCalls.{link, with_entry}
use Rattle.lemmas.proofs.Maps.{put-other, put-same, same_sum}
use Rattle.tree.proofs.CallsKeep.{link_keeps}
use Rattle.tree.proofs.Growth.{grown_fits}
use Rattle.tree.proofs.PathNames.{last_is_name}
use Rattle.tree.proofs.Shapes.{kind_of, weight}
use Rattle.tree.proofs.Totals.{weigh_one}
use Rattle.tree.proofs.Views.{on_node_there}
use Rattle.tree.proofs.Weights.{weigh, weigh_with_name}
use Rattle.volume.specs.Reading.{Disk, is_inode}
use Rattle.volume.specs.Pieces.{Pieces, pieces}
use Rattle.volume.specs.Nodes.{is_directory_mode, is_marked}
use Rattle.volume.specs.Holds.{HoldsVolume}
use Rattle.volume.proofs.Ranges.{marked_below}
use Rattle.zone.specs.Room.{taken_by}
use Rattle.zone.proofs.ZoneInodes.{inode_is}
use Rattle.directory.specs.Directories.{before}
use Rattle.directory.specs.Names.{Inserts, IsOfDirectory, MayInsert}
use Rattle.descriptors.specs.Files.{Files, HasFiles}
use Rattle.calls_attributes.specs.Does.{Does, IsHeld, tree_in}
use Rattle.calls_attributes.proofs.Made.{granted_made, refused_made}
use Rattle.inode_operations.specs.Steps.{AddsLink, BecomesAt, MayAddLink, node_at}
use Rattle.inode_operations.specs.Naming.{named}
use Rattle.inode_operations.specs.Stands.{Stands}
use Rattle.inode_operations.proofs.Between.{holds_at_end, kind_is, node_stands, nothing_is_done, step_is_done}
use Rattle.inode_operations.proofs.Entering.{body_is, name_may_be_put, names_are, room_is_for_name}
use Rattle.calls_names.specs.declared.linking.Free.{Free}
use Rattle.calls_names.specs.Linking.{FindsFile, FindsFree, IsFree, IsLast, IsRoomFor, free_at, on_file, on_free}

-- a last name is within its limit, and is a name
pub name_of : (path : PathFrom) (way : Way) (name : Name) → All (λ b. b < 256) path.bytes.now → read_path path ≡ Ok way → IsLast way name → IsTrue (is_name name)
name_of path way name bytes read last = ap is_name last.last ∙ last_is_name path way bytes read last.named

pub name_short : (name : Name) → IsTrue (is_name name) → length name ≤ most_name
name_short name is =
    let bad = list_any (λ c. (c == 47) || (c == 0) || nat_lt 255 c) name in
    let within = nat_le 1 (length name) && nat_le (length name) most_name in
    let clean = (and_parts (within && not bad) (not (is_dots name)) is).0 in
    leb-true (length name) most_name (and_parts (nat_le 1 (length name)) (nat_le (length name) most_name) (and_parts within (not bad) clean).0).1

-- the nodes take as many zones where one has other attributes
taken_alike : (g : Geometry) (nodes : ℕ → Option Node) (n m : ℕ) (x y : Node) (o : Option Node) → nodes n ≡ Some x → zones_of g (Some y) ≡ zones_of g (Some x) → n ≢ m
    → taken_by g (put (put nodes n (Some y)) m o) ≡ taken_by g (put nodes m o)
taken_alike g nodes n m x y o is same apart = same_sum _ _ (g.inodes + 1) (λ k _. each k)
  where
    each : (k : ℕ) → zones_of g (put (put nodes n (Some y)) m o k) ≡ zones_of g (put nodes m o k)
    each k = elim (cases_eq k m) [
      | inl e ↦ ap (λ j. zones_of g (put (put nodes n (Some y)) m o j)) e ∙ ap (zones_of g) (put-same (put nodes n (Some y)) m o ∙ sym (put-same nodes m o)) ∙ sym (ap (λ j. zones_of g (put nodes m o j)) e)
      | inr d ↦
          ap (zones_of g) (put-other (put nodes n (Some y)) m o k d)
          ∙ elim (cases_eq k n) [
            | inl e ↦ ap (λ j. zones_of g (put nodes n (Some y) j)) e ∙ ap (zones_of g) (put-same nodes n (Some y)) ∙ same ∙ sym (ap (zones_of g) is) ∙ sym (ap (λ j. zones_of g (nodes j)) e)
            | inr q ↦ ap (zones_of g) (put-other nodes n (Some y) k q)
          ]
          ∙ sym (ap (zones_of g) (put-other nodes m o k d))
    ]

module _ (g : Geometry) (user : User) (now : ℕ) (old new : PathFrom) (f : Files) (d : Disk) where
  abbrev at_end : Tree → ℕ → Node → Place → Effect
  at_end t n node place = if_it_fits g done (with_entry (with_node t n (Some (with_ctime now (more_links 1 node)))) now place n)

  abbrev from_new : Tree → Way → Way → Effect
  from_new t from to = on_file t user from (λ n node. on_free t user to (λ place. at_end t n node place))

  -- a path can't be read
  pub old_refused : (e : Disk) (error : Errno) → e ≡ d → read_path old ≡ Err error → Does g (λ t. link g t user now old new) (refused error) (HasFiles f) (HasFiles f) d e
  old_refused e error same is = record {
    each = λ t holds files. refused_made g t (link g t user now old new) error (HasFiles f) d e
        (ap (λ (r : Result Way Errno). r >>= λ from. read_path new >>= λ to. from_new t from to) is) same holds files;
  }

  module _ (from : Way) (old_read : read_path old ≡ Ok from) where
    pub new_refused : (e : Disk) (error : Errno) → e ≡ d → read_path new ≡ Err error → Does g (λ t. link g t user now old new) (refused error) (HasFiles f) (HasFiles f) d e
    new_refused e error same is = record {
      each = λ t holds files. refused_made g t (link g t user now old new) error (HasFiles f) d e
          (ap (λ (r : Result Way Errno). r >>= λ ps. read_path new >>= λ to. from_new t ps to) old_read
          ∙ ap (λ (r : Result Way Errno). r >>= λ to. from_new t from to) is) same holds files;
    }

    module _ (to : Way) (new_read : read_path new ≡ Ok to) where
      begun : (t : Tree) → link g t user now old new ≡ from_new t from to
      begun t =
          ap (λ (r : Result Way Errno). r >>= λ ps. read_path new >>= λ qs. from_new t ps qs) old_read
          ∙ ap (λ (r : Result Way Errno). r >>= λ qs. from_new t from qs) new_read

      -- the file is refused
      pub file_refused : (e : Disk) (error : Errno) → e ≡ d → FindsFile g d user from (Err error)
          → Does g (λ t. link g t user now old new) (refused error) (HasFiles f) (HasFiles f) d e
      file_refused e error same finds = record {
        each = λ t holds files. refused_made g t (link g t user now old new) error (HasFiles f) d e
            (begun t ∙ finds t holds (λ n node. on_free t user to (λ place. at_end t n node place))) same holds files;
      }

      module _ (n : ℕ) (file : FindsFile g d user from (Ok n)) where
        abbrev v : Pieces
        v = pieces g d

        abbrev target : Node
        target = node_at g v n

        gone_on : (t : Tree) → HoldsVolume g d t → link g t user now old new ≡ on_free t user to (λ place. at_end t n target place)
        gone_on t holds = begun t ∙ (file t holds).goes_on (λ m node. on_free t user to (λ place. at_end t m node place))

        -- the place is
        pub place_refused : (e : Disk) (error : Errno) → e ≡ d → FindsFree g d user to (Err error)
            → Does g (λ t. link g t user now old new) (refused error) (HasFiles f) (HasFiles f) d e
        place_refused e error same finds = record {
          each = λ t holds files. refused_made g t (link g t user now old new) error (HasFiles f) d e
              (gone_on t holds ∙ finds t holds (λ place. at_end t n target place)) same holds files;
        }

        module _ (ok : IsGeometry g) (x : Free) (free : FindsFree g d user to (Ok x)) where
          abbrev parent : Node
          parent = node_at g v x.directory

          abbrev longer : Node
          longer = named now x.name.now n parent

          abbrev more : Node
          more = with_ctime now (more_links 1 target)

          module _ (t : Tree) (holds : HoldsVolume g d t) where
            y : IsFree g d t user to x
            y = free t holds

            parent_there : t.nodes x.directory ≡ Some parent
            parent_there =
                ap (λ (h : ℕ → Option Node). h x.directory) holds.nodes.nodes
                ∙ cond-true (is_marked g v x.directory) (Some parent) None (and_parts (is_marked g v x.directory) (is_directory_mode (v.inodes x.directory).mode) y.directory).0

            parent_kind : is_dir parent ≡ true
            parent_kind = kind_is g v x.directory ∙ (and_parts (is_marked g v x.directory) (is_directory_mode (v.inodes x.directory).mode) y.directory).1

            of : IsOfDirectory g v x.directory
            of = record { geometry = ok; sound = holds.nodes.sound; directory = y.directory }

            pub is_number : IsTrue (is_inode g x.directory)
            is_number = inode_is g v x.directory (and_parts (is_marked g v x.directory) (is_directory_mode (v.inodes x.directory).mode) y.directory).0

            none : inode_of (names_of (Some parent)) x.name.now ≡ None
            none = ap (λ (ns : Names). inode_of ns x.name.now) (names_are g v x.directory of) ∙ y.missing

            start : Stands g d d t.nodes
            start = nothing_is_done g d t holds

            apart : n ≢ x.directory
            apart e = false_not_true (sym (file t holds).file ∙ ap (λ k. is_dir (node_at g v k)) e ∙ parent_kind)

            abbrev first : ℕ → Option Node
            first = put t.nodes n (Some more)

            abbrev after : Tree
            after = with_node (with_node t n (Some more)) x.directory (Some longer)

            still_there : first x.directory ≡ Some parent
            still_there = put-other t.nodes n (Some more) x.directory (λ e. apart (sym e)) ∙ parent_there

            tree_is : with_entry (with_node t n (Some more)) now (free_at g d x) n ≡ after
            tree_is = on_node_there (with_node t n (Some more)) x.directory (with_names now (λ names. with_name names x.name.now n)) parent still_there

            taken : zones_used g after ≡ taken_by g (put t.nodes x.directory (Some longer))
            taken = taken_alike g t.nodes n x.directory target more (Some longer) (file t holds).there refl apart

            effect_is : link g t user now old new ≡ if_it_fits g done after
            effect_is = gone_on t holds ∙ y.goes_on (λ place. at_end t n target place) ∙ ap (if_it_fits g done) tree_is

            -- a directory that fits isn't too long
            parent_body : parent.body ≡ is_directory (before g v x.directory)
            parent_body = body_is g v x.directory of

            long_names : names_of (Some longer) ≡ with_name (before g v x.directory).names x.name.now n
            long_names = ap (λ (b : Body). names_of (Some (with_names now (λ names. with_name names x.name.now n) (record parent { body = b })))) parent_body

            size_is : x.size ≡ 64 * (length (before g v x.directory).names + 2)
            size_is = y.size ∙ (node_stands g d d t.nodes x.directory parent ok start parent_there).size ∙ ap size_of parent_body

            short_if : zones_used g after ≤ data_zones g → x.size + 64 ≤ most_size
            short_if fits =
                let here : after.nodes x.directory ≡ Some longer = put-same first x.directory (Some longer) in
                let kind : kind_of (after.nodes x.directory) ≡ true = ap kind_of here ∙ ap (λ (b : Body). is_dir (with_names now (λ names. with_name names x.name.now n) (record parent { body = b }))) parent_body in
                let marked = marked_below g v x.directory (and_parts (is_marked g v x.directory) (is_directory_mode (v.inodes x.directory).mode) y.directory).0 in
                let grown = grown_fits g ok after x.directory (omega (arith, marked)) kind fits in
                let names = (before g v x.directory).names in
                let count : weight after.nodes (λ _. 1) x.directory ≡ length names + 1 =
                ap (λ (o : Option Node). weigh (λ _. 1) (names_of o)) here ∙ ap (weigh (λ _. 1)) long_names
                ∙ weigh_with_name (λ _. 1) x.name.now n names y.missing ∙ ap (λ k. k + 1) (weigh_one names) in
                let size = size_is in
                omega (arith, grown, count, size)

            -- the file may have a link more
            may_add_link : MayAddLink g v n
            may_add_link =
                let few = (file t holds).few in
                record { of = (node_stands g d d t.nodes n target ok start (file t holds).there).of; links = omega (arith, few) }

          pub may_add : (m0 : Disk) → m0 ≡ d → IsHeld g (HasFiles f) d → MayAddLink g (pieces g m0) n
          may_add m0 same h = subst (λ (z : Disk). MayAddLink g (pieces g z) n) (sym same) (may_add_link h.tree h.holds)

          module _ (room : Bool) (asked : IsRoomFor g v x room) where
            -- what was asked is whether the tree fits
            room_is : (t : Tree) (holds : HoldsVolume g d t) → x.size + 64 ≤ most_size → (room ≡ true → zones_used g (after t holds) ≤ data_zones g) × (zones_used g (after t holds) ≤ data_zones g → room ≡ true)
            room_is t holds short =
                let both = room_is_for_name g d d t.nodes x.directory x.size parent x.name.now n now room ok (start t holds) (parent_there t holds) (parent_kind t holds) (none t holds) (y t holds).size (asked.asked short) in
                let same = taken t holds in
                (λ yes. let fits = both.0 yes in omega (arith, fits, same), λ fits. both.1 (omega (arith, fits, same)))

            -- there is none
            pub no_room : (e : Disk) → e ≡ d → room ≡ false → Does g (λ t. link g t user now old new) (refused ENOSPC) (HasFiles f) (HasFiles f) d e
            no_room e same is = record {
              each = λ t holds files.
                  refused_made g t (link g t user now old new) ENOSPC (HasFiles f) d e (effect_is t holds ∙ cond-true _ _ _ (too_big t holds)) same holds files;
            }
              where
                too_big : (t : Tree) (holds : HoldsVolume g d t) → nat_lt (data_zones g) (zones_used g (after t holds)) ≡ true
                too_big t holds = elim (cases_lt (data_zones g) (zones_used g (after t holds))) [
                  | inl big ↦ lt-ltb _ _ big
                  | inr fits ↦ absurd (false_not_true (sym is ∙ (room_is t holds (short_if t holds fits)).1 fits))
                ]

            module _ (yes : room ≡ true) (m0 m : Disk) (same : m0 ≡ d) (adds : AddsLink g n now m0 m) where
              fits : (t : Tree) (holds : HoldsVolume g d t) → zones_used g (after t holds) ≤ data_zones g
              fits t holds = (room_is t holds (asked.short yes)).0 yes

              added : AddsLink g n now d m
              added = subst (λ (z : Disk). AddsLink g n now z m) same adds

              between : (t : Tree) (holds : HoldsVolume g d t) → Stands g d m (first t holds)
              between t holds = step_is_done g d d m t.nodes n (Some more) (start t holds) added.head (added.becomes (may_add_link t holds))

              module _ (name : IsTrue (is_name x.name.now)) where
                may_put : (t : Tree) (holds : HoldsVolume g d t) → MayInsert g (pieces g m) x.directory x.name.now n
                may_put t holds =
                    let long = asked.short yes in
                    let size : x.size ≡ size_of parent.body = (y t holds).size ∙ (node_stands g d d t.nodes x.directory parent ok (start t holds) (parent_there t holds)).size in
                    let marked = (node_stands g d d t.nodes n target ok (start t holds) (file t holds).there).of.marked in
                    let low = leb-true 1 n (and_parts (nat_le 1 n) (nat_le n g.inodes) (inode_is g v n marked)).0 in
                    name_may_be_put g d m (first t holds) x.directory parent x.name.now n now ok (between t holds) (still_there t holds) (parent_kind t holds)
                    (omega (arith, long, size)) name (λ e. absurd (omega (arith, low, e))) (none t holds) (fits t holds)

                pub may_insert : IsHeld g (HasFiles f) d → MayInsert g (pieces g m) x.directory x.name.now n
                may_insert h = may_put h.tree h.holds

                -- and then the call is done
                module _ (e : Disk) (inserts : Inserts g x.directory x.name.now n now m e) (small : now < 2 ^ 32) (bytes : All (λ b. b < 256) new.bytes.now) where
                  at_last : (t : Tree) (holds : HoldsVolume g d t) → Stands g d e (put (first t holds) x.directory (Some longer))
                  at_last t holds =
                      let b = inserts.becomes (may_put t holds) in
                      let here = node_stands g d m (first t holds) x.directory parent ok (between t holds) (still_there t holds) in
                      step_is_done g d m e (first t holds) x.directory (Some longer) (between t holds) inserts.head
                      (subst (λ (z : Node). BecomesAt g (pieces g m) (pieces g e) x.directory (Some (named now x.name.now n z))) here.node (record { sound = b.sound; nodes = b.nodes }))

                  effect : (t : Tree) (holds : HoldsVolume g d t) → link g t user now old new ≡ Ok (done, after t holds)
                  effect t holds =
                      effect_is t holds
                      ∙ ap (λ b. if b then Err ENOSPC else Ok (done, after t holds)) (le-ltb (data_zones g) (zones_used g (after t holds)) (fits t holds))

                  is_tree : (t : Tree) (holds : HoldsVolume g d t) → IsTree g (after t holds)
                  is_tree t holds = subst (λ (r : Effect). IsTree g (tree_in t r)) (effect t holds)
                      (link_keeps g t (record { session = 0; uid = user.uid; gid = user.gid }) now old new ok small bytes holds.nodes.tree)

                  pub linked : Does g (λ t. link g t user now old new) done (HasFiles f) (HasFiles f) d e
                  linked = record {
                    each = λ t holds files.
                        granted_made g t (after t holds) (link g t user now old new) done (HasFiles f) e (effect t holds)
                        (holds_at_end g d e (put (first t holds) x.directory (Some longer)) t (after t holds) ok holds (at_last t holds) refl (is_tree t holds))
                        (record { opened = files.opened; descriptors = files.descriptors });
                  }
