-- The call, from what is found to the tree after it.
use Rattle.std.proofs.Common.{◌≡◌, ◌≤◌, ◌<◌, ◌^◌, ℕ, Bool, true, false, Option, Some, None, Ok, Err, refl, sym, ap, subst, ◌∙◌}
use mathlib.Core.Logic.{inl, inr}
use Rattle.std.specs.Prelude.{◌&&◌, nat_le, nat_lt, option_map, if◌then◌else◌}
use Rattle.std.specs.List.{All}
use Rattle.std.proofs.lemmas.Bool.{cases_lt, le-leb, le-ltb, leb-true, lt-ltb}
use Rattle.lemmas.proofs.Bools.{false_not_true}
use Rattle.errno.specs.declared.Errno.{Errno}
use Rattle.errno.specs.declared.Errno.TheVariants.{EINVAL, ENOENT, ENOSPC}
use Rattle.layout.specs.declared.Geometry.{Geometry}
use Rattle.layout.specs.Places.{IsGeometry}
use Rattle.tree.specs.declared.PathFrom.{PathFrom}
use Rattle.tree.specs.declared.User.{User}
use Rattle.tree.specs.Names.{inode_of}
use Rattle.tree.specs.Tree.{Node, Tree, is_dir, is_open, on_node, with_node}
use Rattle.tree.specs.IsTree.{IsTree}
use Rattle.tree.specs.Refusals.{◌>>=◌, refuse_if}
use Rattle.tree.specs.Walk.{Place}
use Rattle.tree.specs.Changes.{fewer_links, has_no_link, with_link_lost, without_nameless}
use Rattle.tree.specs.Space.{data_zones, zones_used}
use Rattle.tree.specs.Answers.{Effect, done, if_it_fits, refused}
use Rattle.tree.specs.NameCalls.{is_same, is_within, rename, rename_onto, with_moved, without_moved, without_replaced}
use Rattle.tree.proofs.RenameCall.{rename_keeps}
use Rattle.tree.proofs.TreeOver.{IsOver, over_on_node, over_with_node}
use Rattle.volume.specs.Reading.{Disk}
use Rattle.volume.specs.Pieces.{pieces}
use Rattle.volume.specs.Nodes.{node_of}
use Rattle.volume.specs.Holds.{HoldsVolume}
use Rattle.descriptors.specs.Files.{Files, HasFiles}
use Rattle.calls_attributes.specs.Does.{Does, IsHeld, tree_in}
use Rattle.calls_attributes.proofs.Made.{granted_made, looked_made, refused_made}
use Rattle.inode_operations.proofs.Between.{holds_at_end, nothing_is_done}
use Rattle.inode_operations.specs.declared.moves.Move.{Move}
use Rattle.inode_operations.specs.Leads.{CanLead, Leads}
use Rattle.inode_operations.specs.Replaced.{without_it}
use Rattle.inode_operations.specs.Whole.{moved}
use Rattle.inode_operations.proofs.Whole.{moved_is_moved}
use Rattle.calls_rename.specs.MoveAsked.{IsAsked}
use Rattle.calls_rename.proofs.Between.{open_stay}
use Rattle.calls_rename.proofs.Possible.{may_drop_other, may_move_in_directory, may_move_onto, may_move_where_it_fits}
use Rattle.calls_names.specs.Names.{IsVolume}
use Rattle.calls_rename.specs.declared.asked.Asked.{Asked}
use Rattle.calls_rename.specs.Asked.{FindsAsked, IsNamed, Rest, moving_at, new_at, old_at, on_paths}
use Rattle.calls_rename.specs.Barred.{IsFound, MayMove, SaysBarred, Then, on_move, other_at}
use Rattle.calls_rename.proofs.Standing.{moving_kind}
use Rattle.calls_rename.proofs.Found.{found_is_asked}
use Rattle.calls_rename.specs.Carrying.{IsReady, IsSomeReady, MayCarry, SaysFits, carried}

-- what is open stays
over_it : (now q parent : ℕ) (directory : Bool) (t u : Tree) → IsOver t u → IsOver t (without_it now q parent directory u)
over_it now q parent true t u over = over_with_node t (on_node u parent (fewer_links 1)) q None (over_on_node t u parent (fewer_links 1) over)
over_it now q parent false t u over = nameless (on_node u q (with_link_lost now)) (over_on_node t u q (with_link_lost now) over)
  where
    nameless : (w : Tree) → IsOver t w → IsOver t (without_nameless w q)
    nameless w is = by (has_no_link (w.nodes q) && Rattle.std.specs.Prelude.not (is_open w q))
      where
        by : (b : Bool) → IsOver t (if b then with_node w q None else w)
        by true = over_with_node t w q None is
        by false = is

over_carried : (m : Move) (there : Option ℕ) (t : Tree) → IsOver t (carried m there t)
over_carried m None t = open_stay t m
over_carried m (Some q) t = over_it m.now q m.to m.is_directory t (moved m t) (open_stay t m)

-- what a rename does with what it found
abbrev ends : Geometry → Tree → ℕ → Place → Place → ℕ → Node → Option ℕ → Then
ends g t now old new n node None = λ o. if_it_fits g done (with_moved (without_moved t now old node) now new n node)
ends g t now old new n node (Some q) = λ o. elim o [
  | None ↦ Err ENOENT
  | Some other ↦ if_it_fits g done (without_replaced (with_moved (without_moved t now old node) now new n node) now new q other)
]

abbrev goes : Geometry → Tree → ℕ → Place → Place → ℕ → Node → Option ℕ → Effect
goes g t now old new n node there =
    if is_same n there then Ok (done, t) else
    (refuse_if (is_dir node && is_within g t new.directory n) EINVAL >>= λ _. rename_onto g t now old new n node there)

abbrev rest_of : Geometry → Tree → ℕ → Rest
rest_of g t now old new n node = goes g t now old new n node (inode_of new.names new.name)

as_move : (g : Geometry) (t : Tree) (now : ℕ) (old new : Place) (n : ℕ) (node : Node) (there : Option ℕ)
    → (refuse_if (is_dir node && is_within g t new.directory n) EINVAL >>= λ _. rename_onto g t now old new n node there)
    ≡ on_move g t old new n node there (ends g t now old new n node there)
as_move g t now old new n node None = refl
as_move g t now old new n node (Some q) = refl

-- it fits, or doesn't
if_fits : (g : Geometry) (u : Tree) → true ≡ nat_le (zones_used g u) (data_zones g) → if_it_fits g done u ≡ Ok (done, u)
if_fits g u enough =
    ap (λ b. if b then Err ENOSPC else Ok (done, u)) (le-ltb (data_zones g) (zones_used g u) (leb-true (zones_used g u) (data_zones g) (sym enough)))

if_too_big : (g : Geometry) (u : Tree) → false ≡ nat_le (zones_used g u) (data_zones g) → if_it_fits g done u ≡ Err ENOSPC
if_too_big g u lacking = ap (λ b. if b then Err ENOSPC else Ok (done, u)) big
  where
    big : nat_lt (data_zones g) (zones_used g u) ≡ true
    big = elim (cases_lt (data_zones g) (zones_used g u)) [
      | inl more ↦ lt-ltb _ _ more
      | inr few ↦ absurd (false_not_true (lacking ∙ le-leb _ _ few))
    ]

pub volume_of : (g : Geometry) (d : Disk) (f : Files) → IsHeld g (HasFiles f) d → IsVolume g d
volume_of g d f h = record { tree = h.tree; holds = h.holds }

module _ (g : Geometry) (user : User) (now : ℕ) (old new : PathFrom) (f : Files) (d : Disk) where
  abbrev effect : Tree → Effect
  effect t = rename g t user now old new

  abbrev on : Tree → Rest → Effect
  on t = on_paths t user old new

  begun : (t : Tree) → effect t ≡ on t (rest_of g t now)
  begun t = refl

  -- the places are refused
  pub not_found : (e : Disk) (error : Errno) → e ≡ d → FindsAsked g d user old new (Err error) → Does g effect (refused error) (HasFiles f) (HasFiles f) d e
  not_found e error same finds = record {
    each = λ t holds files. refused_made g t (effect t) error (HasFiles f) d e (begun t ∙ finds t holds (rest_of g t now)) same holds files;
  }

  module _ (x : Asked) (finds : FindsAsked g d user old new (Ok x)) where
    pub is_found : IsHeld g (HasFiles f) d → IsFound g d x
    is_found h = record { tree = h.tree; on = on h.tree; holds = h.holds; found = finds h.tree h.holds }

    found_so : (t : Tree) → HoldsVolume g d t → (b : Bool) → is_same x.what.number x.there ≡ b
        → effect t ≡ (if b then Ok (done, t) else
        (refuse_if (is_dir (moving_at g d x) && is_within g t x.what.to x.what.number) EINVAL >>= λ _. rename_onto g t now (old_at g d x) (new_at g d x) x.what.number (moving_at g d x) x.there))
    found_so t holds b is =
        begun t ∙ (finds t holds).goes_on (rest_of g t now)
        ∙ ap (λ (o : Option ℕ). goes g t now (old_at g d x) (new_at g d x) x.what.number (moving_at g d x) o) (finds t holds).finds
        ∙ ap (λ c. if c then Ok (done, t) else
        (refuse_if (is_dir (moving_at g d x) && is_within g t x.what.to x.what.number) EINVAL >>= λ _. rename_onto g t now (old_at g d x) (new_at g d x) x.what.number (moving_at g d x) x.there)) is

    -- the node is there already
    pub stays : (e : Disk) → e ≡ d → is_same x.what.number x.there ≡ true → Does g effect done (HasFiles f) (HasFiles f) d e
    stays e same is = record {
      each = λ t holds files. looked_made g t (effect t) done (HasFiles f) d e (found_so t holds true is) same holds files;
    }

    module _ (differ : is_same x.what.number x.there ≡ false) where
      moves_so : (t : Tree) → HoldsVolume g d t
          → effect t ≡ on_move g t (old_at g d x) (new_at g d x) x.what.number (moving_at g d x) x.there (ends g t now (old_at g d x) (new_at g d x) x.what.number (moving_at g d x) x.there)
      moves_so t holds = found_so t holds false differ ∙ as_move g t now (old_at g d x) (new_at g d x) x.what.number (moving_at g d x) x.there

      -- it may not move
      pub barred : (e : Disk) (error : Errno) → e ≡ d → SaysBarred g f d x (Some error) → Does g effect (refused error) (HasFiles f) (HasFiles f) d e
      barred e error same says = record {
        each = λ t holds files.
            refused_made g t (effect t) error (HasFiles f) d e
            (moves_so t holds ∙ says t (on t) holds files (finds t holds) (ends g t now (old_at g d x) (new_at g d x) x.what.number (moving_at g d x) x.there)) same holds files;
      }

      module _ (ok : IsGeometry g) (named : IsNamed now x.what) (says : SaysBarred g f d x None) where
        module _ (t : Tree) (holds : HoldsVolume g d t) (files : HasFiles f t) where
          may : MayMove g d t x
          may = says t (on t) holds files (finds t holds)

          asked : IsAsked g t x.what x.there (node_of g (pieces g d) x.from) (node_of g (pieces g d) x.to) (moving_at g d x)
          asked = found_is_asked g d t (on t) x holds (finds t holds) named.new differ may.apart

          pub ready : IsReady g d t x
          ready = record {
            holds = holds;
            from_node = node_of g (pieces g d) x.from;
            to_node = node_of g (pieces g d) x.to;
            node = moving_at g d x;
            asked = asked;
            from = (finds t holds).from;
            to = (finds t holds).to;
          }

          -- the tree with what moves at its new place
          placed : with_moved (without_moved t now (old_at g d x) (moving_at g d x)) now (new_at g d x) x.what.number (moving_at g d x) ≡ moved x.what t
          placed =
              ap (λ k. with_moved (without_moved t k (old_at g d x) (moving_at g d x)) k (new_at g d x) x.what.number (moving_at g d x)) (sym named.time)
              ∙ moved_is_moved x.what t (old_at g d x) (new_at g d x) (moving_at g d x) refl refl refl refl (moving_kind g d x t (on t) holds (finds t holds))

          by_name : (o : Option ℕ) → x.there ≡ o
              → ends g t now (old_at g d x) (new_at g d x) x.what.number (moving_at g d x) o (option_map (other_at g d) o) ≡ if_it_fits g done (carried x.what o t)
          by_name None is = ap (λ (u : Tree). if_it_fits g done u) placed
          by_name (Some q) is = ap (λ (u : Tree). if_it_fits g done u) (
              ap (λ (u : Tree). without_it now q x.what.to (is_dir (other_at g d q)) u) placed
              ∙ ap (λ b. without_it now q x.what.to b (moved x.what t)) (may.kind q is)
              ∙ ap (λ k. without_it k q x.what.to x.what.is_directory (moved x.what t)) (sym named.time))

          fits_so : effect t ≡ if_it_fits g done (carried x.what x.there t)
          fits_so =
              moves_so t holds ∙ may.goes_on (ends g t now (old_at g d x) (new_at g d x) x.what.number (moving_at g d x) x.there)
              ∙ by_name x.there refl

        pub is_ready : IsHeld g (HasFiles f) d → IsSomeReady g d x
        is_ready h = record { tree = h.tree; is = ready h.tree h.holds h.before }

        -- there is no room
        pub no_room : (e : Disk) → e ≡ d → SaysFits g d x false → Does g effect (refused ENOSPC) (HasFiles f) (HasFiles f) d e
        no_room e same lacking = record {
          each = λ t holds files.
              refused_made g t (effect t) ENOSPC (HasFiles f) d e
              (fits_so t holds files ∙ if_too_big g (carried x.what x.there t) (lacking t (ready t holds files))) same holds files;
        }

        module _ (enough : SaysFits g d x true) where
          module _ (t : Tree) (holds : HoldsVolume g d t) (files : HasFiles f t) where
            may_at : (o : Option ℕ) → IsAsked g t x.what o (node_of g (pieces g d) x.from) (node_of g (pieces g d) x.to) (moving_at g d x)
                → zones_used g (carried x.what o t) ≤ data_zones g → MayCarry g f x.what o t
            may_at None a fits = record {
              within = λ same. may_move_in_directory g t x.what (node_of g (pieces g d) x.from) (node_of g (pieces g d) x.to) (moving_at g d x) ok a same;
              other = λ apart. may_move_where_it_fits g t x.what (node_of g (pieces g d) x.from) (node_of g (pieces g d) x.to) (moving_at g d x) ok a apart fits;
            }
            may_at (Some q) a fits = record {
              over = may_move_onto g t x.what q (node_of g (pieces g d) x.from) (node_of g (pieces g d) x.to) (moving_at g d x) ok a;
              dropped = may_drop_other g t x.what q (node_of g (pieces g d) x.from) (node_of g (pieces g d) x.to) (moving_at g d x) f ok a files;
            }

            may_carry : MayCarry g f x.what x.there t
            may_carry = may_at x.there (asked t holds files) (leb-true _ _ (sym (enough t (ready t holds files))))

            made_so : effect t ≡ Ok (done, carried x.what x.there t)
            made_so = fits_so t holds files ∙ if_fits g (carried x.what x.there t) (enough t (ready t holds files))

          pub can_carry : (m : Disk) → m ≡ d → IsHeld g (HasFiles f) d → CanLead g (MayCarry g f x.what x.there) m
          can_carry m same h = subst (λ (z : Disk). CanLead g (MayCarry g f x.what x.there) z) (sym same) (record {
            from = d;
            tree = h.tree;
            stands = nothing_is_done g d h.tree h.holds;
            may = may_carry h.tree h.holds h.before;
          })

          -- and then the call is done
          pub renamed : (m e : Disk) → m ≡ d → Leads g (MayCarry g f x.what x.there) (carried x.what x.there) m e → now < 2 ^ 32 → All (λ b. b < 256) new.bytes.now
              → Does g effect done (HasFiles f) (HasFiles f) d e
          renamed m e same leads small bytes = record {
            each = λ t holds files.
                let after = carried x.what x.there t in
                let from : Leads g (MayCarry g f x.what x.there) (carried x.what x.there) d e = subst (λ (z : Disk). Leads g (MayCarry g f x.what x.there) (carried x.what x.there) z e) same leads in
                let made = made_so t holds files in
                let tree : IsTree g after = subst (λ (r : Effect). IsTree g (tree_in t r)) made
                (rename_keeps g t (record { session = 0; uid = user.uid; gid = user.gid }) now old new ok small bytes holds.nodes.tree) in
                let over = over_carried x.what x.there t in
                granted_made g t after (effect t) done (HasFiles f) e made
                (holds_at_end g d e after.nodes t after ok holds (from.each d t (nothing_is_done g d t holds) (may_carry t holds files)) refl tree)
                (record { opened = over.files ∙ files.opened; descriptors = over.descriptors ∙ files.descriptors });
          }
