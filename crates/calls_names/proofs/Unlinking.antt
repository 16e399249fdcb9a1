-- A file loses a name.
use Rattle.std.proofs.Common.{◌≡◌, ◌≢◌, ◌<◌, ◌^◌, ℕ, Bool, true, false, Option, Some, Ok, Err, refl, sym, ap, subst, ◌∙◌}
use Rattle.lemmas.proofs.Bools.{false_not_true}
use Rattle.errno.specs.declared.Errno.{Errno}
use Rattle.errno.specs.declared.Errno.TheVariants.{EPERM}
use Rattle.layout.specs.declared.Geometry.{Geometry}
use Rattle.layout.specs.Places.{IsGeometry}
use Rattle.tree.specs.declared.PathFrom.{PathFrom}
use Rattle.tree.specs.declared.User.{User}
use Rattle.lemmas.specs.Sums.{put}
use Rattle.tree.specs.Tree.{Node, Tree, is_dir, on_node, with_node}
use Rattle.tree.specs.IsTree.{IsTree}
use Rattle.tree.specs.Refusals.{◌>>=◌, refuse_if}
use Rattle.tree.specs.Walk.{Place}
use Rattle.tree.specs.Changes.{with_link_lost, with_names, without_nameless}
use Rattle.tree.specs.Answers.{Effect, done, refused}
use Rattle.tree.specs.NameCalls.{unlink, with_name_lost, without_entry}
use Rattle.lemmas.proofs.Maps.{put-other}
use Rattle.tree.proofs.Unlinked.{unlink_keeps}
use Rattle.tree.proofs.Views.{on_node_there}
use Rattle.volume.specs.Reading.{Disk}
use Rattle.volume.specs.Pieces.{pieces}
use Rattle.volume.specs.Nodes.{is_directory_mode}
use Rattle.volume.specs.Holds.{HoldsVolume}
use Rattle.directory.specs.Removal.{Removes}
use Rattle.descriptors.specs.Files.{Files, HasFiles}
use Rattle.calls_attributes.specs.Does.{Does, IsHeld, tree_in}
use Rattle.calls_attributes.proofs.Made.{granted_made, refused_made}
use Rattle.inode_operations.specs.Steps.{BecomesAt, IsOfNode, LosesName, left_of, node_at}
use Rattle.inode_operations.specs.Stands.{NodeIs, Stands}
use Rattle.inode_operations.proofs.Between.{holds_at_end, node_stands, step_is_done}
use Rattle.inode_operations.proofs.CallLawsEnding.{put_is_left}
use Rattle.calls_names.specs.declared.named.Named.{Named}
use Rattle.calls_names.specs.Names.{FindsName, place_at}
use Rattle.calls_names.proofs.Standing.{less, name_gone, parent, parent_kind, parent_there, target, target_kind, target_there}

-- what unlink does with a name
abbrev takes : Tree → ℕ → Place → ℕ → Node → Effect
takes t now place n node = refuse_if (is_dir node) EPERM >>= λ _. Ok (done, with_name_lost (without_entry t now place) now n)

module _ (g : Geometry) (user : User) (path : PathFrom) (now : ℕ) (f : Files) (d : Disk) where
  -- the name is refused
  pub unlink_refused : (e : Disk) (error : Errno) → e ≡ d → FindsName g d user path (Err error)
      → Does g (λ t. unlink t user now path) (refused error) (HasFiles f) (HasFiles f) d e
  unlink_refused e error same finds = record {
    each = λ t holds files. refused_made g t (unlink t user now path) error (HasFiles f) d e (finds t holds (takes t now)) same holds files;
  }

  module _ (ok : IsGeometry g) (x : Named) (finds : FindsName g d user path (Ok x)) where
    effect_is : (t : Tree) → HoldsVolume g d t → (b : Bool) → is_directory_mode x.inode.mode ≡ b
        → unlink t user now path ≡ (refuse_if b EPERM >>= λ _. Ok (done, with_name_lost (without_entry t now (place_at g d x)) now x.number))
    effect_is t holds b is =
        (finds t holds).goes_on (takes t now)
        ∙ ap (λ (i : Rattle.volume.specs.declared.Inode.Inode). takes t now (place_at g d x) x.number (Rattle.volume.specs.Nodes.node_of g (pieces g d) i)) (finds t holds).loaded
        ∙ ap (λ c. refuse_if c EPERM >>= λ _. Ok (done, with_name_lost (without_entry t now (place_at g d x)) now x.number)) (target_kind g ok user path now d x finds t holds ∙ is)

    -- it is a directory's
    pub unlink_of_directory : (e : Disk) → e ≡ d → is_directory_mode x.inode.mode ≡ true → Does g (λ t. unlink t user now path) (refused EPERM) (HasFiles f) (HasFiles f) d e
    unlink_of_directory e same is = record {
      each = λ t holds files. refused_made g t (unlink t user now path) EPERM (HasFiles f) d e (effect_is t holds true is) same holds files;
    }

    module _ (file : is_directory_mode x.inode.mode ≡ false) (m0 m : Disk) (same : m0 ≡ d) (removes : Removes g x.directory x.name.now now m0 m) where
      module _ (t : Tree) (holds : HoldsVolume g d t) where
        abbrev before : Node
        before = target g ok user path now d x finds

        abbrev shorter : Node
        shorter = less g ok user path now d x finds

        abbrev first : ℕ → Option Node
        first = put t.nodes x.directory (Some shorter)

        apart : x.number ≢ x.directory
        apart e = false_not_true (
            sym (target_kind g ok user path now d x finds t holds ∙ file)
            ∙ ap (λ n. is_dir (node_at g (pieces g d) n)) e ∙ parent_kind g ok user path now d x finds t holds)

        still_there : first x.number ≡ Some before
        still_there = put-other t.nodes x.directory (Some shorter) x.number apart ∙ target_there g ok user path now d x finds t holds

        gone : Stands g d m first
        gone = name_gone g ok user path now d x finds t holds m0 m same removes

        pub file_stands : NodeIs g m x.number before
        file_stands = node_stands g d m first x.number before ok gone still_there

        -- the tree, its nodes put one by one
        abbrev last : Option Node
        last = left_of f x.number (with_link_lost now before)

        abbrev after : Tree
        after = with_node (with_node t x.directory (Some shorter)) x.number last

        tree_is : HasFiles f t → with_name_lost (without_entry t now (place_at g d x)) now x.number ≡ after
        tree_is files =
            ap (λ (u : Tree). without_nameless (on_node u x.number (with_link_lost now)) x.number)
            (on_node_there t x.directory (with_names now (λ names. Rattle.tree.specs.Names.without_name names x.name.now)) (parent g ok user path now d x finds) (parent_there g ok user path now d x finds t holds))
            ∙ ap (λ (u : Tree). without_nameless u x.number) (on_node_there (with_node t x.directory (Some shorter)) x.number (with_link_lost now) before still_there)
            ∙ put_is_left f (with_node t x.directory (Some shorter)) x.number (with_link_lost now before) (record { opened = files.opened; descriptors = files.descriptors })

        module _ (e : Disk) (loses : LosesName g f x.number now m e) where
          at_last : Stands g d e (put first x.number last)
          at_last = step_is_done g d m e first x.number last gone loses.head
              (subst (λ (y : Node). BecomesAt g (pieces g m) (pieces g e) x.number (left_of f x.number (with_link_lost now y))) file_stands.node (loses.becomes file_stands.of))

          module _ (small : now < 2 ^ 32) (files : HasFiles f t) where
            effect : unlink t user now path ≡ Ok (done, after)
            effect = effect_is t holds false file ∙ ap (λ (u : Tree). Ok (done, u)) (tree_is files)

            is_tree : IsTree g after
            is_tree = subst (λ (r : Effect). IsTree g (tree_in t r)) effect
                (unlink_keeps g t (record { session = 0; uid = user.uid; gid = user.gid }) now path small holds.nodes.tree)

            pub held_after : HoldsVolume g e after
            held_after = holds_at_end g d e (put first x.number last) t after ok holds at_last refl is_tree

      -- where the volume holds a tree, the node is there still
      pub may_lose : IsHeld g (HasFiles f) d → IsOfNode g (pieces g m) x.number
      may_lose h = (file_stands h.tree h.holds).of

      -- and then the call is done
      pub unlinked : (e : Disk) → now < 2 ^ 32 → LosesName g f x.number now m e → Does g (λ t. unlink t user now path) done (HasFiles f) (HasFiles f) d e
      unlinked e small loses = record {
        each = λ t holds files.
            granted_made g t (after t holds) (unlink t user now path) done (HasFiles f) e (effect t holds e loses small files) (held_after t holds e loses small files)
            (record { opened = files.opened; descriptors = files.descriptors });
      }
