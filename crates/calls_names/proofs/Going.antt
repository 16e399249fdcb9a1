-- An empty directory goes.
use Rattle.std.proofs.Common.{◌≡◌, ◌≢◌, ◌≤◌, ◌<◌, ◌+◌, ◌*◌, ◌^◌, ℕ, length, Bool, true, false, Option, Some, None, Ok, Err, refl, sym, ap, subst, ◌∙◌, arith}
use mathlib.Core.Logic.{inl, inr}
use Rattle.std.specs.Prelude.{nat_le, not, ◌==◌, if◌then◌else◌}
use Rattle.std.proofs.lemmas.Bool.{and_parts, cases_eq, eq-eqb, leb-true, ne_eqb}
use Rattle.lemmas.proofs.Bools.{false_not_true}
use Rattle.errno.specs.declared.Errno.{Errno}
use Rattle.errno.specs.declared.Errno.TheVariants.{EBUSY, ENOTDIR, ENOTEMPTY}
use Rattle.layout.specs.declared.Geometry.{Geometry}
use Rattle.layout.specs.Places.{IsGeometry}
use Rattle.tree.specs.declared.PathFrom.{PathFrom}
use Rattle.tree.specs.declared.User.{User}
use Rattle.lemmas.specs.Sums.{put}
use Rattle.tree.specs.Names.{Names, without_name}
use Rattle.tree.specs.Tree.{Body, Node, Tree, is_dir, is_directory, is_file, is_open, names_of, on_node, size_of, with_node}
use Rattle.tree.specs.IsTree.{IsTree}
use Rattle.tree.specs.Refusals.{◌>>=◌, refuse_if}
use Rattle.tree.specs.Walk.{Place}
use Rattle.tree.specs.Changes.{fewer_links, with_link_lost, with_names}
use Rattle.tree.specs.Answers.{Effect, done, refused}
use Rattle.tree.specs.NameCalls.{is_empty, rmdir, without_entry}
use Rattle.lemmas.proofs.Maps.{not_nothing, put-other, put-same}
use Rattle.tree.proofs.CallsKeep.{rmdir_keeps}
use Rattle.tree.proofs.Gone.{empty_weighs, gone_apart}
use Rattle.tree.proofs.Shapes.{kind_of}
use Rattle.tree.proofs.Views.{on_node_there}
use Rattle.volume.specs.declared.Inode.{Inode}
use Rattle.volume.specs.Reading.{Disk}
use Rattle.volume.specs.Pieces.{pieces}
use Rattle.volume.specs.Nodes.{is_directory_mode, node_of}
use Rattle.volume.specs.Holds.{HoldsVolume}
use Rattle.directory.specs.Removal.{Removes}
use Rattle.block_store.specs.World.{IsWorld, Turns, World}
use Rattle.block_store.proofs.Turns.{turns_then}
use Rattle.block_store.proofs.Ending.{turns_three}
use Rattle.zone.proofs.ZoneInodes.{inode_is}
use Rattle.descriptors.specs.Files.{Files, HasFiles, tree_with}
use Rattle.calls_attributes.specs.Does.{Does, IsHeld, tree_in}
use Rattle.calls_attributes.proofs.Made.{granted_made, refused_made}
use Rattle.inode_operations.specs.Steps.{BecomesAt, DropsLink, FreesNode, IsOfNode}
use Rattle.inode_operations.specs.Stands.{NodeIs, Stands}
use Rattle.inode_operations.proofs.Between.{holds_at_end, node_stands, nothing_is_done, step_is_done}
use Rattle.inode_operations.proofs.CallLawsEnding.{open_by_files}
use Rattle.calls_names.specs.declared.named.Named.{Named}
use Rattle.calls_names.specs.Names.{FindsName, place_at, why_kept}
use Rattle.calls_names.proofs.Standing.{less, name_gone, parent, parent_kind, parent_there, placed, target, target_kind, target_there}

-- the tree without the directory
abbrev without : Tree → ℕ → Place → ℕ → Tree
without t now place n = with_node (on_node (without_entry t now place) place.directory (fewer_links 1)) n None

-- what rmdir does with a name
abbrev takes : Tree → ℕ → Place → ℕ → Node → Effect
takes t now place n node =
    refuse_if (not (is_dir node)) ENOTDIR >>= λ _. refuse_if (not (is_empty node)) ENOTEMPTY >>= λ _. refuse_if (is_open t n) EBUSY >>= λ _. Ok (done, without t now place n)

-- a refusal, if there is one
abbrev or_else : Effect → Option Errno → Effect
or_else effect None = effect
or_else effect (Some e) = Err e

-- the three tests
tests : (a b c : Bool) (effect : Effect)
    → (refuse_if (not a) ENOTDIR >>= λ _. refuse_if (not b) ENOTEMPTY >>= λ _. refuse_if c EBUSY >>= λ _. effect)
    ≡ or_else effect (if not a then Some ENOTDIR else if not b then Some ENOTEMPTY else if c then Some EBUSY else None)
tests false b c effect = refl
tests true false c effect = refl
tests true true true effect = refl
tests true true false effect = refl

-- the second is asked of directories alone
second : (a b c d : Bool) (effect : Effect) → (a ≡ true → b ≡ d)
    → (refuse_if (not a) ENOTDIR >>= λ _. refuse_if (not b) ENOTEMPTY >>= λ _. refuse_if c EBUSY >>= λ _. effect)
    ≡ (refuse_if (not a) ENOTDIR >>= λ _. refuse_if (not d) ENOTEMPTY >>= λ _. refuse_if c EBUSY >>= λ _. effect)
second false b c d effect h = refl
second true b c d effect h = ap (λ x. refuse_if (not x) ENOTEMPTY >>= λ _. refuse_if c EBUSY >>= λ _. effect) (h refl)

-- what has passed them
record Passed (a b c : Bool) : Type 0 where
  first : a ≡ true
  next : b ≡ true
  third : c ≡ false

passed : (a b c : Bool) → (if not a then Some ENOTDIR else if not b then Some ENOTEMPTY else if c then Some EBUSY else None) ≡ None → Passed a b c
passed false b c e = absurd (not_nothing ENOTDIR (sym e))
passed true false c e = absurd (not_nothing ENOTEMPTY (sym e))
passed true true true e = absurd (not_nothing EBUSY (sym e))
passed true true false e = record { first = refl; next = refl; third = refl }

-- a directory has no names where its size is that of two entries
no_names_by_size : (node : Node) (body : Body) (size : ℕ) → node.body ≡ body → is_dir node ≡ true → size ≡ size_of node.body → is_empty node ≡ (size == 128)
no_names_by_size node (is_file f) size is dir sized = absurd (false_not_true (sym (ap (λ (b : Body). is_dir (record node { body = b })) is) ∙ dir))
no_names_by_size node (is_directory d) size is dir sized =
    let names : length (names_of (Some node)) ≡ length d.names = ap (λ (b : Body). length (names_of (Some (record node { body = b })))) is in
    let wide : size ≡ 64 * (length d.names + 2) = sized ∙ ap size_of is in
    elim (cases_eq size 128) [
      | inl e ↦ eq-eqb (length (names_of (Some node))) 0 (omega (arith, e, names, wide)) ∙ sym (eq-eqb size 128 e)
      | inr d ↦ ne_eqb (length (names_of (Some node))) 0 (λ e. d (omega (arith, e, names, wide))) ∙ sym (ne_eqb size 128 d)
    ]

-- a link less, where the times are set already
link_less : (now : ℕ) (change : Names → Names) (node : Node) (body : Body) → node.body ≡ body → is_dir node ≡ true
    → with_link_lost now (with_names now change node) ≡ fewer_links 1 (with_names now change node)
link_less now change node (is_file f) is dir = absurd (false_not_true (sym (ap (λ (b : Body). is_dir (record node { body = b })) is) ∙ dir))
link_less now change node (is_directory d) is dir =
    let known : with_names now change node ≡ with_names now change (record node { body = is_directory d }) = ap (λ (b : Body). with_names now change (record node { body = b })) is in
    ap (with_link_lost now) known ∙ sym (ap (fewer_links 1) known)

module _ (g : Geometry) (user : User) (path : PathFrom) (now : ℕ) (f : Files) (d : Disk) where
  -- the name is refused
  pub rmdir_refused : (e : Disk) (error : Errno) → e ≡ d → FindsName g d user path (Err error)
      → Does g (λ t. rmdir t user now path) (refused error) (HasFiles f) (HasFiles f) d e
  rmdir_refused e error same finds = record {
    each = λ t holds files. refused_made g t (rmdir t user now path) error (HasFiles f) d e (finds t holds (takes t now)) same holds files;
  }

  module _ (ok : IsGeometry g) (x : Named) (finds : FindsName g d user path (Ok x)) where
    abbrev place : Place
    place = place_at g d x

    abbrev before_it : Node
    before_it = target g ok user path now d x finds

    sized : (t : Tree) → HoldsVolume g d t → x.inode.size ≡ size_of before_it.body
    sized t holds =
        ap (λ (i : Inode). i.size) (finds t holds).loaded
        ∙ (node_stands g d d t.nodes x.number before_it ok (nothing_is_done g d t holds) (target_there g ok user path now d x finds t holds)).size

    empty_is : (t : Tree) → HoldsVolume g d t → is_dir before_it ≡ true → is_empty before_it ≡ (x.inode.size == 128)
    empty_is t holds dir = no_names_by_size before_it before_it.body x.inode.size refl dir (sized t holds)

    low : (t : Tree) → HoldsVolume g d t → x.number ≤ 65535
    low t holds =
        let marked = (node_stands g d d t.nodes x.number before_it ok (nothing_is_done g d t holds) (target_there g ok user path now d x finds t holds)).of.marked in
        let most = leb-true x.number g.inodes (and_parts (nat_le 1 x.number) (nat_le x.number g.inodes) (inode_is g (pieces g d) x.number marked)).1 in
        let few = ok.inodes in
        omega (arith, most, few)

    effect_is : (t : Tree) → HoldsVolume g d t → HasFiles f t → (o : Option Errno) → (x.number ≤ 65535 → why_kept f x ≡ o)
        → rmdir t user now path ≡ or_else (Ok (done, without t now place x.number)) o
    effect_is t holds files o is =
        let effect : Effect = Ok (done, without t now place x.number) in
        let kind = target_kind g ok user path now d x finds t holds in
        (finds t holds).goes_on (takes t now)
        ∙ ap (λ (i : Inode). takes t now place x.number (node_of g (pieces g d) i)) (finds t holds).loaded
        ∙ second (is_dir before_it) (is_empty before_it) (is_open t x.number) (x.inode.size == 128) effect (λ dir. empty_is t holds dir)
        ∙ ap (λ b. refuse_if (not b) ENOTDIR >>= λ _. refuse_if (not (x.inode.size == 128)) ENOTEMPTY >>= λ _. refuse_if (is_open t x.number) EBUSY >>= λ _. effect) kind
        ∙ ap (λ b. refuse_if (not (is_directory_mode x.inode.mode)) ENOTDIR >>= λ _. refuse_if (not (x.inode.size == 128)) ENOTEMPTY >>= λ _. refuse_if b EBUSY >>= λ _. effect)
        (open_by_files f t x.number files)
        ∙ tests (is_directory_mode x.inode.mode) (x.inode.size == 128) (is_open (tree_with f) x.number) effect
        ∙ ap (or_else effect) (is (low t holds))

    -- it may not go
    pub rmdir_kept : (e : Disk) (error : Errno) → e ≡ d → (x.number ≤ 65535 → why_kept f x ≡ Some error) → Does g (λ t. rmdir t user now path) (refused error) (HasFiles f) (HasFiles f) d e
    rmdir_kept e error same is = record {
      each = λ t holds files. refused_made g t (rmdir t user now path) error (HasFiles f) d e (effect_is t holds files (Some error) is) same holds files;
    }

    module _ (small : now < 2 ^ 32) (free : x.number ≤ 65535 → why_kept f x ≡ None) (m0 m : Disk) (same : m0 ≡ d) (removes : Removes g x.directory x.name.now now m0 m) where
      module _ (t : Tree) (holds : HoldsVolume g d t) where
        may_go : Passed (is_directory_mode x.inode.mode) (x.inode.size == 128) (is_open (tree_with f) x.number)
        may_go = passed (is_directory_mode x.inode.mode) (x.inode.size == 128) (is_open (tree_with f) x.number) (free (low t holds))

        abbrev shorter : Node
        shorter = less g ok user path now d x finds

        abbrev first : ℕ → Option Node
        first = put t.nodes x.directory (Some shorter)

        there : t.nodes x.number ≡ Some before_it
        there = target_there g ok user path now d x finds t holds

        kind : is_dir before_it ≡ true
        kind = target_kind g ok user path now d x finds t holds ∙ may_go.first

        apart : x.number ≢ x.directory
        apart e = gone_apart g t holds.nodes.tree now small place (placed g ok user path now d x finds t holds) x.number (finds t holds).found (ap kind_of there ∙ kind)
            (empty_weighs t x.number before_it there (empty_is t holds kind ∙ may_go.next)) (sym e)

        gone : Stands g d m first
        gone = name_gone g ok user path now d x finds t holds m0 m same removes

        pub parent_stands : NodeIs g m x.directory shorter
        parent_stands = node_stands g d m first x.directory shorter ok gone (put-same t.nodes x.directory (Some shorter))

        abbrev lower : Node
        lower = with_link_lost now shorter

        abbrev second_nodes : ℕ → Option Node
        second_nodes = put first x.directory (Some lower)

        module _ (p : Disk) (drops : DropsLink g x.directory now m p) where
          linked : Stands g d p second_nodes
          linked = step_is_done g d m p first x.directory (Some lower) gone drops.head
              (subst (λ (y : Node). BecomesAt g (pieces g m) (pieces g p) x.directory (Some (with_link_lost now y))) parent_stands.node (drops.becomes parent_stands.of))

          pub directory_stands : NodeIs g p x.number before_it
          directory_stands = node_stands g d p second_nodes x.number before_it ok linked
              (put-other first x.directory (Some lower) x.number apart ∙ put-other t.nodes x.directory (Some shorter) x.number apart ∙ there)

          module _ (e : Disk) (frees : FreesNode g x.number p e) where
            at_last : Stands g d e (put second_nodes x.number None)
            at_last = step_is_done g d p e second_nodes x.number None linked frees.head (frees.becomes directory_stands.of)

            -- the tree, its nodes put one by one
            abbrev after : Tree
            after = with_node (with_node (with_node t x.directory (Some shorter)) x.directory (Some lower)) x.number None

            tree_is : without t now place x.number ≡ after
            tree_is =
                ap (λ (u : Tree). with_node (on_node u x.directory (fewer_links 1)) x.number None)
                (on_node_there t x.directory (with_names now (λ names. without_name names x.name.now)) (parent g ok user path now d x finds) (parent_there g ok user path now d x finds t holds))
                ∙ ap (λ (u : Tree). with_node u x.number None) (on_node_there (with_node t x.directory (Some shorter)) x.directory (fewer_links 1) shorter (put-same t.nodes x.directory (Some shorter)))
                ∙ ap (λ (y : Node). with_node (with_node (with_node t x.directory (Some shorter)) x.directory (Some y)) x.number None)
                (sym (link_less now (λ names. without_name names x.name.now) (parent g ok user path now d x finds) (parent g ok user path now d x finds).body refl
                (parent_kind g ok user path now d x finds t holds)))

            module _ (files : HasFiles f t) where
              effect : rmdir t user now path ≡ Ok (done, after)
              effect = effect_is t holds files None free ∙ ap (λ (u : Tree). Ok (done, u)) tree_is

              is_tree : IsTree g after
              is_tree = subst (λ (r : Effect). IsTree g (tree_in t r)) effect
                  (rmdir_keeps g t (record { session = 0; uid = user.uid; gid = user.gid }) now path small holds.nodes.tree)

              pub held_after : HoldsVolume g e after
              held_after = holds_at_end g d e (put second_nodes x.number None) t after ok holds at_last refl is_tree

      -- where the volume holds a tree, both nodes are there still
      pub may_drop : IsHeld g (HasFiles f) d → IsOfNode g (pieces g m) x.directory
      may_drop h = (parent_stands h.tree h.holds).of

      pub may_free : (p : Disk) → DropsLink g x.directory now m p → IsHeld g (HasFiles f) d → IsOfNode g (pieces g p) x.number
      may_free p drops h = (directory_stands h.tree h.holds p drops).of

      -- and then the call is done
      pub removed : (p e : Disk) → DropsLink g x.directory now m p → FreesNode g x.number p e → Does g (λ t. rmdir t user now path) done (HasFiles f) (HasFiles f) d e
      removed p e drops frees = record {
        each = λ t holds files.
            granted_made g t (after t holds p drops e frees) (rmdir t user now path) done (HasFiles f) e (effect t holds p drops e frees files) (held_after t holds p drops e frees files)
            (record { opened = files.opened; descriptors = files.descriptors });
      }

-- four calls
pub turns_four : {B : Type 0} (w : World B) → IsWorld w → (a b c e h : B) (R S T U V : Disk → Disk → Type 0)
    → ((d k m n f : Disk) → R d k → S k m → T m n → U n f → V d f) → Turns w a b R → Turns w b c S → Turns w c e T → Turns w e h U → Turns w a h V
turns_four w law a b c e h R S T U V all x y z u =
    turns_then w law a e h (λ d n. (k : Disk) × (m : Disk) × R d k × S k m × T m n) U V (λ d n f p q. all d p.0 p.1 n f p.2 p.3 p.4 q)
    (turns_three w law a b c e R S T (λ d n. (k : Disk) × (m : Disk) × R d k × S k m × T m n) (λ d k m n r s t. (k, m, r, s, t)) x y z) u
