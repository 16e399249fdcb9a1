-- close, made on a volume.
use Rattle.std.proofs.Common.{◌≡◌, ◌≢◌, ◌<◌, ℕ, refl, sym, ap, subst, ◌∙◌, Option, Some, None, Ok, Err, Bool, true, false}
use Rattle.std.specs.Prelude.{Result, IsTrue, is_some, nat_lt, not, ◌&&◌, ◌==◌, if◌then◌else◌}
use Rattle.std.proofs.lemmas.Bool.{eq-eqb}
use Rattle.lemmas.proofs.Bools.{false_not_true}
use Rattle.errno.specs.declared.Errno.{Errno}
use Rattle.layout.specs.declared.Geometry.{Geometry}
use Rattle.layout.specs.Places.{IsGeometry}
use Rattle.tree.specs.declared.Call.TheVariants.{Close}
use Rattle.lemmas.specs.Sums.{put}
use Rattle.tree.specs.Tree.{Tree, Node, OpenFile, with_node, with_descriptor, has_descriptor, is_open, opens, most_open_files}
use Rattle.tree.specs.IsTree.{IsTree}
use Rattle.tree.specs.Refusals.{◌>>=◌}
use Rattle.tree.specs.Changes.{open_file_of, without_unused, without_nameless}
use Rattle.tree.specs.FileCalls.{close}
use Rattle.tree.specs.Answers.{Effect, done, refused}
use Rattle.tree.proofs.Search.{found_below}
use Rattle.tree.proofs.Closed.{close_keeps}
use Rattle.volume.specs.Reading.{Disk}
use Rattle.volume.specs.Pieces.{pieces}
use Rattle.volume.specs.Nodes.{node_of}
use Rattle.volume.specs.Holds.{HoldsVolume}
use Rattle.records.specs.Settled.{has_link}
use Rattle.descriptors.specs.Files.{Files, HasFiles, files_in, tree_with, with_files, let_go, close_file}
use Rattle.descriptors.proofs.TreeCalls.{close_is_close}
use Rattle.inode_operations.specs.Steps.{IsOfNode, LosesNode, left_of}
use Rattle.inode_operations.proofs.Nodes.{put_back}
use Rattle.inode_operations.proofs.Between.{nothing_is_done, step_is_done, holds_at_end}
use Rattle.inode_operations.proofs.CallLawsEnding.{left_is_left}
use Rattle.calls_attributes.specs.Does.{Does, IsHeld}
use Rattle.calls_files.specs.Closing.{leaves_node}
use Rattle.calls_attributes.proofs.Made.{refused_made, granted_made}
use Rattle.calls_attributes.proofs.Looks.{same_found, node_open, opened_by}
use Rattle.calls_attributes.proofs.OpenFiles.{tree_kept, other_files, files_are, caller}

-- close, by what is found and what is open then
abbrev by_both : Tree → Result (ℕ × OpenFile) Errno → Result (Option ℕ × Files) Errno → Effect
by_both t a r = a >>= λ found. r >>= λ made. Ok (done, without_nameless (with_files t made.1) found.1.inode)

-- the open files without a descriptor
abbrev less : Files → ℕ → ℕ → Tree
less f session fd = with_descriptor (tree_with f) session fd None

-- what is open then, by what is found
abbrev files_by : Files → ℕ → ℕ → Result (ℕ × OpenFile) Errno → Result (Option ℕ × Files) Errno
files_by f session fd a = a >>= λ found. Ok (let_go (less f session fd) found.0 found.1, files_in (without_unused (less f session fd) found.0))

-- The open file that was found, and what is left then.
pub record Closed (f h : Files) (session fd : ℕ) (gone : Option ℕ) (a : Result (ℕ × OpenFile) Errno) : Type 0 where
  pub number : ℕ
  pub file : OpenFile
  pub found : a ≡ Ok (number, file)
  pub goes : gone ≡ let_go (less f session fd) number file
  pub left : h ≡ files_in (without_unused (less f session fd) number)

module _ (session fd : ℕ) (f : Files) where
  close_is : (t : Tree) → HasFiles f t
      → close t session fd ≡ by_both t (open_file_of (tree_with f) session fd) (files_by f session fd (open_file_of (tree_with f) session fd))
  close_is t files =
      close_is_close t session fd
      ∙ ap (λ (x : Files). by_both t (open_file_of t session fd) (close_file x session fd)) (files_are f t files)
      ∙ ap (λ (a : Result (ℕ × OpenFile) Errno). by_both t a (close_file f session fd)) (same_found t f session fd files)

  -- a descriptor of no open file
  refused_by : (t : Tree) (error : Errno) (a : Result (ℕ × OpenFile) Errno) → Err error ≡ files_by f session fd a → by_both t a (files_by f session fd a) ≡ Err error
  refused_by t error (Err e) is = ap (λ (r : Result (Option ℕ × Files) Errno). elim r [ Ok x ↦ Err error | Err z ↦ Err z ]) (sym is)
  refused_by t error (Ok found) is = cc

  -- and of one
  closed_by : (h : Files) (lost : Option ℕ) (a : Result (ℕ × OpenFile) Errno) → Ok (lost, h) ≡ files_by f session fd a → Closed f h session fd lost a
  closed_by h lost (Err e) is = cc
  closed_by h lost (Ok found) is = record {
    number = found.0;
    file = found.1;
    found = refl;
    goes = ap (λ (r : Result (Option ℕ × Files) Errno). elim r [ Ok x ↦ x.0 | Err z ↦ lost ]) is;
    left = ap (λ (r : Result (Option ℕ × Files) Errno). elim r [ Ok x ↦ x.1 | Err z ↦ h ]) is;
  }

-- the open file that goes is of that inode
gone_is : (t : Tree) (k n : ℕ) (o : OpenFile) → Some n ≡ let_go t k o → n ≡ o.inode
gone_is t k n o is = by (has_descriptor t k) is
  where
    by : (b : Bool) → Some n ≡ (if b then None else Some o.inode) → n ≡ o.inode
    by true e = cc
    by false e = ap (λ (x : Option ℕ). elim x [ None ↦ n | Some m ↦ m ]) e

-- one that stays has a descriptor, and is open as before
stays : (f : Files) (session fd k : ℕ) (o : OpenFile) → None ≡ let_go (less f session fd) k o → (files_in (without_unused (less f session fd) k)).opened ≡ f.opened
stays f session fd k o is = by (has_descriptor (less f session fd) k) is
  where
    by : (b : Bool) → None ≡ (if b then None else Some o.inode)
        → (files_in (if b then less f session fd else Rattle.tree.specs.Tree.with_open_file (less f session fd) k None)).opened ≡ f.opened
    by true e = refl
    by false e = cc

-- ---- what the body does

module _ (g : Geometry) (session fd : ℕ) (early : session < 64) (f h : Files) where
  -- refused
  pub close_refused : (d e : Disk) → e ≡ d → (error : Errno) → Err error ≡ close_file f session fd → h ≡ f → Does g (λ t. close t session fd) (refused error) (HasFiles f) (HasFiles h) d e
  close_refused d e same error is files_stay = record {
    each = λ t holds files.
        refused_made g t (close t session fd) error (HasFiles h) d e
        (close_is session fd f t files ∙ refused_by session fd f t error (open_file_of (tree_with f) session fd) is)
        same holds (subst (λ (x : Files). HasFiles x t) (sym files_stay) files);
  }

  module _ (gone : Option ℕ) (is : Ok (gone, h) ≡ close_file f session fd) where
    -- what was found
    pub x : Closed f h session fd gone (open_file_of (tree_with f) session fd)
    x = closed_by session fd f h gone (open_file_of (tree_with f) session fd) is

    abbrev n : ℕ
    n = x.file.inode

    -- the tree after it
    abbrev after : Tree → Tree
    after t = without_nameless (with_files t h) n

    module _ (t : Tree) (files : HasFiles f t) where
      effect : close t session fd ≡ Ok (done, after t)
      effect =
          close_is session fd f t files
          ∙ ap (λ (r : Result (Option ℕ × Files) Errno). by_both t (open_file_of (tree_with f) session fd) r) (sym is)
          ∙ ap (λ (a : Result (ℕ × OpenFile) Errno). by_both t a (Ok (gone, h))) x.found

      found : open_file_of t session fd ≡ Ok (x.number, x.file)
      found = same_found t f session fd files ∙ x.found

      tree : (d : Disk) → HoldsVolume g d t → IsTree g (after t)
      tree d holds = tree_kept g t (caller session) 0 (Close fd) early (after t) done effect (close_keeps g t (caller session) 0 fd holds.nodes.tree)

      -- what is left of the node
      module _ (d : Disk) (holds : HoldsVolume g d t) where
        abbrev node : Node
        node = node_of g (pieces g d) ((pieces g d).inodes n)

        there : t.nodes n ≡ Some node
        there = (node_open g d t session fd x.number x.file holds found).1

        is_left : after t ≡ with_node (with_files t h) n (left_of h n node)
        is_left = left_is_left h (with_files t h) n node (record { opened = refl; descriptors = refl }) there

        has_files : HasFiles h (after t)
        has_files = subst (λ (u : Tree). HasFiles h u) (sym is_left) (record { opened = refl; descriptors = refl })

        nodes_are : (after t).nodes ≡ put t.nodes n (left_of h n node)
        nodes_are = ap (λ (u : Tree). u.nodes) is_left

    -- where the tree is one, the open file is of a node
    pub close_of : (d : Disk) → IsGeometry g → IsHeld g (HasFiles f) d → IsOfNode g (pieces g d) n
    close_of d ok held = record {
      geometry = ok;
      sound = held.holds.nodes.sound;
      marked = (node_open g d held.tree session fd x.number x.file held.holds (found held.tree held.before)).0;
    }

    -- the last descriptor of an open file
    pub close_last : (d y e : Disk) (m : ℕ) → IsGeometry g → y ≡ d → gone ≡ Some m → LosesNode g h m y e → Does g (λ t. close t session fd) done (HasFiles f) (HasFiles h) d e
    close_last d y e m ok same some loses = record {
      each = λ t holds files.
          let number : m ≡ n = gone_is (less f session fd) x.number m x.file (sym some ∙ x.goes) in
          let lost : LosesNode g h n d e = subst (λ (k : ℕ). LosesNode g h k d e) number (subst (λ (z : Disk). LosesNode g h m z e) same loses) in
          let of = close_of d ok (record { tree = t; holds = holds; before = files }) in
          let stands = step_is_done g d d e t.nodes n (left_of h n (node t files d holds)) (nothing_is_done g d t holds) lost.head (lost.becomes of) in
          granted_made g t (after t) (close t session fd) done (HasFiles h) e (effect t files)
          (holds_at_end g d e (put t.nodes n (left_of h n (node t files d holds))) t (after t) ok holds stands (nodes_are t files d holds) (tree t files d holds))
          (has_files t files d holds);
    }

    pub close_unsound : (d y : Disk) (m : ℕ) → IsGeometry g → y ≡ d → gone ≡ Some m → IsHeld g (HasFiles f) d → IsOfNode g (pieces g y) m
    close_unsound d y m ok same some held =
        let number : m ≡ n = gone_is (less f session fd) x.number m x.file (sym some ∙ x.goes) in
        subst (λ (k : ℕ). IsOfNode g (pieces g y) k) (sym number) (subst (λ (z : Disk). IsOfNode g (pieces g z) n) (sym same) (close_of d ok held))

    -- a node that has a link
    pub close_linked : (d y : Disk) (m : ℕ) → y ≡ d → gone ≡ Some m → (t : Tree) → HoldsVolume g d t → HasFiles f t → IsTrue (leaves_node t session fd)
        → ((pieces g y).inodes m).links ≢ 0
    close_linked d y m same some t holds files leaves =
        let number : m ≡ n = gone_is (less f session fd) x.number m x.file (sym some ∙ x.goes) in
        let linked : IsTrue (has_link t n) =
        subst (λ (a : Result (ℕ × OpenFile) Errno). IsTrue (elim a [ Ok o ↦ has_link t o.1.inode | Err error ↦ true ])) (found t files) leaves in
        let counted : IsTrue (nat_lt 0 ((pieces g d).inodes n).links) =
        subst (λ (o : Option Node). IsTrue (elim o [ None ↦ true | Some one ↦ nat_lt 0 one.links ])) (there t files d holds) linked in
        subst (λ (k : ℕ). ((pieces g y).inodes k).links ≢ 0) (sym number)
        (subst (λ (z : Disk). ((pieces g z).inodes n).links ≢ 0) (sym same) (λ zero. false_not_true (subst (λ (k : ℕ). nat_lt 0 k ≡ true) zero counted)))

    -- another descriptor is left, so the node stays
    pub close_one : (d e : Disk) → e ≡ d → gone ≡ None → Does g (λ t. close t session fd) done (HasFiles f) (HasFiles h) d e
    close_one d e same none = record {
      each = λ t holds files.
          let opened : h.opened ≡ f.opened = ap (λ (y : Files). y.opened) x.left ∙ stays f session fd x.number x.file (sym none ∙ x.goes) in
          let file : t.open_files x.number ≡ Some x.file = opened_by (t.descriptors session fd) t.open_files x.number x.file (found t files) in
          let here : opens n (h.opened x.number) ≡ true =
          ap (λ (y : ℕ → Option OpenFile). opens n (y x.number)) (opened ∙ sym files.opened) ∙ ap (opens n) file ∙ eq-eqb n n refl in
          let low : x.number < most_open_files = holds.nodes.tree.open_files.numbers x.number (ap is_some file) in
          let used : is_open (tree_with h) n ≡ true = found_below (λ k. opens n (h.opened k)) most_open_files x.number low here in
          let kept : left_of h n (node t files d holds) ≡ Some (node t files d holds) = by ((node t files d holds).links == 0) (is_open (tree_with h) n) (node t files d holds) used in
          let nodes : (after t).nodes ≡ t.nodes =
          nodes_are t files d holds ∙ ap (λ (y : Option Node). put t.nodes n y) kept ∙ sym (put_back t.nodes n (Some (node t files d holds)) (there t files d holds)) in
          granted_made g t (after t) (close t session fd) done (HasFiles h) e (effect t files)
          (other_files g d e t (after t) holds same nodes (tree t files d holds)) (has_files t files d holds);
    }
      where
        by : (b c : Bool) (y : Node) → c ≡ true → (if b && not c then None else Some y) ≡ Some y
        by true true y is = refl
        by false true y is = refl
        by b false y is = cc
