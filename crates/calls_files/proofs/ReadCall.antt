-- read, made on a volume.
use Rattle.std.proofs.Common.{◌≡◌, ℕ, ◌+◌, ◌<◌, ◌≤◌, refl, sym, ap, subst, ◌∙◌, Option, Some, None, Ok, Err, Bool, true, false, List, length}
use mathlib.Core.Logic.{inl, inr}
use Rattle.std.specs.Prelude.{Result, not, nat_lt, if◌then◌else◌}
use Rattle.std.proofs.lemmas.Bool.{cond-false}
use Rattle.errno.specs.declared.Errno.{Errno}
use Rattle.errno.specs.declared.Errno.TheVariants.{EBADF, EISDIR, EINVAL, ENOENT, ENOMEM}
use Rattle.layout.specs.declared.Geometry.{Geometry}
use Rattle.tree.specs.declared.Call.TheVariants.{Read}
use Rattle.tree.specs.Tree.{Tree, Node, Body, File, Directory, OpenFile, is_file, is_directory, most_bytes, most_size}
use Rattle.tree.specs.IsTree.{IsBody}
use Rattle.tree.specs.Refusals.{◌>>=◌, refuse_if, or_refuse}
use Rattle.tree.specs.Changes.{open_file_of, at_position}
use Rattle.tree.specs.NodeCalls.{file_or}
use Rattle.tree.specs.FileCalls.{bytes_read, read}
use Rattle.tree.specs.Flags.{reads}
use Rattle.tree.specs.Answers.{Effect, refused, some_bytes}
use Rattle.records.specs.Legal.{is_success}
use Rattle.tree.proofs.OpenFileCalls.{read_keeps}
use Rattle.volume.specs.Reading.{Disk}
use Rattle.volume.specs.declared.Inode.{Inode}
use Rattle.volume.specs.Pieces.{pieces}
use Rattle.volume.specs.Nodes.{node_of, file_of, directory_of, is_directory_mode}
use Rattle.volume.specs.Holds.{HoldsVolume}
use Rattle.descriptors.specs.Files.{Files, HasFiles, file_at, moved}
use Rattle.calls_attributes.specs.declared.found.Found.{Found}
use Rattle.calls_attributes.specs.Found.{file_of as open_file}
use Rattle.calls_files.specs.Reading.{why_unread}
use Rattle.calls_attributes.specs.Does.{answer_in, IsHeld, DoesOrLacks}
use Rattle.calls_attributes.proofs.Made.{refused_made, granted_made}
use Rattle.calls_attributes.proofs.Looks.{open_is, none_is, node_open}
use Rattle.calls_attributes.proofs.OpenFiles.{tree_kept, other_files, files_moved, caller}

-- read, of the file that was found
abbrev from_file : Tree → ℕ → OpenFile → ℕ → Result File Errno → Effect
from_file t k o count r = r >>= λ h. refuse_if (nat_lt most_bytes count) EINVAL >>= λ _.
    Ok (some_bytes (bytes_read h o.position count), at_position t k o (o.position + length (bytes_read h o.position count)))

-- of the node
abbrev from_node : Tree → ℕ → OpenFile → ℕ → Option Node → Effect
from_node t k o count x = or_refuse x ENOENT >>= λ node. from_file t k o count (file_or node EISDIR)

-- of an open file that may be read
abbrev from_flags : Tree → ℕ → OpenFile → ℕ → Bool → Effect
from_flags t k o count b = refuse_if (not b) EBADF >>= λ _. from_node t k o count (t.nodes o.inode)

-- of a descriptor
abbrev from_descriptor : Tree → ℕ → Result (ℕ × OpenFile) Errno → Effect
from_descriptor t count r = r >>= λ x. from_flags t x.0 x.1 count (reads x.1.flags)

-- of both, by what is asked
abbrev asked : Tree → ℕ → OpenFile → ℕ → File → Directory → Bool → Bool → Bool → Effect
asked t k o count h c may is wide = refuse_if (not may) EBADF >>= λ _.
    elim (if is then is_directory c else is_file h) [ is_file x ↦ Ok x | is_directory x ↦ Err EISDIR ] >>= λ x. refuse_if wide EINVAL >>= λ _.
    Ok (some_bytes (bytes_read x o.position count), at_position t k o (o.position + length (bytes_read x o.position count)))

-- the first reason against it is the answer, and without one the bytes are
abbrev by_reason : Tree → ℕ → OpenFile → ℕ → File → Option Errno → Effect
by_reason t k o count h None = Ok (some_bytes (bytes_read h o.position count), at_position t k o (o.position + length (bytes_read h o.position count)))
by_reason t k o count h (Some e) = Err e

reasons : (t : Tree) (k : ℕ) (o : OpenFile) (count : ℕ) (h : File) (c : Directory) (may is wide : Bool)
    → asked t k o count h c may is wide ≡ by_reason t k o count h (if not may then Some EBADF else if is then Some EISDIR else if wide then Some EINVAL else None)
reasons t k o count h c false is wide = refl
reasons t k o count h c true true wide = refl
reasons t k o count h c true false true = refl
reasons t k o count h c true false false = refl

-- ---- what the body does

module _ (g : Geometry) (d e : Disk) (same : e ≡ d) (session fd count : ℕ) (f : Files) where
  -- no open file
  pub read_closed : None ≡ file_at f session fd → DoesOrLacks g (λ t. read t session fd count) (refused EBADF) (HasFiles f) (HasFiles f) d e
  read_closed is = record {
    each = λ t holds files.
        inl (refused_made g t (read t session fd count) EBADF (HasFiles f) d e (ap (from_descriptor t count) (none_is t f session fd files (sym is))) same holds files);
  }

  module _ (x : Found) (is : Some (open_file x) ≡ file_at f session fd) (loaded : x.inode ≡ (pieces g d).inodes x.number) where
    abbrev o : OpenFile
    o = open_file x

    abbrev h : File
    h = file_of g (pieces g d) x.inode

    -- its effect
    read_is : (t : Tree) (k : ℕ) → HoldsVolume g d t → open_file_of t session fd ≡ Ok (k, o) → read t session fd count ≡ by_reason t k o count h (why_unread x count)
    read_is t k holds found =
        let n = node_open g d t session fd k o holds found in
        let node : t.nodes o.inode ≡ Some (node_of g (pieces g d) x.inode) = n.1 ∙ ap (λ (i : Inode). Some (node_of g (pieces g d) i)) (sym loaded) in
        ap (from_descriptor t count) found
        ∙ ap (λ (y : Option Node). refuse_if (not (reads o.flags)) EBADF >>= λ _. from_node t k o count y) node
        ∙ reasons t k o count h (directory_of g (pieces g d) x.inode) (reads o.flags) (is_directory_mode x.inode.mode) (nat_lt most_bytes count)

    pub read_refused : (error : Errno) → why_unread x count ≡ Some error → DoesOrLacks g (λ t. read t session fd count) (refused error) (HasFiles f) (HasFiles f) d e
    read_refused error why = record {
      each = λ t holds files.
          let y = open_is t f session fd o files (sym is) in
          inl (refused_made g t (read t session fd count) error (HasFiles f) d e (read_is t y.0 holds y.1 ∙ ap (by_reason t y.0 o count h) why) same holds files);
    }

    -- a file whose bytes may be read
    module _ (may : why_unread x count ≡ None) where
      granted : (t : Tree) (k : ℕ) → HoldsVolume g d t → open_file_of t session fd ≡ Ok (k, o) → read t session fd count ≡ by_reason t k o count h None
      granted t k holds found = read_is t k holds found ∙ ap (by_reason t k o count h) may

      pub read_lacks : DoesOrLacks g (λ t. read t session fd count) (refused ENOMEM) (HasFiles f) (HasFiles f) d e
      read_lacks = record {
        each = λ t holds files.
            let y = open_is t f session fd o files (sym is) in
            inr (record {
              success = ap (λ (r : Effect). is_success (answer_in r)) (granted t y.0 holds y.1);
              answers = refl;
              holds = subst (λ (z : Disk). HoldsVolume g z t) (sym same) holds;
              after = files;
            });
      }

      pub read_done : session < 64 → (bytes : List ℕ) (n : ℕ) (new : Files) → bytes ≡ bytes_read h x.position count → n ≡ x.position + length bytes
          → new ≡ moved f session fd n → DoesOrLacks g (λ t. read t session fd count) (some_bytes bytes) (HasFiles f) (HasFiles new) d e
      read_done early bytes n new got place is_new = record {
        each = λ t holds files.
            let y = open_is t f session fd o files (sym is) in
            let u = at_position t y.0 o n in
            let effect : read t session fd count ≡ Ok (some_bytes bytes, u) =
            granted t y.0 holds y.1 ∙ ap (λ (l : List ℕ). Ok (some_bytes l, at_position t y.0 o (o.position + length l))) (sym got)
            ∙ ap (λ (m : ℕ). Ok (some_bytes bytes, at_position t y.0 o m)) (sym place) in
            inl (granted_made g t u (read t session fd count) (some_bytes bytes) (HasFiles new) e effect
            (other_files g d e t u holds same refl
            (tree_kept g t (caller session) 0 (Read fd count) early u (some_bytes bytes) effect (read_keeps g t (caller session) 0 fd count holds.nodes.tree)))
            (subst (λ (z : Files). HasFiles z u) (sym is_new) (files_moved t f session fd y.0 o n files y.1)));
      }

    -- what may be read is no directory
    is_plain : (may is wide : Bool) → (if not may then Some EBADF else if is then Some EISDIR else if wide then Some EINVAL else None) ≡ None → is ≡ false
    is_plain may false wide h = refl
    is_plain true true wide h = cc
    is_plain false true wide h = cc

    -- its size is within the limit, where a tree is held
    pub size_held : why_unread x count ≡ None → IsHeld g (HasFiles f) d → x.inode.size ≤ most_size
    size_held may held =
        let y = open_is held.tree f session fd o held.before (sym is) in
        let n = node_open g d held.tree session fd y.0 o held.holds y.1 in
        let node : held.tree.nodes o.inode ≡ Some (node_of g (pieces g d) x.inode) = n.1 ∙ ap (λ (i : Inode). Some (node_of g (pieces g d) i)) (sym loaded) in
        let plain = is_plain (reads o.flags) (is_directory_mode x.inode.mode) (nat_lt most_bytes count) may in
        let body : IsBody g (is_file h) = subst (λ (b : Body). IsBody g b)
        (cond-false (is_directory_mode x.inode.mode) (is_directory (directory_of g (pieces g d) x.inode)) (is_file h) plain)
        (held.holds.nodes.tree.nodes.each o.inode (node_of g (pieces g d) x.inode) node).body in
        body.size
