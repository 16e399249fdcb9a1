-- readdir, made on a volume.
use Rattle.std.proofs.Common.{◌≡◌, ℕ, refl, sym, ap, subst, ◌∙◌, Option, Some, None, Ok, Err, Bool, true, false}
use mathlib.Core.Logic.{inl, inr}
use Rattle.std.specs.Prelude.{Result, not, if◌then◌else◌}
use Rattle.errno.specs.declared.Errno.{Errno}
use Rattle.errno.specs.declared.Errno.TheVariants.{EBADF, ENOTDIR, ENOENT, ENOMEM}
use Rattle.layout.specs.declared.Geometry.{Geometry}
use Rattle.tree.specs.Names.{Names}
use Rattle.tree.specs.Tree.{Tree, Node, File, Directory, OpenFile, is_file, is_directory}
use Rattle.tree.specs.Refusals.{◌>>=◌, refuse_if, or_refuse}
use Rattle.tree.specs.Changes.{open_file_of}
use Rattle.tree.specs.FileCalls.{names_or, readdir}
use Rattle.tree.specs.Flags.{reads}
use Rattle.tree.specs.Answers.{Effect, refused, names_are}
use Rattle.records.specs.Legal.{is_success}
use Rattle.volume.specs.Reading.{Disk}
use Rattle.volume.specs.declared.Inode.{Inode}
use Rattle.volume.specs.Pieces.{pieces}
use Rattle.volume.specs.Nodes.{node_of, file_of, directory_of, is_directory_mode}
use Rattle.volume.specs.Holds.{HoldsVolume}
use Rattle.descriptors.specs.Files.{Files, HasFiles, file_at}
use Rattle.calls_attributes.specs.declared.found.Found.{Found}
use Rattle.calls_attributes.specs.Found.{file_of as open_file}
use Rattle.calls_attributes.specs.Does.{answer_in, DoesOrLacks}
use Rattle.calls_attributes.proofs.Made.{refused_made, looked_made}
use Rattle.calls_attributes.proofs.Looks.{open_is, none_is, node_open}
use Rattle.calls_files.specs.Refusals.{why_unlisted}

-- readdir, of the node
abbrev from_node : Tree → Option Node → Effect
from_node t x = or_refuse x ENOENT >>= λ node. names_or node ENOTDIR >>= λ names. Ok (names_are names, t)

-- of an open file that may be read
abbrev from_flags : Tree → OpenFile → Bool → Effect
from_flags t o b = refuse_if (not b) EBADF >>= λ _. from_node t (t.nodes o.inode)

-- of a descriptor
abbrev from_descriptor : Tree → Result (ℕ × OpenFile) Errno → Effect
from_descriptor t r = r >>= λ x. from_flags t x.1 (reads x.1.flags)

-- of both, by what is asked
abbrev asked : Tree → File → Directory → Bool → Bool → Effect
asked t h c may is = refuse_if (not may) EBADF >>= λ _.
    elim (if is then is_directory c else is_file h) [ is_file x ↦ Err ENOTDIR | is_directory x ↦ Ok x.names ] >>= λ names. Ok (names_are names, t)

-- the first reason against it is the answer, and without one the names are
abbrev by_reason : Tree → Names → Option Errno → Effect
by_reason t names None = Ok (names_are names, t)
by_reason t names (Some e) = Err e

reasons : (t : Tree) (h : File) (c : Directory) (may is : Bool)
    → asked t h c may is ≡ by_reason t c.names (if not may then Some EBADF else if not is then Some ENOTDIR else None)
reasons t h c false is = refl
reasons t h c true true = refl
reasons t h c true false = refl

-- ---- what the body does

module _ (g : Geometry) (d e : Disk) (same : e ≡ d) (session fd : ℕ) (f : Files) where
  -- no open file
  pub readdir_closed : None ≡ file_at f session fd → DoesOrLacks g (λ t. readdir t session fd) (refused EBADF) (HasFiles f) (HasFiles f) d e
  readdir_closed is = record {
    each = λ t holds files.
        inl (refused_made g t (readdir t session fd) EBADF (HasFiles f) d e (ap (from_descriptor t) (none_is t f session fd files (sym is))) same holds files);
  }

  module _ (x : Found) (is : Some (open_file x) ≡ file_at f session fd) (loaded : x.inode ≡ (pieces g d).inodes x.number) where
    abbrev o : OpenFile
    o = open_file x

    abbrev listed : Names
    listed = (directory_of g (pieces g d) x.inode).names

    -- its effect
    readdir_is : (t : Tree) (k : ℕ) → HoldsVolume g d t → open_file_of t session fd ≡ Ok (k, o) → readdir t session fd ≡ by_reason t listed (why_unlisted x)
    readdir_is t k holds found =
        let n = node_open g d t session fd k o holds found in
        let node : t.nodes o.inode ≡ Some (node_of g (pieces g d) x.inode) = n.1 ∙ ap (λ (i : Inode). Some (node_of g (pieces g d) i)) (sym loaded) in
        ap (from_descriptor t) found
        ∙ ap (λ (y : Option Node). refuse_if (not (reads o.flags)) EBADF >>= λ _. from_node t y) node
        ∙ reasons t (file_of g (pieces g d) x.inode) (directory_of g (pieces g d) x.inode) (reads o.flags) (is_directory_mode x.inode.mode)

    pub readdir_refused : (error : Errno) → why_unlisted x ≡ Some error → DoesOrLacks g (λ t. readdir t session fd) (refused error) (HasFiles f) (HasFiles f) d e
    readdir_refused error why = record {
      each = λ t holds files.
          let y = open_is t f session fd o files (sym is) in
          inl (refused_made g t (readdir t session fd) error (HasFiles f) d e (readdir_is t y.0 holds y.1 ∙ ap (by_reason t listed) why) same holds files);
    }

    -- a directory whose names may be read
    module _ (may : why_unlisted x ≡ None) where
      granted : (t : Tree) (k : ℕ) → HoldsVolume g d t → open_file_of t session fd ≡ Ok (k, o) → readdir t session fd ≡ Ok (names_are listed, t)
      granted t k holds found = readdir_is t k holds found ∙ ap (by_reason t listed) may

      pub readdir_lacks : DoesOrLacks g (λ t. readdir t session fd) (refused ENOMEM) (HasFiles f) (HasFiles f) d e
      readdir_lacks = record {
        each = λ t holds files.
            let y = open_is t f session fd o files (sym is) in
            inr (record {
              success = ap (λ (r : Effect). is_success (answer_in r)) (granted t y.0 holds y.1);
              answers = refl;
              holds = subst (λ (z : Disk). HoldsVolume g z t) (sym same) holds;
              after = files;
            });
      }

      pub readdir_done : (names : Names) → names ≡ listed → DoesOrLacks g (λ t. readdir t session fd) (names_are names) (HasFiles f) (HasFiles f) d e
      readdir_done names all = record {
        each = λ t holds files.
            let y = open_is t f session fd o files (sym is) in
            inl (looked_made g t (readdir t session fd) (names_are names) (HasFiles f) d e
            (granted t y.0 holds y.1 ∙ ap (λ (ns : Names). Ok (names_are ns, t)) (sym all)) same holds files);
      }

    -- what may be listed is a directory
    is_open_directory : (may is : Bool) → (if not may then Some EBADF else if not is then Some ENOTDIR else None) ≡ None → is ≡ true
    is_open_directory may true h = refl
    is_open_directory true false h = cc
    is_open_directory false false h = cc

    pub kind_of : why_unlisted x ≡ None → is_directory_mode x.inode.mode ≡ true
    kind_of may = is_open_directory (reads o.flags) (is_directory_mode x.inode.mode) may
