-- seek, made on a volume.
use Rattle.std.proofs.Common.{◌≡◌, ℕ, ◌<◌, refl, sym, ap, subst, ◌∙◌, Option, Some, None, Ok, Err, Bool, true, false}
use Rattle.std.specs.Prelude.{ℤ, Result, nat_lt, if◌then◌else◌}
use Rattle.std.proofs.lemmas.Bool.{cond-true, cond-false}
use Rattle.errno.specs.declared.Errno.{Errno}
use Rattle.errno.specs.declared.Errno.TheVariants.{EBADF, EISDIR, EINVAL, ENOENT}
use Rattle.layout.specs.declared.Geometry.{Geometry}
use Rattle.tree.specs.declared.Call.TheVariants.{Seek}
use Rattle.tree.specs.declared.Whence.{Whence}
use Rattle.tree.specs.declared.Whence.TheVariants.{Set, Cur, End}
use Rattle.tree.specs.Tree.{Tree, Node, Body, File, OpenFile, is_file, is_directory, most_size}
use Rattle.tree.specs.Refusals.{◌>>=◌, refuse_if, or_refuse}
use Rattle.tree.specs.Changes.{open_file_of, at_position}
use Rattle.tree.specs.NodeCalls.{file_or}
use Rattle.tree.specs.FileCalls.{seek, seek_base, seek_place}
use Rattle.tree.specs.Answers.{Effect, refused, position}
use Rattle.tree.proofs.OpenFileCalls.{seek_keeps}
use Rattle.volume.specs.Reading.{Disk}
use Rattle.volume.specs.Pieces.{pieces}
use Rattle.volume.specs.Nodes.{node_of, file_of, directory_of, is_directory_mode}
use Rattle.volume.specs.Holds.{HoldsVolume}
use Rattle.descriptors.specs.Files.{Files, HasFiles, file_at, moved}
use Rattle.calls_attributes.specs.declared.found.Found.{Found}
use Rattle.calls_attributes.specs.Found.{file_of as open_file}
use Rattle.calls_files.specs.Seeking.{base_of, may_lie}
use Rattle.calls_attributes.specs.Does.{Does}
use Rattle.calls_attributes.proofs.Made.{refused_made, granted_made}
use Rattle.calls_attributes.proofs.Looks.{open_is, none_is, node_open}
use Rattle.calls_attributes.proofs.OpenFiles.{tree_kept, other_files, files_moved, caller}

-- seek, by the place to which it leads
abbrev to_place : Tree → ℕ → OpenFile → Option ℕ → Effect
to_place t k o p = or_refuse p EINVAL >>= λ at. refuse_if (nat_lt most_size at) EINVAL >>= λ _. Ok (position at, at_position t k o at)

-- of the file
abbrev in_file : Tree → ℕ → OpenFile → Whence → ℤ → Result File Errno → Effect
in_file t k o whence offset r = r >>= λ h. to_place t k o (seek_place (seek_base h o.position whence) offset)

-- of the node
abbrev in_node : Tree → ℕ → OpenFile → Whence → ℤ → Option Node → Effect
in_node t k o whence offset x = or_refuse x ENOENT >>= λ node. in_file t k o whence offset (file_or node EISDIR)

-- of a descriptor
abbrev in_descriptor : Tree → Whence → ℤ → Result (ℕ × OpenFile) Errno → Effect
in_descriptor t whence offset r = r >>= λ x. in_node t x.0 x.1 whence offset (t.nodes x.1.inode)

-- by the place where the position may lie
abbrev by_place : Tree → ℕ → OpenFile → Option ℕ → Effect
by_place t k o None = Err EINVAL
by_place t k o (Some at) = Ok (position at, at_position t k o at)

places : (t : Tree) (k : ℕ) (o : OpenFile) (p : Option ℕ) → to_place t k o p ≡ by_place t k o (may_lie p)
places t k o None = refl
places t k o (Some at) = by (nat_lt most_size at)
  where
    by : (b : Bool) → (refuse_if b EINVAL >>= λ _. Ok (position at, at_position t k o at)) ≡ by_place t k o (if b then None else Some at)
    by true = refl
    by false = refl

bases : (x : Found) (h : File) (whence : Whence) → h.size ≡ x.inode.size → seek_base h x.position whence ≡ base_of x whence
bases x h Set same = refl
bases x h Cur same = refl
bases x h End same = same

-- ---- what the body does

module _ (g : Geometry) (d e : Disk) (same : e ≡ d) (session fd : ℕ) (whence : Whence) (offset : ℤ) (f : Files) where
  abbrev sought : Tree → Effect
  sought t = seek t session fd whence offset

  -- no open file
  pub seek_closed : None ≡ file_at f session fd → Does g (λ t. seek t session fd whence offset) (refused EBADF) (HasFiles f) (HasFiles f) d e
  seek_closed is = record {
    each = λ t holds files.
        refused_made g t (sought t) EBADF (HasFiles f) d e (ap (in_descriptor t whence offset) (none_is t f session fd files (sym is))) same holds files;
  }

  module _ (x : Found) (is : Some (open_file x) ≡ file_at f session fd) (loaded : x.inode ≡ (pieces g d).inodes x.number) where
    abbrev o : OpenFile
    o = open_file x

    abbrev h : File
    h = file_of g (pieces g d) x.inode

    -- of this body
    abbrev with_body : Tree → ℕ → Body → Effect
    with_body t k b = in_file t k o whence offset (elim b [ is_file y ↦ Ok y | is_directory y ↦ Err EISDIR ])

    -- its effect
    seek_is : (t : Tree) (k : ℕ) → HoldsVolume g d t → open_file_of t session fd ≡ Ok (k, o)
        → sought t ≡ with_body t k (if is_directory_mode x.inode.mode then is_directory (directory_of g (pieces g d) x.inode) else is_file h)
    seek_is t k holds found =
        let n = node_open g d t session fd k o holds found in
        let node : t.nodes o.inode ≡ Some (node_of g (pieces g d) x.inode) = n.1 ∙ ap (λ i. Some (node_of g (pieces g d) i)) (sym loaded) in
        ap (in_descriptor t whence offset) found ∙ ap (in_node t k o whence offset) node

    -- a directory
    pub seek_barred : is_directory_mode x.inode.mode ≡ true → Does g (λ t. seek t session fd whence offset) (refused EISDIR) (HasFiles f) (HasFiles f) d e
    seek_barred kind = record {
      each = λ t holds files.
          let y = open_is t f session fd o files (sym is) in
          refused_made g t (sought t) EISDIR (HasFiles f) d e
          (seek_is t y.0 holds y.1 ∙ ap (with_body t y.0) (cond-true (is_directory_mode x.inode.mode) (is_directory (directory_of g (pieces g d) x.inode)) (is_file h) kind))
          same holds files;
    }

    -- a file
    module _ (kind : is_directory_mode x.inode.mode ≡ false) (p : Option ℕ) (led : p ≡ may_lie (seek_place (base_of x whence) offset)) where
      led_to : (t : Tree) (k : ℕ) → HoldsVolume g d t → open_file_of t session fd ≡ Ok (k, o) → sought t ≡ by_place t k o p
      led_to t k holds found =
          seek_is t k holds found
          ∙ ap (with_body t k) (cond-false (is_directory_mode x.inode.mode) (is_directory (directory_of g (pieces g d) x.inode)) (is_file h) kind)
          ∙ ap (λ (n : ℕ). to_place t k o (seek_place n offset)) (bases x h whence refl)
          ∙ places t k o (seek_place (base_of x whence) offset)
          ∙ ap (by_place t k o) (sym led)

      pub seek_nowhere : p ≡ None → Does g (λ t. seek t session fd whence offset) (refused EINVAL) (HasFiles f) (HasFiles f) d e
      seek_nowhere none = record {
        each = λ t holds files.
            let y = open_is t f session fd o files (sym is) in
            refused_made g t (sought t) EINVAL (HasFiles f) d e (led_to t y.0 holds y.1 ∙ ap (by_place t y.0 o) none) same holds files;
      }

      pub seek_done : session < 64 → (at : ℕ) (new : Files) → p ≡ Some at → new ≡ moved f session fd at
          → Does g (λ t. seek t session fd whence offset) (position at) (HasFiles f) (HasFiles new) d e
      seek_done early at new some is_new = record {
        each = λ t holds files.
            let y = open_is t f session fd o files (sym is) in
            let u = at_position t y.0 o at in
            let effect : sought t ≡ Ok (position at, u) = led_to t y.0 holds y.1 ∙ ap (by_place t y.0 o) some in
            granted_made g t u (sought t) (position at) (HasFiles new) e effect
            (other_files g d e t u holds same refl
            (tree_kept g t (caller session) 0 (Seek fd whence offset) early u (position at) effect (seek_keeps g t (caller session) 0 fd whence offset holds.nodes.tree)))
            (subst (λ (z : Files). HasFiles z u) (sym is_new) (files_moved t f session fd y.0 o at files y.1));
      }
