-- Calls that change the open files and the descriptors alone.
use Rattle.std.proofs.Common.{◌≡◌, ℕ, ◌<◌, refl, sym, ap, subst, ◌∙◌, Option, Some, Ok, Err, Bool}
use Rattle.std.specs.Prelude.{Result}
use Rattle.std.proofs.lemmas.Bool.{lt-leb}
use Rattle.errno.specs.declared.Errno.{Errno}
use Rattle.errno.specs.declared.Errno.TheVariants.{EINVAL}
use Rattle.layout.specs.declared.Geometry.{Geometry}
use Rattle.tree.specs.declared.Who.{Who}
use Rattle.tree.specs.declared.Call.{Call}
use Rattle.tree.specs.declared.Call.TheVariants.{Dup}
use Rattle.tree.specs.Tree.{Tree, OpenFile}
use Rattle.lemmas.specs.Sums.{put}
use Rattle.tree.specs.IsTree.{IsTree}
use Rattle.tree.specs.Refusals.{◌>>=◌, refuse_if}
use Rattle.tree.specs.Effects.{effect_in_session, tree_after_call}
use Rattle.tree.specs.Changes.{open_file_of, at_position}
use Rattle.tree.specs.FileCalls.{dup}
use Rattle.tree.specs.Answers.{Answer, Effect, refused, descriptor}
use Rattle.tree.proofs.OpenFileCalls.{dup_keeps}
use Rattle.volume.specs.Reading.{Disk}
use Rattle.volume.specs.Holds.{HoldsVolume}
use Rattle.descriptors.specs.Files.{Files, HasFiles, files_in, tree_with, with_files, dup_file, moved}
use Rattle.descriptors.proofs.TreeCalls.{dup_is_dup}
use Rattle.calls_attributes.specs.Does.{tree_in, Does}
use Rattle.calls_attributes.proofs.Made.{refused_made, granted_made}
use Rattle.calls_attributes.proofs.Looks.{same_found}

-- the tree after an effect is one, where it is after the call
pub tree_kept : (g : Geometry) (t : Tree) (who : Who) (now : ℕ) (call : Call) → who.session < 64 → (u : Tree) (a : Answer)
    → effect_in_session g t who now call ≡ Ok (a, u) → IsTree g (tree_after_call g t who now call) → IsTree g u
tree_kept g t who now call early u a is tree =
    let rest : ℕ → Effect = λ _. effect_in_session g t who now call in
    subst (λ (x : Tree). IsTree g x) (ap (tree_in t) (ap (λ (b : Bool). refuse_if b EINVAL >>= rest) (lt-leb 64 who.session early) ∙ is)) tree

-- other open files leave the volume as it is
pub other_files : (g : Geometry) (d e : Disk) (t u : Tree) → HoldsVolume g d t → e ≡ d → u.nodes ≡ t.nodes → IsTree g u → HoldsVolume g e u
other_files g d e t u holds same nodes tree = subst (λ (x : Disk). HoldsVolume g x u) (sym same) (record {
  superblock = holds.superblock;
  nodes = record { nodes = nodes ∙ holds.nodes.nodes; sound = holds.nodes.sound; tree = tree };
})

-- a tree's open files
pub files_are : (f : Files) (t : Tree) → HasFiles f t → files_in t ≡ f
files_are f t files = λ i. record { opened = files.opened i; descriptors = files.descriptors i }

-- those with a position moved
pub files_moved : (t : Tree) (f : Files) (session fd k : ℕ) (o : OpenFile) (place : ℕ) → HasFiles f t → open_file_of t session fd ≡ Ok (k, o)
    → HasFiles (moved f session fd place) (at_position t k o place)
files_moved t f session fd k o place files found =
    let there : moved f session fd place ≡ files_in (at_position (tree_with f) k o place) =
    ap (λ (r : Result (ℕ × OpenFile) Errno). elim r [ Ok y ↦ files_in (at_position (tree_with f) y.0 y.1 place) | Err z ↦ f ])
    (sym (same_found t f session fd files) ∙ found) in
    subst (λ (y : Files). HasFiles y (at_position t k o place)) (sym there) (record {
      opened = ap (λ (y : ℕ → Option OpenFile). put y k (Some (record o { position = place }))) files.opened;
      descriptors = files.descriptors;
    })

-- a caller of a session
abbrev pub caller : ℕ → Who
caller session = record { session = session; uid = 0; gid = 0 }

-- ---- dup

abbrev duplicated : Tree → Result (ℕ × Files) Errno → Effect
duplicated t r = r >>= λ made. Ok (descriptor made.0, with_files t made.1)

module _ (g : Geometry) (d e : Disk) (same : e ≡ d) (session fd : ℕ) (early : session < 64) (f h : Files) where
  -- the effect, by what the table gave
  dup_is : (t : Tree) (r : Result (ℕ × Files) Errno) → HasFiles f t → r ≡ dup_file f session fd → dup t session fd ≡ duplicated t r
  dup_is t r files is = dup_is_dup t session fd ∙ ap (λ (x : Files). duplicated t (dup_file x session fd)) (files_are f t files) ∙ sym (ap (duplicated t) is)

  pub dup_done : (n : ℕ) → Ok (n, h) ≡ dup_file f session fd → Does g (λ t. dup t session fd) (descriptor n) (HasFiles f) (HasFiles h) d e
  dup_done n is = record {
    each = λ t holds files.
        let effect = dup_is t (Ok (n, h)) files is in
        granted_made g t (with_files t h) (dup t session fd) (descriptor n) (HasFiles h) e effect
        (other_files g d e t (with_files t h) holds same refl
        (tree_kept g t (caller session) 0 (Dup fd) early (with_files t h) (descriptor n) effect (dup_keeps g t (caller session) 0 fd holds.nodes.tree)))
        (record { opened = refl; descriptors = refl });
  }

  pub dup_refused : (error : Errno) → Err error ≡ dup_file f session fd → h ≡ f → Does g (λ t. dup t session fd) (refused error) (HasFiles f) (HasFiles h) d e
  dup_refused error is stays = record {
    each = λ t holds files.
        refused_made g t (dup t session fd) error (HasFiles h) d e (dup_is t (Err error) files is) same holds (subst (λ (x : Files). HasFiles x t) (sym stays) files);
  }
