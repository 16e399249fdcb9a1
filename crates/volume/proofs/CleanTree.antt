-- The verdict on an image is Clean exactly where it holds a tree without open files.
use Rattle.std.proofs.Common.{◌≡◌, ◌<◌, ℕ, List, refl, sym, ap, ◌∙◌, subst}
use Rattle.std.specs.Prelude.{All, Result, Ok, Err}
use Rattle.layout.specs.declared.Geometry.{Geometry}
use Rattle.layout.specs.declared.LayoutRefusal.{LayoutRefusal}
use Rattle.layout.specs.Places.{geometry_of, refusal_number}
use Rattle.layout.proofs.Parsed.{geometry_fits}
use Rattle.tree.specs.Tree.{Tree}
use Rattle.tree.specs.IsTree.{IsTree, IsClosed}
use Rattle.volume.specs.Reading.{disk_of}
use Rattle.volume.specs.Pieces.{Pieces, pieces}
use Rattle.volume.specs.Nodes.{nodes_of}
use Rattle.volume.specs.Holds.{HoldsNodes}
use Rattle.volume.specs.Verdict.{Verdict, Clean, found, verdict_of_pieces, verdict_of, HoldsClosed}
use Rattle.volume.specs.Laws.{CleanIsATree}
use Rattle.volume.proofs.Quiet.{clean_quiet, quiet_clean}
use Rattle.volume.proofs.Widths.{IsOfBytes, image_of_bytes}
use Rattle.volume.proofs.TreeFrom.{held}
use Rattle.volume.proofs.QuietTree.{is_quiet}
use Rattle.volume.proofs.Volumes.{IsVolume, is_volume}

-- from a clean verdict on pieces to a tree
clean_held : (g : Geometry) (v : Pieces) → IsVolume g v → IsOfBytes v → verdict_of_pieces g v ≡ Clean → (t : Tree) × (HoldsNodes g v t × IsClosed t)
clean_held g v ok bytes clean = held g v ok bytes (clean_quiet g v clean)

-- and back
held_clean : (g : Geometry) (v : Pieces) → IsVolume g v → (t : Tree) → HoldsNodes g v t → IsClosed t → verdict_of_pieces g v ≡ Clean
held_clean g v ok t h closed =
    let p : t ≡ record t { nodes = nodes_of g v } = λ i. record t { nodes = h.nodes i } in
    quiet_clean g v (is_quiet g v ok h.sound t (subst (IsTree g) p h.tree) closed)

-- the verdict on a layout that was read or refused
judged : List ℕ → Result Geometry LayoutRefusal → Verdict
judged image (Err refusal) = found 1 (refusal_number refusal)
judged image (Ok g) = verdict_of_pieces g (pieces g (disk_of g image))

-- it is the verdict on the image
verdict_judged : (image : List ℕ) (r : Result Geometry LayoutRefusal) → geometry_of image ≡ r → verdict_of image ≡ judged image r
unfolding judged
verdict_judged image (Err refusal) e = ap (λ (r : Result Geometry LayoutRefusal). elim r [
  | Err refusal ↦ found 1 (refusal_number refusal)
  | Ok g ↦ verdict_of_pieces g (pieces g (disk_of g image))
]) e
verdict_judged image (Ok g) e = ap (λ (r : Result Geometry LayoutRefusal). elim r [
  | Err refusal ↦ found 1 (refusal_number refusal)
  | Ok g ↦ verdict_of_pieces g (pieces g (disk_of g image))
]) e

-- a clean one holds a tree
judged_held : (image : List ℕ) → All (λ b. b < 256) image → (r : Result Geometry LayoutRefusal) → geometry_of image ≡ r → judged image r ≡ Clean → (t : Tree) × HoldsClosed image t
unfolding judged
judged_held image bytes (Err refusal) e is = absurd (cc)
judged_held image bytes (Ok g) e is =
    let h = clean_held g (pieces g (disk_of g image)) (is_volume g (disk_of g image) (geometry_fits image g e).0) (image_of_bytes g image bytes) is in
    (h.0, record { geometry = g; parsed = e; holds = h.1.0; closed = h.1.1 })

-- the law
pub clean_is_a_tree : CleanIsATree
unfolding judged
clean_is_a_tree image bytes = (
  λ is. judged_held image bytes (geometry_of image) refl (sym (verdict_judged image (geometry_of image) refl) ∙ is),
  λ h. let c = h.1 in
      verdict_judged image (Ok c.geometry) c.parsed
      ∙ held_clean c.geometry (pieces c.geometry (disk_of c.geometry image)) (is_volume c.geometry (disk_of c.geometry image) (geometry_fits image c.geometry c.parsed).0) h.0 c.holds c.closed,
)
