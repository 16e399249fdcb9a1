-- An image that was found clean, as the volume of a service.
use Rattle.std.proofs.Common.{◌≡◌, ℕ, ◌*◌, ◌/◌, ◌%◌, List, length, take, sym, ◌∙◌, subst, arith}
use Rattle.std.specs.Prelude.{Ok, slice_index}
use Rattle.std.proofs.lemmas.List.{take_all}
use Rattle.lemmas.proofs.Options.{ok_same}
use Rattle.layout.specs.declared.Geometry.{Geometry}
use Rattle.layout.specs.declared.LayoutRefusal.{LayoutRefusal}
use Rattle.layout.specs.Places.{IsGeometry, geometry_of}
use Rattle.layout.proofs.Parsed.{geometry_fits}
use Rattle.tree.specs.Tree.{Tree}
use Rattle.volume.specs.Verdict.{HoldsClosed}
use Rattle.volume.specs.Reading.{disk_of}
use Rattle.volume.specs.Holds.{Holds}
use Rattle.records.specs.Opening.{contents_at}
use Rattle.records.specs.Legal.{IsAtFirst}
use Rattle.media.specs.Contents.{sectors_of}
use Rattle.volume_mount.specs.declared.refusal.StartRefusal.{StartRefusal}
use Rattle.volume_mount.specs.Starting.{opening_of, place_in}
use Rattle.volume_mount.proofs.Starts.{many_sectors}
use Rattle.volume_mount.proofs.Volumes.{byte_at}

-- the volume that is the whole image holds the tree that the check found
pub at_first : (image : List ℕ) (range : ℕ × ℕ) (g : Geometry) (tree : Tree) → place_in (sectors_of image) 0 ≡ Ok range
    → length image % 512 ≡ 0 → geometry_of image ≡ Ok g → HoldsClosed image tree → IsAtFirst g (contents_at (opening_of image 0 range)) tree
at_first image range g tree placed even parsed held =
    let is : (0, length (sectors_of image)) ≡ range = ok_same {E = StartRefusal} placed in
    let many : length (sectors_of image) ≡ length image / 512 = many_sectors image in
    let same : held.geometry ≡ g = ok_same {E = LayoutRefusal} (sym held.parsed ∙ parsed) in
    let fits : IsGeometry g = (geometry_fits image g parsed).0 in
    let all : take (512 * length (sectors_of image)) image ≡ image = take_all (512 * length (sectors_of image)) image (omega (arith, many, even)) in
    let first : IsAtFirst g (slice_index image) tree = record {
      holds = record {
        superblock = record { image = image; parsed = parsed; same = λ p from to. byte_at g (slice_index image) p fits.sized };
        nodes = subst (λ (x : Geometry). Holds x (disk_of x image) tree) same held.holds;
      };
      closed = held.closed;
    } in
    subst (λ (r : ℕ × ℕ). IsAtFirst g (contents_at (opening_of image 0 r)) tree) is
    (subst (λ (bytes : List ℕ). IsAtFirst g (slice_index bytes) tree) (sym all) first)
