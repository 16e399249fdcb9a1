-- What a check of a volume's bytes in memory says.
use Rattle.std.proofs.Common.{◌≡◌, ◌*◌, ◌-◌, ◌+◌, ℕ, List, sym, ap, ◌∙◌, subst, arith, take, drop}
use Rattle.std.specs.Prelude.{Result, Ok, Err, IfOk, slice_index}
use Rattle.std.specs.List.{concat}
use Rattle.lemmas.proofs.Options.{ok_same}
use Rattle.layout.specs.declared.Geometry.{Geometry}
use Rattle.layout.specs.declared.LayoutRefusal.{LayoutRefusal}
use Rattle.layout.specs.Places.{IsGeometry, geometry_of}
use Rattle.layout.proofs.Parsed.{geometry_fits}
use Rattle.tree.specs.Tree.{Tree}
use Rattle.volume.specs.Holds.{Holds}
use Rattle.volume.specs.Reading.{disk_of}
use Rattle.volume.specs.Verdict.{HoldsClosed}
use Rattle.records.specs.Legal.{IsAtFirst}
use Rattle.records.specs.Mount.{first_bytes}
use Rattle.fsck.specs.declared.verdict.Clean.{Clean}
use Rattle.volume_mount.specs.declared.whole.MountRefusal.{MountRefusal}
use Rattle.volume_mount.specs.Checked.{HoldsTree}
use Rattle.volume_mount.specs.Laws.{sizes_in}
use Rattle.volume_mount.specs.Mounts.{IsChecked}
use Rattle.volume_mount.specs.Starting.{bytes_of}
use Rattle.volume_mount.proofs.Ending.{parsed_is, same_superblock}
use Rattle.volume_mount.proofs.Starts.{same_bytes}
use Rattle.volume_mount.proofs.Volumes.{byte_at, first_at}

-- the bytes of some sectors, cut out of all of them
pub cut_out : (sectors seen : List (List ℕ)) (all : List ℕ) (range : ℕ × ℕ) → all ≡ concat seen → seen ≡ sectors
    → take (512 * range.0 + 512 * range.1 - 512 * range.0) (drop (512 * range.0) all) ≡ bytes_of (concat sectors) range
cut_out sectors seen all range flat same =
    ap (λ (l : List ℕ). take (512 * range.0 + 512 * range.1 - 512 * range.0) (drop (512 * range.0) l)) (flat ∙ ap concat same)
    ∙ same_bytes (concat sectors) range

-- bytes that hold a tree without an open file are a volume that holds it at first
pub at_first : (bytes : List ℕ) (g : Geometry) (tree : Tree) → geometry_of bytes ≡ Ok g → HoldsClosed bytes tree
    → IsAtFirst g (slice_index bytes) tree
at_first bytes g tree parsed held =
    let same : held.geometry ≡ g = ok_same {E = LayoutRefusal} (sym held.parsed ∙ parsed) in
    let fits : IsGeometry g = (geometry_fits bytes g parsed).0 in
    record {
      holds = record {
        superblock = record { image = bytes; parsed = parsed; same = λ p from to. byte_at g (slice_index bytes) p fits.sized };
        nodes = subst (λ (x : Geometry). Holds x (disk_of x bytes) tree) same held.holds;
      };
      closed = held.closed;
    }

-- the sizes that were parsed are those of the superblock
pub sizes_are : (bytes : List ℕ) (g : Geometry) → geometry_of bytes ≡ Ok g → g ≡ sizes_in (slice_index bytes)
sizes_are bytes g parsed =
    parsed_is bytes g parsed
    ∙ same_superblock bytes (first_bytes (slice_index bytes) 2048) (λ p lt. sym (first_at (slice_index bytes) 2048 p (omega (arith, lt))))

-- where the check of these bytes gives a clean volume, they hold its tree
pub holds : (bytes given : List ℕ) (result : Result Clean MountRefusal) → given ≡ bytes → IsChecked given result
    → IfOk result (λ clean. HoldsTree bytes clean.geometry)
holds bytes given (Err e) same checked = tt
holds bytes given (Ok clean) same checked =
    let P : List ℕ → Type 0 = λ l. HoldsTree l clean.geometry in
    subst P same (record {
      parsed = checked.0;
      clean = checked.1;
      tree = checked.2.0;
      at_first = at_first given clean.geometry checked.2.0 checked.0 checked.2.1;
    })

-- and its sizes are those of its superblock
pub sizes : (bytes given : List ℕ) (result : Result Clean MountRefusal) → given ≡ bytes → IsChecked given result
    → IfOk result (λ clean. clean.geometry ≡ sizes_in (slice_index bytes))
sizes bytes given (Err e) same checked = tt
sizes bytes given (Ok clean) same checked =
    let P : List ℕ → Type 0 = λ l. clean.geometry ≡ sizes_in (slice_index l) in
    subst P same (sizes_are given clean.geometry checked.0)
