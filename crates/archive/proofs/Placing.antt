-- Changes that are put from where they lie.
use Rattle.std.proofs.Common.{◌≡◌, ℕ, List, map, subst, sym}
use Rattle.std.specs.List.{concat}
use Rattle.records.specs.Opening.{Opening}
use Rattle.changes.specs.Units.{unit_of}
use Rattle.shared_media.specs.Marking.{AreChangesOutside, of_image}

-- they are the marked units of the media's image
pub in_place : (v : Opening) (sectors : List (List ℕ)) (numbers taken image : List ℕ)
    → AreChangesOutside v (of_image (concat sectors) numbers) → taken ≡ numbers → image ≡ concat sectors
    → AreChangesOutside v (map (λ n. (n, unit_of image n)) taken)
in_place v sectors numbers taken image outside same is =
    subst (λ (l : List ℕ). AreChangesOutside v (map (λ n. (n, unit_of l n)) taken)) (sym is)
    (subst (λ (l : List ℕ). AreChangesOutside v (of_image (concat sectors) l)) (sym same) outside)
