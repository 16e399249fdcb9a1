-- The bytes of a unit.
use Rattle.std.proofs.Common.{◌≡◌, ℕ, zero, suc, ◌+◌, ◌-◌, ◌*◌, ◌<◌, List, [], ◌∷◌, ◌++◌, length, take, drop, replicate, min, refl, sym, ◌∙◌, ap, arith}
use Rattle.std.specs.List.{concat}
use Rattle.std.proofs.Math.Seq.{take-append-add, drop-append-add}
use Rattle.std.proofs.lemmas.List.Elements.{All-drop, All-head, All-tail}
use Rattle.std.proofs.lemmas.List.{ext_get_or, length-take, length-drop, get_or-take, get_or-drop, drop_all, take_all, drop_min, take_min, drop-replicate}
use Rattle.changes.specs.Units.{unit_of, padded}
use Rattle.changes.specs.Laws.{AreSectors, IsUnchanged, StaysUnchanged}

-- what follows n sectors
drop-concat : (n : ℕ) (sectors : List (List ℕ)) → AreSectors sectors → drop (512 * n) (concat sectors) ≡ concat (drop n sectors)
drop-concat zero sectors each = refl
drop-concat (suc n) [] each = drop_all (512 * suc n) [] (omega arith)
drop-concat (suc n) (s ∷ sectors) each =
    let l : length s ≡ 512 = All-head (λ x. length x ≡ 512) s sectors each in
    let rest : drop (512 * n) (concat sectors) ≡ concat (drop n sectors) = drop-concat n sectors (All-tail (λ x. length x ≡ 512) s sectors each) in
    let place : 512 * suc n ≡ length s + 512 * n = omega arith in
    rw place (drop-append-add s (concat sectors) (512 * n) ∙ rest)

-- the bytes of the first n sectors
take-concat : (n : ℕ) (sectors : List (List ℕ)) → AreSectors sectors → take (512 * n) (concat sectors) ≡ concat (take n sectors)
take-concat zero sectors each = refl
take-concat (suc n) [] each = take_all (512 * suc n) [] (omega arith)
take-concat (suc n) (s ∷ sectors) each =
    let l : length s ≡ 512 = All-head (λ x. length x ≡ 512) s sectors each in
    let rest : take (512 * n) (concat sectors) ≡ concat (take n sectors) = take-concat n sectors (All-tail (λ x. length x ≡ 512) s sectors each) in
    let place : 512 * suc n ≡ length s + 512 * n = omega arith in
    rw place (take-append-add s (concat sectors) (512 * n) ∙ ap (λ l. s ++ l) rest)

-- a unit has the bytes of its eight sectors
bytes_of : (sectors : List (List ℕ)) (n : ℕ) → AreSectors sectors
    → take 4096 (drop (4096 * n) (concat sectors)) ≡ concat (take 8 (drop (8 * n) sectors))
bytes_of sectors n each =
    let place : 4096 * n ≡ 512 * (8 * n) = omega arith in
    rw place (ap (take 4096) (drop-concat (8 * n) sectors each) ∙ take-concat 8 (drop (8 * n) sectors) (All-drop (λ x. length x ≡ 512) (8 * n) sectors each))

-- the sectors of a unit that is unchanged
same_sectors : (old new : List (List ℕ)) (n : ℕ) → length new ≡ length old → IsUnchanged old new n
    → take 8 (drop (8 * n) new) ≡ take 8 (drop (8 * n) old)
same_sectors old new n long same =
    ext_get_or [] (take 8 (drop (8 * n) new)) (take 8 (drop (8 * n) old)) (simp (length-take, length-drop, long))
    (λ k less. let eight : k < 8 = omega (arith, length-take 8 (drop (8 * n) new)) in
    get_or-take 8 (drop (8 * n) new) k [] eight ∙ get_or-drop (8 * n) new k [] ∙ same k eight
    ∙ sym (get_or-drop (8 * n) old k []) ∙ sym (get_or-take 8 (drop (8 * n) old) k [] eight))

pub stays_unchanged : StaysUnchanged
stays_unchanged old new n sectors sectors' long same =
    ap padded (bytes_of new n sectors' ∙ ap concat (same_sectors old new n long same) ∙ sym (bytes_of old n sectors))

-- the bytes from where a unit begins to where it ends, or the image does
piece_is : (image : List ℕ) (number first last : ℕ) → first ≡ min (number * 4096) (length image) → last ≡ min (first + 4096) (length image)
    → take (last - first) (drop first image) ≡ take 4096 (drop (4096 * number) image)
piece_is image number first last begins ends =
    let from : first ≡ min (4096 * number) (length image) = omega arith in
    let count : last - first ≡ min 4096 (length (drop first image)) = omega (arith, length-drop first image) in
    ap (λ k. take k (drop first image)) count ∙ take_min 4096 (drop first image)
    ∙ ap (λ k. take 4096 (drop k image)) from ∙ ap (take 4096) (drop_min (4096 * number) image)

-- a unit of zeros that these bytes were put into
pub unit_is : (image unit : List ℕ) (number first last : ℕ) → first ≡ min (number * 4096) (length image)
    → last ≡ min (first + 4096) (length image)
    → unit ≡ take (last - first) (drop first image) ++ drop (length (take (last - first) (drop first image))) (replicate 4096 0)
    → unit ≡ unit_of image number
unit_is image unit number first last begins ends is =
    is ∙ ap (λ (p : List ℕ). p ++ drop (length p) (replicate 4096 0)) (piece_is image number first last begins ends)
    ∙ ap (λ z. take 4096 (drop (4096 * number) image) ++ z) (drop-replicate (length (take 4096 (drop (4096 * number) image))) 4096 0)
