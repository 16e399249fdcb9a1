-- The numbers and the bytes of changes, wherever these lie.
use Rattle.std.proofs.Common.{◌≡◌, ℕ, zero, suc, ◌<◌, List, [], ◌∷◌, length, map, get_or, zip, refl, ◌∙◌, ap, arith}
use Rattle.std.proofs.lemmas.List.{get_or_default, length-map}
use Rattle.changes.specs.Units.{unit_of}
use Rattle.image_file.specs.Images.{units_of}

pub numbers_in_place : (image numbers : List ℕ) → numbers ≡ map (λ (w : ℕ × List ℕ). w.0) (units_of image numbers)
numbers_in_place image [] = refl
numbers_in_place image (n ∷ numbers) = ap (λ (l : List ℕ). n ∷ l) (numbers_in_place image numbers)

pub unit_in_place : (image numbers : List ℕ) (at : ℕ) → at < length (units_of image numbers) → unit_of image (get_or numbers at 0) ≡ get_or (map (λ (w : ℕ × List ℕ). w.1) (units_of image numbers)) at []
unit_in_place image [] at lt = absurd (omega arith)
unit_in_place image (n ∷ numbers) zero lt = refl
unit_in_place image (n ∷ numbers) (suc at) lt = unit_in_place image numbers at (omega arith)

pub numbers_copied : (ns : List ℕ) (us : List (List ℕ)) → length ns ≡ length us → ns ≡ map (λ (w : ℕ × List ℕ). w.0) (zip ns us)
numbers_copied [] us same = refl
numbers_copied (n ∷ ns) [] same = cc
numbers_copied (n ∷ ns) (u ∷ us) same = ap (λ (l : List ℕ). n ∷ l) (numbers_copied ns us (omega (arith, same)))

pub units_copied : (ns : List ℕ) (us : List (List ℕ)) → length ns ≡ length us → us ≡ map (λ (w : ℕ × List ℕ). w.1) (zip ns us)
units_copied [] [] same = refl
units_copied [] (u ∷ us) same = cc
units_copied (n ∷ ns) [] same = cc
units_copied (n ∷ ns) (u ∷ us) same = ap (λ (l : List (List ℕ)). u ∷ l) (units_copied ns us (omega (arith, same)))

counted : (ns : List ℕ) (us : List (List ℕ)) → length ns ≡ length us → length us ≡ length (zip ns us)
counted ns us same = ap length (units_copied ns us same) ∙ length-map (zip ns us) (λ (w : ℕ × List ℕ). w.1)

-- a place among changes that were copied is one among their units
pub there : (ns : List ℕ) (us : List (List ℕ)) (at : ℕ) → length ns ≡ length us → at < length (zip ns us) → at < length us
there ns us at same lt = omega (arith, counted ns us same, lt)

pub unit_copied : (ns : List ℕ) (us : List (List ℕ)) (at : ℕ) (u : List ℕ) → length ns ≡ length us → at < length (zip ns us) → u ≡ get_or us at u
    → u ≡ get_or (map (λ (w : ℕ × List ℕ). w.1) (zip ns us)) at []
unit_copied ns us at u same lt is =
    is ∙ get_or_default us at u [] (there ns us at same lt) ∙ ap (λ (l : List (List ℕ)). get_or l at []) (units_copied ns us same)
