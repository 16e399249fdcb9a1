-- Numbers of a block side by side, and the zones of pages that they are.
use Rattle.std.proofs.Common.{◌≡◌, ◌<◌, ◌≤◌, ◌+◌, ◌-◌, ◌*◌, ◌/◌, ◌%◌, ℕ, List, length, ◌++◌, false, sym, ap, ◌∙◌, arith}
use Rattle.std.specs.Prelude.{IsTrue, slice_index}
use Rattle.std.proofs.lemmas.List.{get_or-take, get_or-drop}
use Rattle.std.proofs.lemmas.Nat.{div-add-mod', div-mul-add, mod-mul-add}
use Rattle.std.proofs.Math.ListN.{get_or-append, take, drop, length-take, length-drop}
use Rattle.layout.specs.declared.Geometry.{Geometry}
use Rattle.layout.specs.Places.{IsGeometry}
use Rattle.tree.specs.Space.{numbers_in_zone}
use Rattle.volume.specs.declared.Inode.{Inode}
use Rattle.volume.specs.Reading.{Disk, is_data_zone, u32_in}
use Rattle.volume.specs.Pieces.{Pieces, pieces}
use Rattle.volume.specs.Nodes.{number}
use Rattle.volume.specs.Places.{zone_at}
use Rattle.zone.specs.ZoneSteps.{first_places}
use Rattle.zone.specs.PlaceParts.{HasNumbers, HasZones}
use Rattle.zone.specs.Words.{HasWords}
use Rattle.zone.proofs.Frames.{number_outside, number_inside}
use Rattle.zone.proofs.Levels.{zone_inner, found_outer}

-- the numbers in a block's bytes are the block's
pub numbers_inside : (g : Geometry) → IsGeometry g → (d : Disk) (z from : ℕ) (bytes words : List ℕ) → IsTrue (is_data_zone g z) → d z ≡ slice_index bytes
    → HasWords from words bytes → HasNumbers (pieces g d) z from words
numbers_inside g ok d z from bytes words is shown h =
    λ k low. h k low ∙ sym (number_inside g ok d z (from + k) is ∙ ap (λ (f : ℕ → ℕ). u32_in f (4 * (from + k))) shown)

-- outside the data zones there are none
pub numbers_outside : (g : Geometry) (d : Disk) (z from : ℕ) (words : List ℕ) → is_data_zone g z ≡ false → ((k : ℕ) → k < length words → slice_index words k ≡ 0)
    → HasNumbers (pieces g d) z from words
numbers_outside g d z from words not zeros = λ k low. zeros k low ∙ number_outside g d z (from + k) not

-- pages of the direct range
pub direct_row : (g : Geometry) (v : Pieces) (i : Inode) (page count many : ℕ) (new rest : List ℕ) → length i.zones ≡ 10 → page + count ≤ 7 → many ≡ count
    → new ≡ take many (drop page i.zones) → HasZones g v i page count (new ++ rest)
direct_row g v i page count many new rest ten within same is = λ k low.
    let front = length-take many (drop page i.zones) in
    let behind = length-drop page i.zones in
    let size : length new ≡ length (take many (drop page i.zones)) = ap length is in
    let few : k < length new = omega (arith, front, behind, size, ten, within, same, low) in
    let inner : k < many = omega (arith, same, low) in
    let near : page + k < 7 = omega (arith, within, low) in
    get_or-append new rest 0 k few ∙ ap (λ row. slice_index row k) is ∙ get_or-take many (drop page i.zones) k 0 inner ∙ get_or-drop page i.zones k 0
    ∙ sym (zone_inner g v i 0 (page + k) (omega arith) near)

-- the pages that one block names
pub row_found : (g : Geometry) (v : Pieces) (i : Inode) (page f w block count : ℕ) (new rest : List ℕ) → 0 < numbers_in_zone g → f ≡ first_places 0 → w ≡ numbers_in_zone g → f ≤ page
    → (page - f) % w + count ≤ w → length new ≡ count → block ≡ zone_at g v i 1 ((page - f) / w) → HasNumbers v block ((page - f) % w) new
    → HasZones g v i page count (new ++ rest)
row_found g v i page f w block count new rest sized first wide far within many up has = λ k low.
    let whole = div-add-mod' (page - f) w in
    let few : k < length new = omega (arith, many, low) in
    let inner : (page - f) % w + k < w = omega (arith, within, low) in
    let spot : page + k - f ≡ (page - f) / w * w + ((page - f) % w + k) = omega (arith, whole, far) in
    let above : (page + k - f) / w ≡ (page - f) / w = ap (λ x. x / w) spot ∙ div-mul-add ((page - f) / w) w ((page - f) % w + k) inner in
    let beside : (page + k - f) % w ≡ (page - f) % w + k = ap (λ x. x % w) spot ∙ mod-mul-add ((page - f) / w) w ((page - f) % w + k) inner in
    get_or-append new rest 0 k few
    ∙ found_outer g v i 0 (page + k) f w block (slice_index new k) sized (omega arith) (λ e. absurd (omega (arith, e))) first wide (omega (arith, far))
    (up ∙ sym (ap (zone_at g v i 1) above)) (has k few ∙ sym (ap (number v block) beside))
