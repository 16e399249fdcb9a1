-- Bytes beside those of the volume's range of media.
use Rattle.std.proofs.Common.{◌≡◌, ◌+◌, ◌*◌, ◌<◌, ◌≤◌, ℕ, List, length, Bool, true, false, refl, sym, ◌∙◌, ap, subst, arith, take, drop, get_or-take, get_or-drop, length-drop}
use Rattle.std.specs.Prelude.{◌↔◌, nat_eq, slice_index}
use Rattle.std.specs.List.{concat, flat_map, starts_with}
use Rattle.std.specs.Cmp.Lexicographic.{same_text, other_text}
use Rattle.std.proofs.lemmas.List.{ext_get_or, length-take-le}
use Rattle.std.proofs.lemmas.List.Concat.{concat_is}
use Rattle.records.specs.Opening.{Opening, opening_range, volume_bytes}
use Rattle.driver_threads.specs.Watched.{IsAt, IsThere}

-- whether a range's rest begins with them
begins_so : (r : Bool) (part bytes : List ℕ) → r ≡ starts_with nat_eq part bytes → (r ≡ true) ↔ (take (length bytes) part ≡ bytes)
begins_so true part bytes is = (λ t. sym (same_text bytes (take (length bytes) part) is), λ e. refl)
begins_so false part bytes is = (λ t. absurd (no t), λ e. absurd (other_text bytes (take (length bytes) part) is (sym e))) where
  no : false ≡ true → ⊥
  no e = cc

-- bytes that a range has from a place on, byte for byte
has_bytes : (start : ℕ) (bytes range : List ℕ) → take (length bytes) (drop start range) ≡ bytes → IsAt range start bytes
has_bytes start bytes range is k low =
    sym (get_or-take (length bytes) (drop start range) k 0 low ∙ get_or-drop start range k 0) ∙ ap (λ (l : List ℕ). slice_index l k) is

-- so it has them all
has_all_bytes : (start : ℕ) (bytes range : List ℕ) → start + length bytes ≤ length range → IsAt range start bytes
    → take (length bytes) (drop start range) ≡ bytes
has_all_bytes start bytes range fits each =
    let long : length (take (length bytes) (drop start range)) ≡ length bytes =
    length-take-le (length bytes) (drop start range) (let d = length-drop start range in omega (arith, d, fits)) in
    ext_get_or 0 (take (length bytes) (drop start range)) bytes long
    (λ k low.
    let less : k < length bytes = omega (arith, low, long) in
    get_or-take (length bytes) (drop start range) k 0 less ∙ get_or-drop start range k 0 ∙ each k less)

-- whether a range has them from a place on
pub is_at_so : (r : Bool) (start : ℕ) (bytes range : List ℕ) → start + length bytes ≤ length range
    → r ≡ starts_with nat_eq (drop start range) bytes → (r ≡ true) ↔ IsAt range start bytes
is_at_so r start bytes range fits is =
    let so = begins_so r (drop start range) bytes is in
    (λ t. has_bytes start bytes range (so.0 t), λ each. so.1 (has_all_bytes start bytes range fits each))

-- the part of the image that has the volume's range is that range
pub range_is : (v : Opening) (first count : ℕ) (sectors named : List (List ℕ)) (image range : List ℕ) → first ≡ v.first → count ≡ v.count
    → named ≡ sectors → image ≡ flat_map (λ x. x) named → range ≡ take (512 * count) (drop (512 * first) image)
    → range ≡ volume_bytes (opening_range v) (concat sectors)
range_is v first count sectors named image range from of same flat is =
    is
    ∙ ap (λ (l : List ℕ). take (512 * count) (drop (512 * first) l)) (flat ∙ sym (concat_is named) ∙ ap concat same)
    ∙ ap (λ (n : ℕ). take (512 * n) (drop (512 * first) (concat sectors))) of
    ∙ ap (λ (n : ℕ). take (512 * v.count) (drop (512 * n) (concat sectors))) from

-- what it has, the volume has
pub there_is : (v : Opening) (sectors : List (List ℕ)) (range : List ℕ) (start : ℕ) (bytes : List ℕ)
    → range ≡ volume_bytes (opening_range v) (concat sectors) → IsAt range start bytes → IsThere v sectors start bytes
there_is v sectors range start bytes is at = subst (λ (l : List ℕ). IsAt l start bytes) is at

-- and what the volume has, it has
pub there_back : (v : Opening) (sectors : List (List ℕ)) (range : List ℕ) (start : ℕ) (bytes : List ℕ)
    → range ≡ volume_bytes (opening_range v) (concat sectors) → IsThere v sectors start bytes → IsAt range start bytes
there_back v sectors range start bytes is there = subst (λ (l : List ℕ). IsAt l start bytes) (sym is) there
