-- Cutting bytes into sectors, and joining sectors.
use Rattle.std.proofs.Common.{◌≡◌, ℕ, zero, suc, ◌+◌, ◌*◌, ◌/◌, ◌%◌, ◌≤◌, ◌<◌, List, [], ◌∷◌, ◌++◌, length, get_or, set, take, drop, refl, sym, ◌∙◌, ap, arith, length-append, length-drop, zero-add}
use Rattle.std.specs.Prelude.{All}
use Rattle.std.specs.List.{concat}
use Rattle.std.specs.Simd.{first_chunks}
use Rattle.std.proofs.Math.Seq.{take-append_seam, drop-append_seam, take-length}
use Rattle.std.proofs.lemmas.List.Elements.{All-nil, All-cons, All-head, All-tail}
use Rattle.std.proofs.lemmas.List.{take-append-drop, take-take, drop-take, drop-drop, drop-append-le, length-take-le, get_or_append_left, get_or-append-add}
use Rattle.std.proofs.lemmas.Slice.{take-put_mid_below}
use borrow.Rule.Slice.PartMut.{mid_of, put_mid, same_len_mid}
use Rattle.media.specs.Contents.{IsWhole, sectors_of}
use Rattle.media.specs.Laws.{IsSameImage}

-- k sectors are cut
pub length-first_chunks : (k : ℕ) (bytes : List ℕ) → length (first_chunks 512 k bytes) ≡ k
length-first_chunks zero bytes = refl
length-first_chunks (suc k) bytes = let h : length (first_chunks 512 k (drop 512 bytes)) ≡ k = length-first_chunks k (drop 512 bytes) in omega arith

-- each of them has 512 bytes, where there are so many
pub All-first_chunks : (k : ℕ) (bytes : List ℕ) → 512 * k ≤ length bytes → All (λ s. length s ≡ 512) (first_chunks 512 k bytes)
All-first_chunks zero bytes fits = All-nil (λ s. length s ≡ 512)
All-first_chunks (suc k) bytes fits =
    All-cons (λ s. length s ≡ 512) (take 512 bytes) (first_chunks 512 k (drop 512 bytes)) (length-take-le 512 bytes (omega arith))
    (All-first_chunks k (drop 512 bytes) (simp length-drop (omega arith)))

-- so bytes in whole sectors, not too many, give whole sectors
pub IsWhole-first_chunks : (k : ℕ) (bytes : List ℕ) → 512 * k ≤ length bytes → length bytes ≤ 67108864 → IsWhole (first_chunks 512 k bytes)
IsWhole-first_chunks k bytes fits few = record {
  bounded = rw (length-first_chunks k bytes) (omega arith);
  each = All-first_chunks k bytes fits;
}

-- what follows the first sector, after a write behind it
drop-put_mid_later : (a k : ℕ) (xs ys : List ℕ) → 512 + a ≤ length xs → drop 512 (put_mid (512 + a) k xs ys) ≡ put_mid a k (drop 512 xs) ys
drop-put_mid_later a k xs ys fits =
    let front : length (take (512 + a) xs) ≡ 512 + a = length-take-le (512 + a) xs fits in
    let behind : drop k (drop (512 + a) xs) ≡ drop k (drop a (drop 512 xs)) = ap (drop k) (sym (drop-drop a 512 xs)) in
    drop-append-le 512 (take (512 + a) xs) (ys ++ drop k (drop (512 + a) xs)) (omega arith)
    ∙ ap (λ zs. zs ++ (ys ++ drop k (drop (512 + a) xs))) (drop-take 512 a xs) ∙ ap (λ zs. take a (drop 512 xs) ++ (ys ++ zs)) behind

-- 512 bytes that are written at 512 * n are sector n, and the other sectors stay
pub first_chunks-put : (k n : ℕ) (xs ys : List ℕ) → n < k → 512 * k ≤ length xs → length ys ≡ 512
    → first_chunks 512 k (put_mid (512 * n) 512 xs ys) ≡ set (first_chunks 512 k xs) n ys
first_chunks-put zero n xs ys less fits long = absurd (omega arith)
first_chunks-put (suc k) zero xs ys less fits long =
    let same : take 512 (ys ++ drop 512 xs) ≡ ys = rw long at (take-append_seam ys (drop 512 xs)) in
    let rest : drop 512 (ys ++ drop 512 xs) ≡ drop 512 xs = rw long at (drop-append_seam ys (drop 512 xs)) in
    rw (same, rest) refl
first_chunks-put (suc k) (suc n) xs ys less fits long =
    let place : 512 * suc n ≡ 512 + 512 * n = omega arith in
    let same : take 512 (put_mid (512 + 512 * n) 512 xs ys) ≡ take 512 xs =
    take-put_mid_below (512 + 512 * n) 512 xs ys 512 (omega arith) (omega arith) in
    let rest : drop 512 (put_mid (512 + 512 * n) 512 xs ys) ≡ put_mid (512 * n) 512 (drop 512 xs) ys =
    drop-put_mid_later (512 * n) 512 xs ys (omega arith) in
    rw (place, same, rest, first_chunks-put k n (drop 512 xs) ys (omega arith) (rw (length-drop 512 xs) (omega arith)) long) refl

-- so many sectors are whole in these bytes
pub sector_count : (bytes : List ℕ) → length (sectors_of bytes) ≡ length bytes / 512
sector_count bytes = length-first_chunks (length bytes / 512) bytes

-- so bytes in whole sectors, not too many, give whole sectors
pub whole_sectors : (bytes : List ℕ) → length bytes ≤ 67108864 → IsWhole (sectors_of bytes)
whole_sectors bytes few = IsWhole-first_chunks (length bytes / 512) bytes (omega arith) few

-- and a write of one
pub sectors_of-put : (n : ℕ) (xs ys : List ℕ) → n < length xs / 512 → length ys ≡ 512
    → sectors_of (put_mid (512 * n) 512 xs ys) ≡ set (sectors_of xs) n ys
sectors_of-put n xs ys less long =
    let part : length (mid_of (512 * n) 512 xs) ≡ 512 =
    length-take-le 512 (drop (512 * n) xs) (rw (length-drop (512 * n) xs) (omega arith)) in
    let same : length (put_mid (512 * n) 512 xs ys) ≡ length xs = same_len_mid (512 * n) 512 xs ys (long ∙ sym part) in
    ap (λ m. first_chunks 512 (m / 512) (put_mid (512 * n) 512 xs ys)) same
    ∙ first_chunks-put (length xs / 512) n xs ys less (omega arith) long

-- the first n bytes and the next m
take_next : (n m : ℕ) (bytes : List ℕ) → take n bytes ++ take m (drop n bytes) ≡ take (n + m) bytes
take_next n m bytes =
    let front : take n (take (n + m) bytes) ≡ take n bytes = take-take n (n + m) bytes (omega arith) in
    let back : drop n (take (n + m) bytes) ≡ take m (drop n bytes) = drop-take n m bytes in
    rw (← front, ← back) (take-append-drop n (take (n + m) bytes))

-- k sectors joined are the first 512 * k bytes
concat-first_chunks : (k : ℕ) (bytes : List ℕ) → concat (first_chunks 512 k bytes) ≡ take (512 * k) bytes
concat-first_chunks zero bytes = refl
concat-first_chunks (suc k) bytes =
    let more : 512 + 512 * k ≡ 512 * suc k = omega arith in
    ap (λ ys. take 512 bytes ++ ys) (concat-first_chunks k (drop 512 bytes)) ∙ take_next 512 (512 * k) bytes ∙ ap (λ n. take n bytes) more

-- sectors of 512 bytes each have 512 bytes in all for each
pub length-concat : (sectors : List (List ℕ)) → All (λ s. length s ≡ 512) sectors → length (concat sectors) ≡ 512 * length sectors
length-concat [] each = refl
length-concat (s ∷ sectors) each =
    let h : length (concat sectors) ≡ 512 * length sectors = length-concat sectors (All-tail (λ x. length x ≡ 512) s sectors each) in
    let l : length s ≡ 512 = All-head (λ x. length x ≡ 512) s sectors each in
    omega (arith, length-append s (concat sectors))

-- joined sectors are cut into themselves
first_chunks-concat : (sectors : List (List ℕ)) → All (λ s. length s ≡ 512) sectors → first_chunks 512 (length sectors) (concat sectors) ≡ sectors
first_chunks-concat [] each = refl
first_chunks-concat (s ∷ sectors) each =
    let h : first_chunks 512 (length sectors) (concat sectors) ≡ sectors = first_chunks-concat sectors (All-tail (λ x. length x ≡ 512) s sectors each) in
    let l : length s ≡ 512 = All-head (λ x. length x ≡ 512) s sectors each in
    let front : take 512 (s ++ concat sectors) ≡ s = rw l at (take-append_seam s (concat sectors)) in
    let back : drop 512 (s ++ concat sectors) ≡ concat sectors = rw l at (drop-append_seam s (concat sectors)) in
    rw (front, back, h) refl

-- byte o of sector s stands in the image at 512 * s + o
places : (sectors : List (List ℕ)) → All (λ s. length s ≡ 512) sectors → (s o : ℕ) → s < length sectors → o < 512
    → get_or (concat sectors) (512 * s + o) 0 ≡ get_or (get_or sectors s []) o 0
places [] each s o less within = absurd (omega arith)
places (x ∷ sectors) each zero o less within =
    let l : length x ≡ 512 = All-head (λ y. length y ≡ 512) x sectors each in
    rw (zero-add o) (get_or_append_left x (concat sectors) 0 o (omega arith))
places (x ∷ sectors) each (suc s) o less within =
    let l : length x ≡ 512 = All-head (λ y. length y ≡ 512) x sectors each in
    let more : 512 * suc s + o ≡ length x + (512 * s + o) = omega arith in
    rw more (get_or-append-add x (concat sectors) (512 * s + o) 0 ∙ places sectors (All-tail (λ y. length y ≡ 512) x sectors each) s o (omega arith) within)

-- cutting and joining undo one another
pub is_same_image : IsSameImage
is_same_image = record {
  joined = λ bytes whole.
      let all : 512 * (length bytes / 512) ≡ length bytes = omega arith in
      concat-first_chunks (length bytes / 512) bytes ∙ rw all (take-length bytes);
  cut = λ sectors whole.
      let number : length (concat sectors) / 512 ≡ length sectors = let l : length (concat sectors) ≡ 512 * length sectors = length-concat sectors whole.each in omega arith in
      rw number (first_chunks-concat sectors whole.each);
  long = λ sectors whole. length-concat sectors whole.each;
  places = λ sectors whole. places sectors whole.each;
}

-- what media of whole sectors hold is their image
pub same_image : (bytes : List ℕ) → length bytes % 512 ≡ 0 → concat (sectors_of bytes) ≡ bytes
same_image = is_same_image.joined
