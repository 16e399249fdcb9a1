-- Where a volume lies in an image; bytes that are put into the place of as many.
use Rattle.std.proofs.Common.{◌≡◌, ◌≢◌, ◌<◌, ◌≤◌, ◌+◌, ◌%◌, ◌++◌, ℕ, List, length, take, drop, ap, ◌∙◌, arith}
use Rattle.std.specs.Prelude.{None, not, nat_lt, if◌then◌else◌}
use Rattle.std.proofs.lemmas.Bool.{eq-eqb, le-ltb, lt-ltb, ne_eqb}
use Rattle.std.proofs.lemmas.List.{drop_at, length-append, length-drop, length-take-le, take_at}
use Rattle.std.proofs.lemmas.Slice.{drop-put_mid, take-put_mid_below}
use borrow.Rule.Slice.PartMut.{post_of, put_mid}
use Rattle.media.specs.Contents.{sectors_of}
use Rattle.media.specs.Places.{volume_place}
use Rattle.release.specs.Place.{IsOutsideKept, bytes_at, in_bytes, place_in}

module _ (image : List ℕ) (minor : ℕ) where
  -- no whole sectors
  pub not_whole : length image % 512 ≢ 0 → place_in image minor ≡ None
  not_whole some = ap (λ b. if not b then None else (if nat_lt 67108864 (length image) then None else in_bytes (volume_place (sectors_of image) minor)))
      (ne_eqb (length image % 512) 0 some)

  -- whole ones
  whole : length image % 512 ≡ 0 → place_in image minor ≡ (if nat_lt 67108864 (length image) then None else in_bytes (volume_place (sectors_of image) minor))
  whole none = ap (λ b. if not b then None else (if nat_lt 67108864 (length image) then None else in_bytes (volume_place (sectors_of image) minor)))
      (eq-eqb (length image % 512) 0 none)

  -- too many of them
  pub too_many : length image % 512 ≡ 0 → 67108864 < length image → place_in image minor ≡ None
  too_many none many = whole none ∙ ap (λ b. if b then None else in_bytes (volume_place (sectors_of image) minor)) (lt-ltb 67108864 (length image) many)

  -- few enough
  pub by_place : length image % 512 ≡ 0 → length image ≤ 67108864 → place_in image minor ≡ in_bytes (volume_place (sectors_of image) minor)
  by_place none few = whole none ∙ ap (λ b. if b then None else in_bytes (volume_place (sectors_of image) minor)) (le-ltb 67108864 (length image) few)

module _ (a k : ℕ) (old bytes : List ℕ) (inside : a + k ≤ length old) (many : length bytes ≡ k) where
  -- they stand there
  pub stand : bytes_at (a, k) (put_mid a k old bytes) ≡ bytes
  stand =
      ap (take k) (drop_at (take a old) (bytes ++ post_of a k old) a (length-take-le a old (omega (arith, inside))))
      ∙ take_at bytes (post_of a k old) k many

  -- and nothing else changed
  pub outside : IsOutsideKept (a, k) old (put_mid a k old bytes)
  outside = record {
    length =
        let front = length-take-le a old (omega (arith, inside)) in
        let rest = length-append bytes (drop k (drop a old)) in
        let after = length-drop k (drop a old) in
        let from = length-drop a old in
        length-append (take a old) (bytes ++ drop k (drop a old)) ∙ omega (arith, front, rest, after, from, many, inside);
    before = take-put_mid_below a k old bytes a (omega arith) (omega (arith, inside));
    behind = drop-put_mid a k old bytes (a + k) (omega arith) (omega (arith, inside)) many;
  }
