-- Rows of bytes of which a part in the middle was replaced.
use Rattle.std.proofs.Common.{◌≡◌, ◌<◌, ◌≤◌, ◌+◌, ◌-◌, ℕ, List, length, ◌++◌, ap, sym, subst, inl, inr, ◌∙◌, arith, Option, Some}
use Rattle.volume_reading.specs.Sought.{piece_size, PutsAt}
use Rattle.std.specs.Prelude.{slice_index}
use Rattle.std.proofs.Math.ListN.{get_or-append, take, drop, length-append, length-take, length-drop}
use Rattle.std.proofs.lemmas.List.{get_or-take, get_or-drop, get_or-append_right}
use borrow.Rule.Slice.PartMut.{put_mid}

module _ (a k : ℕ) (xs ys : List ℕ) (inside : a + k ≤ length xs) (many : length ys ≡ k) where
  abbrev behind : List ℕ
  behind = drop k (drop a xs)

  front : length (take a xs) ≡ a
  front = let l = length-take a xs in omega (arith, l, inside)

  -- the row before the part
  pub index_before : (i : ℕ) → i < a → slice_index (put_mid a k xs ys) i ≡ slice_index xs i
  index_before i low = get_or-append (take a xs) (ys ++ behind) 0 i (let f = front in omega (arith, f, low)) ∙ get_or-take a xs i 0 low

  past : (i : ℕ) → a ≤ i → slice_index (put_mid a k xs ys) i ≡ slice_index (ys ++ behind) (i - a)
  past i high = get_or-append_right (take a xs) (ys ++ behind) a i 0 front high

  -- the part
  pub index_inside : (i : ℕ) → a ≤ i → i < a + k → slice_index (put_mid a k xs ys) i ≡ slice_index ys (i - a)
  index_inside i high low = past i high ∙ get_or-append ys behind 0 (i - a) (let m = many in omega (arith, m, high, low))

  -- the row behind it
  pub index_behind : (i : ℕ) → a + k ≤ i → slice_index (put_mid a k xs ys) i ≡ slice_index xs i
  index_behind i high =
      past i (omega (arith, high)) ∙ get_or-append_right ys behind k (i - a) 0 many (omega (arith, high))
      ∙ get_or-drop k (drop a xs) (i - a - k) 0 ∙ get_or-drop a xs (k + (i - a - k)) 0 ∙ ap (slice_index xs) (omega (arith, high))

  -- its length
  pub length_kept : length (put_mid a k xs ys) ≡ length xs
  length_kept =
      let rest = length-append ys behind in
      let after = length-drop k (drop a xs) in
      let from = length-drop a xs in
      let f = front in
      length-append (take a xs) (ys ++ behind) ∙ omega (arith, rest, after, from, f, many, inside)

-- the bytes of a piece are put into their places
pub puts_piece : (o : Option ℕ) (at n : ℕ) (bytes before part : List ℕ) → o ≡ Some at → n ≡ piece_size (length before) at → at ≤ length before
    → n ≤ length bytes → part ≡ take n bytes → PutsAt o bytes before (put_mid at (at + n - at) before part)
puts_piece o at n bytes before part is count low full after =
    let k : at + n - at ≡ n = omega arith in
    let l = length-take n bytes in
    let m = ap (λ (l : List ℕ). length l) after in
    let many : length part ≡ at + n - at = omega (arith, l, full, m, k) in
    let inside : at + (at + n - at) ≤ length before = omega (arith, low, count) in
    subst (λ (p : Option ℕ). PutsAt p bytes before (put_mid at (at + n - at) before part)) (sym is) (record {
      same_length = length_kept at (at + n - at) before part inside many;
      inside = λ j lt.
          let less : j < n = omega (arith, lt, count) in
          let back : at + j - at ≡ j = omega arith in
          index_inside at (at + n - at) before part inside many (at + j) (omega arith) (omega (arith, less, k))
          ∙ ap (slice_index part) back ∙ ap (λ (l : List ℕ). slice_index l j) after ∙ get_or-take n bytes j 0 less;
      outside = λ j out. elim out [
        | inl o ↦ index_before at (at + n - at) before part inside many j o
        | inr o ↦ index_behind at (at + n - at) before part inside many j (omega (arith, o, k, count))
      ];
    })
