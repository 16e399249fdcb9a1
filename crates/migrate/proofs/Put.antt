-- Bytes that are put at a place.
use Rattle.std.proofs.Common.{◌≡◌, ◌<◌, ◌≤◌, ◌+◌, ◌-◌, ℕ, List, length, take, drop, ◌++◌, slice_index, sym, ap, ◌∙◌, arith}
use Rattle.std.proofs.Common.{length-append, length-drop}
use Rattle.std.proofs.lemmas.List.{length-take-le, get_or_append_left, get_or-append-add, get_or-append_right, get_or-take, get_or-drop}

module _ (at : ℕ) (xs ys zs : List ℕ) (inside : at + length ys ≤ length xs) (is : zs ≡ take at xs ++ ys ++ drop (at + length ys) xs) where
  front : length (take at xs) ≡ at
  front = length-take-le at xs (omega arith)

  middle : length (take at xs ++ ys) ≡ at + length ys
  middle = let f = front in let all = length-append (take at xs) ys in omega arith

  -- the length stays
  pub put_size : length zs ≡ length xs
  put_size =
      let m = middle in
      let all = ap length is ∙ length-append (take at xs ++ ys) (drop (at + length ys) xs) in
      let rest = length-drop (at + length ys) xs in
      omega arith

  -- so does what comes before
  pub put_before : (p : ℕ) → p < at → slice_index zs p ≡ slice_index xs p
  put_before p low =
      let f = front in
      let m = middle in
      ap (λ l. slice_index l p) is ∙ get_or_append_left (take at xs ++ ys) (drop (at + length ys) xs) 0 p (omega arith)
      ∙ get_or_append_left (take at xs) ys 0 p (omega arith) ∙ get_or-take at xs p 0 low

  -- the bytes are there
  pub put_there : (k : ℕ) → k < length ys → slice_index zs (at + k) ≡ slice_index ys k
  put_there k low =
      let f = front in
      let m = middle in
      let at_k : length (take at xs) + k ≡ at + k = omega arith in
      ap (λ l. slice_index l (at + k)) is ∙ get_or_append_left (take at xs ++ ys) (drop (at + length ys) xs) 0 (at + k) (omega arith)
      ∙ ap (slice_index (take at xs ++ ys)) (sym at_k) ∙ get_or-append-add (take at xs) ys k 0

  -- and what comes behind stays
  pub put_behind : (p : ℕ) → at + length ys ≤ p → slice_index zs p ≡ slice_index xs p
  put_behind p high =
      let back : at + length ys + (p - (at + length ys)) ≡ p = omega arith in
      ap (λ l. slice_index l p) is ∙ get_or-append_right (take at xs ++ ys) (drop (at + length ys) xs) (at + length ys) p 0 middle high
      ∙ get_or-drop (at + length ys) xs (p - (at + length ys)) 0 ∙ ap (slice_index xs) back
