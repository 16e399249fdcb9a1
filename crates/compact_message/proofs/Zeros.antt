-- Zeros at the end of bytes, and behind them.
use Rattle.std.proofs.Common.{◌≡◌, ℕ, zero, suc, ◌+◌, ◌-◌, ◌≤◌, arith, List, [], ◌∷◌, ◌++◌, length, get_or, take, drop, replicate, min, refl, sym, ◌∙◌, ap, append_assoc}
use Rattle.std.proofs.lemmas.List.{take-replicate, drop-replicate, replicate-append-replicate, take_at, length-take, length-drop, take_all, take-append-drop, take-take, drop-take, drop_more, take_min}
use Rattle.compact_message.specs.Padded.{padded}

-- so many of the bytes, and zeros where there are no more
abbrev zeroed : ℕ → List ℕ → List ℕ
zeroed w xs = take w (xs ++ replicate w 0)

-- it doesn't matter how many zeros come behind, if they are enough
enough : (w m n : ℕ) (xs : List ℕ) → w ≤ m → w ≤ n → take w (xs ++ replicate m 0) ≡ take w (xs ++ replicate n 0)
enough w m n [] a b = take-replicate w m 0 a ∙ sym (take-replicate w n 0 b)
enough zero m n (x ∷ xs) a b = refl
enough (suc w) m n (x ∷ xs) a b = ap (λ (l : List ℕ). x ∷ l) (enough w m n xs (omega arith) (omega arith))

-- zeros at the end can be left out
left_out : (w k : ℕ) (xs : List ℕ) → take w ((xs ++ replicate k 0) ++ replicate w 0) ≡ take w (xs ++ replicate w 0)
left_out w k xs =
    ap (take w) (append_assoc xs (replicate k 0) (replicate w 0) ∙ ap (λ (l : List ℕ). xs ++ l) (replicate-append-replicate k w 0))
    ∙ enough w (k + w) w xs (omega arith) (omega arith)

-- a front, and what comes behind it
front_and : (e k : ℕ) (xs : List ℕ) → take (e + k) xs ≡ take e xs ++ take k (drop e xs)
front_and e k xs =
    sym (take-append-drop e (take (e + k) xs))
    ∙ ap (λ (l : List ℕ). l ++ drop e (take (e + k) xs)) (take-take e (e + k) xs (omega arith))
    ∙ ap (λ (l : List ℕ). take e xs ++ l) (drop-take e k xs)

-- a piece of zeros at the end is left out
pub shorter : (e k n : ℕ) (xs : List ℕ) → n ≡ e + k → take k (drop e xs) ≡ replicate k 0 → padded (take n xs) ≡ xs → padded (take e xs) ≡ xs
unfolding padded
shorter e k n xs at zeros is =
    sym (
    ap (λ (m : ℕ). zeroed 4096 (take m xs)) at
    ∙ ap (zeroed 4096) (front_and e k xs ∙ ap (λ (l : List ℕ). take e xs ++ l) zeros)
    ∙ left_out 4096 k (take e xs)
    ) ∙ is

-- the same of a piece that is all zero
pub shorter_by_piece : (e m n : ℕ) (xs : List ℕ) → n ≡ e + 64 → m ≡ 64 → n ≤ length xs
    → take m (drop e xs) ≡ replicate (length (take m (drop e xs))) 0 → padded (take n xs) ≡ xs → padded (take e xs) ≡ xs
shorter_by_piece e m n xs at count within zeros is =
    let counted : length (take m (drop e xs)) ≡ 64 = omega (arith, length-take m (drop e xs), length-drop e xs) in
    let all : take m (drop e xs) ≡ replicate 64 0 = zeros ∙ ap (λ (k : ℕ). replicate k 0) counted in
    shorter e 64 n xs at (ap (λ (k : ℕ). take k (drop e xs)) (sym count) ∙ all) is

-- a zero at the end is left out
pub shorter_by_one : (e n : ℕ) (xs : List ℕ) → n ≡ e + 1 → n ≤ length xs → get_or xs e 0 ≡ 0 → padded (take n xs) ≡ xs
    → padded (take e xs) ≡ xs
shorter_by_one e n xs at within zero_there is =
    let here : drop e xs ≡ get_or xs e 0 ∷ drop (e + 1) xs = drop_more xs e 0 (omega arith) in
    shorter e 1 n xs at (ap (take 1) here ∙ ap (λ (x : ℕ). x ∷ []) zero_there) is

-- all of them
pub whole : (xs : List ℕ) → length xs ≡ 4096 → padded (take 4096 xs) ≡ xs
unfolding padded
whole xs count = ap (zeroed 4096) (take_all 4096 xs (omega arith)) ∙ take_at xs (replicate 4096 0) 4096 count

filled : (w m : ℕ) (xs : List ℕ) → w ≤ m → take w xs ++ replicate (w - length xs) 0 ≡ take w (xs ++ replicate m 0)
filled zero m [] fits = refl
filled (suc w) m [] fits = let all : suc w - 0 ≡ suc w = omega arith in
    rw all (sym (take-replicate (suc w) m 0 fits))
filled zero m (x ∷ xs) fits = let none : 0 - length (x ∷ xs) ≡ 0 = omega arith in rw none refl
filled (suc w) m (x ∷ xs) fits =
    let same : suc w - length (x ∷ xs) ≡ w - length xs = omega arith in
    rw same (ap (λ (l : List ℕ). x ∷ l) (filled w m xs (omega arith)))

front_and_zeros : (w n : ℕ) (xs : List ℕ) → n ≡ min (length xs) w → take n xs ++ drop n (replicate w 0) ≡ take w (xs ++ replicate w 0)
front_and_zeros w n xs at =
    let least : n ≡ min w (length xs) = omega arith in
    let left : w - n ≡ w - length xs = omega arith in
    ap (λ (l : List ℕ). take n xs ++ l) (drop-replicate n w 0 ∙ ap (λ (m : ℕ). replicate m 0) left)
    ∙ ap (λ (l : List ℕ). l ++ replicate (w - length xs) 0) (ap (λ (m : ℕ). take m xs) least ∙ take_min w xs)
    ∙ filled w w xs (omega arith)

-- the bytes in front, and zeros behind them
pub front_filled : (n : ℕ) (xs : List ℕ) → n ≡ min (length xs) 4096 → take n xs ++ drop n (replicate 4096 0) ≡ padded xs
unfolding padded
front_filled n xs at = front_and_zeros 4096 n xs at
