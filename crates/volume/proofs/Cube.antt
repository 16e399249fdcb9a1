-- A count over three numbers: when it is at most one.
use Rattle.std.proofs.Common.{◌≡◌, ◌<◌, ◌≤◌, ℕ, Bool, true, ap, ◌∙◌, arith}
use Rattle.lemmas.specs.Sums.{sum_below, count_below, one_if}
use Rattle.volume.proofs.Sums.{one_most, one_true, true_one, sum_at, sum_some, sum_same, sum_single}

-- the sum over three numbers of a test
abbrev pub cube : (ℕ → ℕ → ℕ → Bool) → ℕ → (ℕ → ℕ) → (ℕ → ℕ) → ℕ
cube p a b c = sum_below (λ k. sum_below (λ y. count_below (p k y) (c k)) (b k)) a

-- a point of it
pub record Point (p : ℕ → ℕ → ℕ → Bool) (a : ℕ) (b c : ℕ → ℕ) : Type 0 where
  pub k : ℕ
  pub y : ℕ
  pub j : ℕ
  pub in_k : k < a
  pub in_y : y < b k
  pub in_j : j < c k
  pub is : p k y j ≡ true

-- a point is counted
pub cube_at : (p : ℕ → ℕ → ℕ → Bool) (a : ℕ) (b c : ℕ → ℕ) → Point p a b c → 0 < cube p a b c
cube_at p a b c s =
    let one = one_true (p s.k s.y s.j) s.is in
    let line : one_if (p s.k s.y s.j) ≤ count_below (p s.k s.y) (c s.k) = sum_at (λ j. one_if (p s.k s.y j)) (c s.k) s.j s.in_j in
    let face : count_below (p s.k s.y) (c s.k) ≤ sum_below (λ y. count_below (p s.k y) (c s.k)) (b s.k) = sum_at (λ y. count_below (p s.k y) (c s.k)) (b s.k) s.y s.in_y in
    let whole : sum_below (λ y. count_below (p s.k y) (c s.k)) (b s.k) ≤ cube p a b c = sum_at (λ k. sum_below (λ y. count_below (p k y) (c k)) (b k)) a s.k s.in_k in
    omega arith

-- a count that isn't 0 has a point
pub cube_some : (p : ℕ → ℕ → ℕ → Bool) (a : ℕ) (b c : ℕ → ℕ) → 0 < cube p a b c → Point p a b c
cube_some p a b c h =
    let k = sum_some (λ k. sum_below (λ y. count_below (p k y) (c k)) (b k)) a h in
    let y = sum_some (λ y. count_below (p k.0 y) (c k.0)) (b k.0) k.2 in
    let j = sum_some (λ j. one_if (p k.0 y.0 j)) (c k.0) y.2 in
    record { k = k.0; y = y.0; j = j.0; in_k = k.1; in_y = y.1; in_j = j.1; is = true_one (p k.0 y.0 j.0) j.2 }

module _ (p : ℕ → ℕ → ℕ → Bool) (a : ℕ) (b c : ℕ → ℕ) where
  -- the line of a point counts it
  line_at : (s : Point p a b c) → 0 < count_below (p s.k s.y) (c s.k)
  line_at s =
      let one = one_true (p s.k s.y s.j) s.is in
      let line : one_if (p s.k s.y s.j) ≤ count_below (p s.k s.y) (c s.k) = sum_at (λ j. one_if (p s.k s.y j)) (c s.k) s.j s.in_j in
      omega arith

  -- the face of a point counts it
  face_at : (s : Point p a b c) → 0 < sum_below (λ y. count_below (p s.k y) (c s.k)) (b s.k)
  face_at s =
      let line = line_at s in
      let face : count_below (p s.k s.y) (c s.k) ≤ sum_below (λ y. count_below (p s.k y) (c s.k)) (b s.k) = sum_at (λ y. count_below (p s.k y) (c s.k)) (b s.k) s.y s.in_y in
      omega arith

  -- two points of a face of a count of at most one are one
  same_line : cube p a b c ≤ 1 → (k y y' j j' : ℕ) → k < a → y < b k → y' < b k → j < c k → j' < c k → p k y j ≡ true → p k y' j' ≡ true → (y ≡ y') × (j ≡ j')
  same_line most k y y' j j' hk hy hy' hj hj' is is' =
      let f : ℕ → ℕ = λ x. count_below (p k x) (c k) in
      let all : sum_below f (b k) ≤ cube p a b c = sum_at (λ k. sum_below (λ y. count_below (p k y) (c k)) (b k)) a k hk in
      let one : 0 < f y = line_at (record { k = k; y = y; j = j; in_k = hk; in_y = hy; in_j = hj; is = is }) in
      let two : 0 < f y' = line_at (record { k = k; y = y'; j = j'; in_k = hk; in_y = hy'; in_j = hj'; is = is' }) in
      let e : y ≡ y' = sum_same f (b k) y y' (omega arith) hy hy' one two in
      let here : f y ≤ sum_below f (b k) = sum_at f (b k) y hy in
      let there : p k y j' ≡ true = ap (λ x. p k x j') e ∙ is' in
      let o = one_true (p k y j) is in
      let t = one_true (p k y j') there in
      (e, sum_same (λ x. one_if (p k y x)) (c k) j j' (omega arith) hj hj' (omega arith) (omega arith))

  -- two points of a count of at most one are one
  pub cube_same : cube p a b c ≤ 1 → (s t : Point p a b c) → (s.k ≡ t.k) × (s.y ≡ t.y) × (s.j ≡ t.j)
  cube_same most s t =
      let f : ℕ → ℕ = λ k. sum_below (λ y. count_below (p k y) (c k)) (b k) in
      let e : s.k ≡ t.k = sum_same f a s.k t.k most s.in_k t.in_k (face_at s) (face_at t) in
      let r = same_line most s.k s.y t.y s.j t.j s.in_k s.in_y (omega (arith, ap b e, t.in_y)) s.in_j (omega (arith, ap c e, t.in_j)) s.is (ap (λ k. p k t.y t.j) e ∙ t.is) in
      (e, r.0, r.1)

  -- a point of a face that counts one
  abbrev on_face : (k : ℕ) → k < a → 0 < sum_below (λ y. count_below (p k y) (c k)) (b k) → Point p a b c
  on_face k hk is =
      let y = sum_some (λ y. count_below (p k y) (c k)) (b k) is in
      let j = sum_some (λ j. one_if (p k y.0 j)) (c k) y.2 in
      record { k = k; y = y.0; j = j.0; in_k = hk; in_y = y.1; in_j = j.1; is = true_one (p k y.0 j.0) j.2 }

  -- a point by its numbers
  abbrev point : (k y j : ℕ) → k < a → y < b k → j < c k → p k y j ≡ true → Point p a b c
  point k y j hk hy hj is = record { k = k; y = y; j = j; in_k = hk; in_y = hy; in_j = hj; is = is }

  -- where all points are one the count is at most one
  pub cube_single : ((s t : Point p a b c) → (s.k ≡ t.k) × (s.y ≡ t.y) × (s.j ≡ t.j)) → cube p a b c ≤ 1
  cube_single same =
      sum_single (λ k. sum_below (λ y. count_below (p k y) (c k)) (b k)) a
      (λ k hk. sum_single (λ y. count_below (p k y) (c k)) (b k)
      (λ y hy. sum_single (λ j. one_if (p k y j)) (c k) (λ j _. one_most (p k y j))
      (λ j j' hj hj' is is'. (same (point k y j hk hy hj (true_one _ is)) (point k y j' hk hy hj' (true_one _ is'))).2))
      (λ y y' hy hy' is is'.
      let w = sum_some (λ j. one_if (p k y j)) (c k) is in
      let x = sum_some (λ j. one_if (p k y' j)) (c k) is' in
      (same (point k y w.0 hk hy w.1 (true_one _ w.2)) (point k y' x.0 hk hy' x.1 (true_one _ x.2))).1))
      (λ k k' hk hk' is is'. (same (on_face k hk is) (on_face k' hk' is')).0)
