-- How many zones more a row of places needs.
use Rattle.std.proofs.Common.{◌≡◌, ◌<◌, ◌≤◌, ◌+◌, ◌*◌, ◌-◌, ◌/◌, ◌%◌, ℕ, zero, suc, Bool, true, false, refl, sym, ap, subst, ◌∙◌, arith}
use mathlib.Core.Logic.{inl, inr}
use Rattle.std.specs.Prelude.{◌==◌, ◌&&◌, ◌||◌, not, nat_le, nat_lt}
use Rattle.std.proofs.lemmas.Bool.{cases_eq, cases_lt, cases_Bool, and_from, and_parts, or_cases, eq-eqb, ne_eqb, lt-ltb, le-ltb, le-leb, lt-leb, leb-true, ltb-true, both_ways, not_from_false}
use Rattle.std.proofs.lemmas.Nat.{div-add-mod', mul-add-lt}
use Rattle.std.proofs.Math.Nat.{mul_comm, mod-lt}
use Rattle.lemmas.proofs.Numbers.{not_zero}
use Rattle.zone.proofs.Filling.{above_place}
use Rattle.layout.specs.declared.Geometry.{Geometry}
use Rattle.lemmas.specs.Sums.{put, count_below, sum_below, one_if}
use Rattle.tree.specs.ZonesNeeded.{zones_needed}
use Rattle.tree.specs.Space.{numbers_in_zone}
use Rattle.lemmas.proofs.Maps.{put-same, put-other}
use Rattle.volume.specs.declared.Inode.{Inode}
use Rattle.volume.specs.Pieces.{Pieces}
use Rattle.volume.specs.Nodes.{word, number}
use Rattle.volume.specs.Places.{zone_at}
use Rattle.volume.proofs.Sums.{some_from, some_witness, same_some, none_from}
use Rattle.volume.proofs.Bridge.{limit_at}
use Rattle.zone.specs.ZoneSteps.{first_places}
use Rattle.zone.specs.Missing.{group, needed_from}
use Rattle.zone.proofs.Missing.{count_put, needed_all}
use Rattle.zone.specs.Pages.{child_at, place_count}
use Rattle.zone.specs.CutFiles.{IsFull}
use Rattle.file.specs.Need.{or_from, is_taken, holes, NeedsAt, NeedsMore}
use Rattle.zone.proofs.Last.{child_zone}

-- two tests that imply each other
same_test : (a b : Bool) → (a ≡ true → b ≡ true) → (b ≡ true → a ≡ true) → a ≡ b
same_test true b f h = sym (f refl)
same_test false true f h = h refl
same_test false false f h = refl

or_true : (a b : Bool) → b ≡ true → a || b ≡ true
or_true true b h = refl
or_true false b h = h

or_left : (a b : Bool) → a ≡ true → a || b ≡ true
or_left true b h = refl
or_left false b h = absurd (Rattle.std.proofs.lemmas.Bool.false≢true h)

or_none : (a b : Bool) → b ≡ false → a || b ≡ a
or_none true b h = refl
or_none false b h = h

-- between two numbers
between : (a k b : ℕ) → a ≤ k → k < b → (nat_le a k && nat_lt k b) ≡ true
between a k b low high = and_from (nat_le a k) (nat_lt k b) (le-leb a k low) (lt-ltb k b high)

outside : (a k b : ℕ) → (a ≤ k → k < b → ⊥) → (nat_le a k && nat_lt k b) ≡ false
outside a k b out = elim (cases_lt k a) [
  | inl less ↦ ap (λ x. x && nat_lt k b) (lt-leb a k less)
  | inr more ↦ elim (cases_lt k b) [ inl low ↦ absurd (out more low) | inr high ↦ by (nat_le a k) (nat_lt k b) (le-ltb k b high) ]
]
  where
    by : (x y : Bool) → y ≡ false → (x && y) ≡ false
    by true y h = h
    by false y h = refl

inside : (a k b : ℕ) → (nat_le a k && nat_lt k b) ≡ true → (a ≤ k) × (k < b)
inside a k b h = let p = and_parts (nat_le a k) (nat_lt k b) h in (leb-true a k p.0, ltb-true k b p.1)

-- one number more
or_next : (f : ℕ → Bool) (a m k : ℕ) → or_from f a (a + suc m) k ≡ put (or_from f a (a + m)) (a + m) true k
or_next f a m k = elim (cases_eq k (a + m)) [
  | inl e ↦ or_true (f k) (nat_le a k && nat_lt k (a + suc m)) (between a k (a + suc m) (omega arith) (omega arith))
      ∙ sym (ap (put (or_from f a (a + m)) (a + m) true) e ∙ put-same (or_from f a (a + m)) (a + m) true)
  | inr d ↦ ap (λ x. f k || x) (same_test (nat_le a k && nat_lt k (a + suc m)) (nat_le a k && nat_lt k (a + m))
      (λ h. let p = inside a k (a + suc m) h in between a k (a + m) p.0 (omega (arith, p.1, d)))
      (λ h. let p = inside a k (a + m) h in between a k (a + suc m) p.0 (omega (arith, p.1))))
      ∙ sym (put-other (or_from f a (a + m)) (a + m) true k d)
]

-- the numbers that are counted beside
count_from : (f : ℕ → Bool) (a m d : ℕ) → a + m ≤ d → count_below (or_from f a (a + m)) d ≡ count_below f d + count_below (λ k. not (f (a + k))) m
unfolding sum_below
count_from f a zero d low =
    let e : count_below (or_from f a (a + zero)) d ≡ count_below f d = ap (λ (h : ℕ → Bool). count_below h d)
    (λ i k. or_none (f k) (nat_le a k && nat_lt k (a + zero)) (outside a k (a + zero) (λ p q. absurd (omega arith))) i) in
    omega arith
count_from f a (suc m) d low =
    let front = count_from f a m d (omega arith) in
    let next : count_below (or_from f a (a + suc m)) d ≡ count_below (put (or_from f a (a + m)) (a + m) true) d = ap (λ (h : ℕ → Bool). count_below h d) (λ i k. or_next f a m k i) in
    let one = count_put (or_from f a (a + m)) (a + m) d (omega arith) in
    let here : or_from f a (a + m) (a + m) ≡ f (a + m) = or_none (f (a + m)) (nat_le a (a + m) && nat_lt (a + m) (a + m)) (outside a (a + m) (a + m) (λ p q. absurd (omega arith))) in
    let last : one_if (not (or_from f a (a + m) (a + m))) ≡ one_if (not (f (a + m))) = ap (λ b. one_if (not b)) here in
    omega arith

pub count_row : (f : ℕ → Bool) (a b d : ℕ) → a ≤ b → b ≤ d → count_below (or_from f a b) d ≡ count_below f d + count_below (λ k. not (f (a + k))) (b - a)
count_row f a b d low high = subst (λ x. count_below (or_from f a x) d ≡ count_below f d + count_below (λ k. not (f (a + k))) (b - a)) (let e : a + (b - a) ≡ b = omega arith in e)
    (count_from f a (b - a) d (omega arith))

module _ (g : Geometry) (sized : 0 < numbers_in_zone g) (l : ℕ) (f : ℕ → Bool) (a b : ℕ) where
  -- a row of places in the inode has no block over it
  pub group_near : b ≤ first_places l → (i : ℕ) → group g l (or_from f a b) i ≡ group g l f i
  group_near low i = same_some _ _ (numbers_in_zone g) (λ j h. or_none (f (child_at g l i j)) (nat_le a (child_at g l i j) && nat_lt (child_at g l i j) b)
      (outside a (child_at g l i j) b (λ p q. absurd (omega arith))))

  -- over the others stands a row of blocks
  module _ (order : a < b) (far : first_places l < b) where
    abbrev low : ℕ
    low = (a - first_places l) / numbers_in_zone g

    abbrev high : ℕ
    high = (b - 1 - first_places l) / numbers_in_zone g

    -- a place of the row stands below a block of the row of blocks
    below : (i j : ℕ) → j < numbers_in_zone g → a ≤ child_at g l i j → child_at g l i j < b → (low ≤ i) × (i < high + 1)
    below i j h from to =
        let w = numbers_in_zone g in
        let x = div-add-mod' (a - first_places l) w in
        let y = div-add-mod' (b - 1 - first_places l) w in
        let ym : (b - 1 - first_places l) % w < w = omega arith in (
          elim (cases_lt i low) [
            | inl less ↦ let t = mul-add-lt i w j low less h in let c = mul_comm w low in absurd (omega (arith, t, c, x, from))
            | inr more ↦ more
          ],
          elim (cases_lt i (high + 1)) [
            | inl less ↦ less
            | inr more ↦ let t = mul-add-lt high w ((b - 1 - first_places l) % w) i (omega (arith, more)) ym in let c = mul_comm w i in absurd (omega (arith, t, c, y, to))
          ],
        )

    -- and each block of that row has one below it
    over : (i : ℕ) → low ≤ i → i < high + 1 → (j : ℕ) × (j < numbers_in_zone g) × (a ≤ child_at g l i j) × (child_at g l i j < b)
    over i from to =
        let w = numbers_in_zone g in
        let x = div-add-mod' (a - first_places l) w in
        let xm : (a - first_places l) % w < w = omega arith in
        let y = div-add-mod' (b - 1 - first_places l) w in
        elim (cases_eq i low) [
          | inl e ↦
              let q : i * w ≡ low * w = ap (λ z. z * w) e in
              ((a - first_places l) % w, xm, omega (arith, q, x), omega (arith, q, x, order, far))
          | inr d ↦
              let t = mul-add-lt low w ((a - first_places l) % w) i (omega (arith, from, d)) xm in
              let c = mul_comm w i in
              let u : i * w ≤ high * w = elim (cases_eq i high) [
                | inl e ↦ (let q : i * w ≡ high * w = ap (λ z. z * w) e in omega (arith, q))
                | inr o ↦ (let s = mul-add-lt i w 0 high (omega (arith, to, o)) sized in let k = mul_comm w high in omega (arith, s, k))
              ] in
              (0, sized, omega (arith, t, c, x), omega (arith, u, y, far))
        ]

    pub group_far : (i : ℕ) → group g l (or_from f a b) i ≡ or_from (group g l f) low (high + 1) i
    group_far i = same_test (group g l (or_from f a b) i) (or_from (group g l f) low (high + 1) i) there back
      where
        there : group g l (or_from f a b) i ≡ true → or_from (group g l f) low (high + 1) i ≡ true
        there h =
            let x = some_witness (λ j. or_from f a b (child_at g l i j)) (numbers_in_zone g) h in
            elim (or_cases (f (child_at g l i x.0)) (nat_le a (child_at g l i x.0) && nat_lt (child_at g l i x.0) b) x.2) [
              | inl was ↦ or_left (group g l f i) _ (some_from (λ j. f (child_at g l i j)) (numbers_in_zone g) x.0 x.1 was)
              | inr new ↦
                  let p = inside a (child_at g l i x.0) b new in
                  let q = below i x.0 x.1 p.0 p.1 in
                  or_true (group g l f i) _ (between low i (high + 1) q.0 q.1)
            ]

        back : or_from (group g l f) low (high + 1) i ≡ true → group g l (or_from f a b) i ≡ true
        back h = elim (or_cases (group g l f i) (nat_le low i && nat_lt i (high + 1)) h) [
          | inl was ↦
              let x = some_witness (λ j. f (child_at g l i j)) (numbers_in_zone g) was in
              some_from (λ j. or_from f a b (child_at g l i j)) (numbers_in_zone g) x.0 x.1 (or_left (f (child_at g l i x.0)) _ x.2)
          | inr new ↦
              let p = inside low i (high + 1) new in
              let x = over i p.0 p.1 in
              some_from (λ j. or_from f a b (child_at g l i j)) (numbers_in_zone g) x.0 x.1 (or_true (f (child_at g l i x.0)) _ (between a (child_at g l i x.0) b x.2 x.3))
        ]

module _ (g : Geometry) (sized : 0 < numbers_in_zone g) (v : Pieces) (i : Inode) (full : IsFull g v i) where
  -- a block stands where one of its places has a zone
  level_taken : (l k : ℕ) → l < 3 → group g l (is_taken g v i l) k ≡ is_taken g v i (suc l) k
  level_taken l k low = elim (cases_eq (zone_at g v i (suc l) k) 0) [
    | inl e ↦ none_from _ (numbers_in_zone g) (λ j h. ap not (eq-eqb (zone_at g v i l (child_at g l k j)) 0 (child_zone g sized v i l k j low h ∙ ap (λ z. number v z j) e)))
        ∙ sym (ap not (eq-eqb _ 0 e))
    | inr d ↦
        let y = zone_at g v i (suc l) k in
        let x = some_witness (λ j. not (word v y j == 0)) (numbers_in_zone g) (full l k d) in
        some_from (λ j. is_taken g v i l (child_at g l k j)) (numbers_in_zone g) x.0 x.1
        (not_from_false _ (ne_eqb _ 0 (λ o. not_zero (word v y x.0) x.2
        (sym (Rattle.std.proofs.lemmas.Bool.cond-false (y == 0) 0 (word v y x.0) (ne_eqb y 0 d)) ∙ sym (child_zone g sized v i l k x.0 low x.1) ∙ o))))
        ∙ sym (not_from_false _ (ne_eqb _ 0 d))
  ]

-- how many places each level has
limits : (w : ℕ) → (limit_at w 3 ≡ 7 + w + w * w + w * w * w) × (limit_at w 2 ≡ 1 + w + w * w) × (limit_at w 1 ≡ 1 + w) × (limit_at w 0 ≡ 1)
unfolding limit_at
limits w = (grind arith, grind arith, omega arith, refl)

-- one level more of the needed zones
needed_next : (g : Geometry) (t l : ℕ) (f : ℕ → Bool) → needed_from g (suc t) l f ≡ count_below f (limit_at (numbers_in_zone g) t) + needed_from g t (suc l) (group g l f)
unfolding needed_from
needed_next g t l f = refl

needed_none : (g : Geometry) (l : ℕ) (f : ℕ → Bool) → needed_from g 0 l f ≡ 0
unfolding needed_from
needed_none g l f = refl

module _ (g : Geometry) (sized : 0 < numbers_in_zone g) (v : Pieces) (i : Inode) (a b x y : ℕ) (order : a < b) where
  abbrev taken : ℕ → ℕ → Bool
  taken = is_taken g v i

  -- what is needed at one level, and above it
  at_level : (t l : ℕ) → t + l ≡ 3 → b ≤ limit_at (numbers_in_zone g) t → x ≡ holes g v i l a b
      → needed_from g t (suc l) (group g l (or_from (taken l) a b)) ≡ needed_from g t (suc l) (group g l (taken l)) + y
      → needed_from g (suc t) l (or_from (taken l) a b) ≡ needed_from g (suc t) l (taken l) + (x + y)
  at_level t l e low is up =
      let c = count_row (taken l) a b (limit_at (numbers_in_zone g) t) (omega arith) low in
      let p = needed_next g t l (or_from (taken l) a b) in
      let q = needed_next g t l (taken l) in
      omega (arith, c, p, q, is, up)

-- where the row stands in the inode
near_level : (g : Geometry) (sized : 0 < numbers_in_zone g) (v : Pieces) (i : Inode) (a b x : ℕ) → a < b → (t l : ℕ) → t + l ≡ 3 → b ≤ limit_at (numbers_in_zone g) t → b ≤ first_places l
    → x ≡ holes g v i l a b → needed_from g (suc t) l (or_from (is_taken g v i l) a b) ≡ needed_from g (suc t) l (is_taken g v i l) + x
near_level g sized v i a b x order t l e low near is =
    let up : needed_from g t (suc l) (group g l (or_from (is_taken g v i l) a b)) ≡ needed_from g t (suc l) (group g l (is_taken g v i l)) + 0 =
    ap (needed_from g t (suc l)) (λ z k. group_near g sized l (is_taken g v i l) a b near k z) ∙ omega arith in
    let r = at_level g sized v i a b x 0 order t l e low is up in
    omega (arith, r)

-- where it stands in blocks
far_level : (g : Geometry) (sized : 0 < numbers_in_zone g) (v : Pieces) (i : Inode) (full : IsFull g v i) (a b x y : ℕ) (order : a < b) (t l : ℕ) → t + l ≡ 3 → l < 3 → b ≤ limit_at (numbers_in_zone g) t
    → (far : first_places l < b) → x ≡ holes g v i l a b
    → needed_from g t (suc l) (or_from (is_taken g v i (suc l)) (low g sized l (is_taken g v i l) a b order far) (high g sized l (is_taken g v i l) a b order far + 1)) ≡ needed_from g t (suc l) (is_taken g v i (suc l)) + y
    → needed_from g (suc t) l (or_from (is_taken g v i l) a b) ≡ needed_from g (suc t) l (is_taken g v i l) + (x + y)
far_level g sized v i full a b x y order t l e deep under far is h =
    let same : group g l (is_taken g v i l) ≡ is_taken g v i (suc l) = λ z k. level_taken g sized v i full l k deep z in
    let rows : group g l (or_from (is_taken g v i l) a b) ≡ or_from (is_taken g v i (suc l)) ((a - first_places l) / numbers_in_zone g) ((b - 1 - first_places l) / numbers_in_zone g + 1) =
    (λ z k. group_far g sized l (is_taken g v i l) a b order far k z) ∙ ap (λ (f : ℕ → Bool). or_from f ((a - first_places l) / numbers_in_zone g) ((b - 1 - first_places l) / numbers_in_zone g + 1)) same in
    at_level g sized v i a b x y order t l e under is (ap (needed_from g t (suc l)) rows ∙ h ∙ ap (λ (f : ℕ → Bool). needed_from g t (suc l) f + y) (sym same))

-- the same as the code comes to it
pub need_near : (g : Geometry) (v : Pieces) (i : Inode) (l a b f x : ℕ) → 0 < numbers_in_zone g → l < 4 → a < b → b ≤ place_count g l → f ≡ first_places l → b ≤ f → x ≡ holes g v i l a b → NeedsAt g v i l a b x
need_near g v i zero a b f x sized low order under first near is full =
    let w = limits (numbers_in_zone g) in near_level g sized v i a b x order 3 0 (omega arith) (omega (arith, w.0)) (omega arith) is
need_near g v i (suc zero) a b f x sized low order under first near is full =
    let w = limits (numbers_in_zone g) in near_level g sized v i a b x order 2 1 (omega arith) (omega (arith, w.1)) (omega arith) is
need_near g v i (suc (suc zero)) a b f x sized low order under first near is full =
    let w = limits (numbers_in_zone g) in near_level g sized v i a b x order 1 2 (omega arith) (omega (arith, w.2)) (omega arith) is
need_near g v i (suc (suc (suc zero))) a b f x sized low order under first near is full =
    let w = limits (numbers_in_zone g) in near_level g sized v i a b x order 0 3 (omega arith) (omega (arith, w.3)) (omega arith) is
need_near g v i (suc (suc (suc (suc l)))) a b f x sized low order under first near is full = absurd (omega arith)

pub need_far : (g : Geometry) (v : Pieces) (i : Inode) (l a b f w x y : ℕ) → 0 < numbers_in_zone g → l < 3 → a < b → b ≤ place_count g l → f ≡ first_places l → w ≡ numbers_in_zone g → f < b
    → x ≡ holes g v i l a b → NeedsAt g v i (l + 1) ((a - f) / w) ((b - 1 - f) / w + 1) y → NeedsAt g v i l a b (x + y)
need_far g v i zero a b f w x y sized low order under first wide far is h full =
    let k = limits (numbers_in_zone g) in
    far_level g sized v i full a b x y order 3 0 (omega arith) low (omega (arith, k.0)) (omega arith) is
    (subst (λ (z : ℕ × ℕ). NeedsAt g v i 1 ((a - z.0) / z.1) ((b - 1 - z.0) / z.1 + 1) y) (λ t. (first t, wide t)) h full)
need_far g v i (suc zero) a b f w x y sized low order under first wide far is h full =
    let k = limits (numbers_in_zone g) in
    far_level g sized v i full a b x y order 2 1 (omega arith) low (omega (arith, k.1)) (omega arith) is
    (subst (λ (z : ℕ × ℕ). NeedsAt g v i 2 ((a - z.0) / z.1) ((b - 1 - z.0) / z.1 + 1) y) (λ t. (first t, wide t)) h full)
need_far g v i (suc (suc zero)) a b f w x y sized low order under first wide far is h full =
    let k = limits (numbers_in_zone g) in
    far_level g sized v i full a b x y order 1 2 (omega arith) low (omega (arith, k.2)) (omega arith) is
    (subst (λ (z : ℕ × ℕ). NeedsAt g v i 3 ((a - z.0) / z.1) ((b - 1 - z.0) / z.1 + 1) y) (λ t. (first t, wide t)) h full)
need_far g v i (suc (suc (suc l))) a b f w x y sized low order under first wide far is h full = absurd (omega arith)

-- the same where the row's start was found before
pub need_up : (g : Geometry) (v : Pieces) (i : Inode) (l a b f w p x y : ℕ) → 0 < numbers_in_zone g → l < 3 → a < b → b ≤ place_count g l → f ≡ first_places l → w ≡ numbers_in_zone g → f < b
    → p ≡ a - f → x ≡ holes g v i l a b → NeedsAt g v i (l + 1) (p / w) ((b - 1 - f) / w + 1) y → NeedsAt g v i l a b (x + y)
need_up g v i l a b f w p x y sized low order under first wide far at is h =
    need_far g v i l a b f w x y sized low order under first wide far is (subst (λ (z : ℕ). NeedsAt g v i (l + 1) (z / w) ((b - 1 - f) / w + 1) y) at h)

-- a product is no less than its factor
le_times : (n w : ℕ) → 0 < w → n ≤ n * w
le_times zero w h = omega arith
le_times (suc n) w h = let front = le_times n w h in let e : suc n * w ≡ n * w + w = omega arith in omega (arith, front, e)

-- the row of blocks lies within its level
pub row_above : (g : Geometry) (l a b f w : ℕ) → 0 < numbers_in_zone g → l < 3 → a < b → b ≤ place_count g l → f ≡ first_places l → w ≡ numbers_in_zone g → f < b
    → ((a - f) / w < (b - 1 - f) / w + 1) × ((b - 1 - f) / w + 1 ≤ place_count g (l + 1)) × ((b - 1 - f) / w + 1 - (a - f) / w ≤ b - a)
row_above g l a b f w sized low order under first wide far =
    let some : 0 < w = omega (arith, wide, sized) in
    let p : ℕ = (a - f) / w in
    let q : ℕ = (b - 1 - f) / w in
    let x = div-add-mod' (a - f) w in
    let y = div-add-mod' (b - 1 - f) w in
    let xm : (a - f) % w < w = mod-lt (a - f) some in
    let ym : (b - 1 - f) % w < w = mod-lt (b - 1 - f) some in
    let up : p < q + 1 = elim (cases_lt q p) [
      | inl less ↦ let t = mul-add-lt q w ((b - 1 - f) % w) p less ym in let c = mul_comm w p in absurd (omega (arith, t, c, x, y, order, far))
      | inr more ↦ (let m : p ≤ q = more in omega (arith, m))
    ] in (
      up,
      subst (λ (z : ℕ). z + 1 ≤ place_count g (l + 1)) (sym (λ t. (b - 1 - first t) / wide t))
          (let z = above_place g l (b - 1) sized low (omega (arith, first, far)) (omega (arith, under, order)) in
          let n : place_count g (l + 1) ≡ place_count g (suc l) = ap (place_count g) (let e : l + 1 ≡ suc l = omega arith in e) in omega (arith, z, n)),
      elim (cases_lt p q) [
        | inr same ↦ omega (arith, same, order)
        | inl less ↦
            let n : ℕ = q - p - 1 in
            let e : q ≡ p + 1 + n = omega (arith, less) in
            let m : q * w ≡ p * w + w + n * w = ap (λ z. z * w) e ∙ omega arith in
            let t = le_times n w some in
            omega (arith, m, t, x, y, xm, e, order, far)
      ],
    )

-- all levels
pub need_whole : (g : Geometry) (v : Pieces) (i : Inode) (a b x : ℕ) → NeedsAt g v i 0 a b x → NeedsMore g v i a b x
need_whole g v i a b x h full = needed_all g (or_from (is_taken g v i 0) a b) ∙ h full ∙ ap (λ n. n + x) (sym (needed_all g (is_taken g v i 0)))

-- none
pub need_none : (g : Geometry) (v : Pieces) (i : Inode) (a b : ℕ) → b ≤ a → NeedsMore g v i a b 0
need_none g v i a b h full =
    ap (zones_needed (numbers_in_zone g)) (λ z k. or_none (is_taken g v i 0 k) (nat_le a k && nat_lt k b) (outside a k b (λ p q. absurd (omega arith))) z) ∙ omega arith

-- no place is a hole of no places, and one more is one
pub holes_none : (g : Geometry) (v : Pieces) (i : Inode) (l a : ℕ) → 0 ≡ holes g v i l a a
unfolding sum_below
holes_none g v i l a = sym (ap (λ n. count_below (λ k. not (is_taken g v i l (a + k))) n) (let e : a - a ≡ 0 = omega arith in e))

pub holes_more : (g : Geometry) (v : Pieces) (i : Inode) (l a k : ℕ) → a ≤ k → holes g v i l a (k + 1) ≡ holes g v i l a k + one_if (zone_at g v i l k == 0)
unfolding sum_below
holes_more g v i l a k h =
    ap (λ n. count_below (λ j. not (is_taken g v i l (a + j))) n) (let e : k + 1 - a ≡ suc (k - a) = omega arith in e)
    ∙ ap (λ z. holes g v i l a k + one_if (not (is_taken g v i l z))) (let e : a + (k - a) ≡ k = omega arith in e)
    ∙ ap (λ b. holes g v i l a k + one_if b) (twice (zone_at g v i l k == 0))
  where
    twice : (b : Bool) → not (not b) ≡ b
    twice true = refl
    twice false = refl
