-- One page more takes the zones that are missing on its way.
use Rattle.std.proofs.Common.{◌≡◌, ◌≢◌, ◌⊎◌, ◌<◌, ◌≤◌, ◌+◌, ◌*◌, ◌-◌, ◌/◌, ◌%◌, ℕ, zero, suc, Bool, true, false, refl, sym, ap, ◌∙◌, cond, arith}
use mathlib.Core.Logic.{inl, inr}
use Rattle.std.specs.Prelude.{not, ◌==◌, nat_lt, IsTrue}
use Rattle.std.proofs.lemmas.Bool.{cases_eq, cases_lt, cases_Bool, cond-true, cond-false, eq-eqb, ne_eqb, lt-ltb, le-ltb, not_from_false}
use Rattle.std.proofs.lemmas.Nat.{div-add-mod', div_below, div-mul-add}
use Rattle.layout.specs.declared.Geometry.{Geometry}
use Rattle.layout.specs.Places.{IsGeometry}
use Rattle.lemmas.specs.Sums.{put, one_if, sum_below, count_below, some_below}
use Rattle.tree.specs.ZonesNeeded.{page_limit, zones_needed}
use Rattle.tree.specs.ZonesNeededByPlace.{last_needed, second_needed, third_needed}
use Rattle.tree.specs.Space.{numbers_in_zone}
use Rattle.lemmas.proofs.Maps.{put-same, put-other, same_sum, sum_put}
use Rattle.tree.proofs.Needs.{zones_needed_is_by_place}
use Rattle.volume.specs.Pieces.{Pieces}
use Rattle.volume.specs.Nodes.{number, is_marked}
use Rattle.volume.specs.Places.{zone_at}
use Rattle.volume.proofs.Naming.{room, spot}
use Rattle.volume.proofs.Spots.{spot_next}
use Rattle.volume.proofs.Sums.{some_from, same_some, none_from}
use Rattle.volume.proofs.Bridge.{naming, zone_spot, limit_at}
use Rattle.volume.proofs.Volumes.{numbers_sized}
use Rattle.zone.specs.ZoneSteps.{first_places, above, beside, IsSoundBut}
use Rattle.zone.specs.Missing.{missing, PageTakesMissing, group, needed_from}
use Rattle.zone.proofs.OnePlaces.{room_first}
use Rattle.zone.proofs.Full.{child, hole_child, some_child, has_child, child_is, child_above}

-- a count, one test changed
pub count_put : (f : ℕ → Bool) (k d : ℕ) → k < d → count_below (put f k true) d ≡ count_below f d + one_if (not (f k))
count_put f k d low =
    let h : ℕ → ℕ = λ i. one_if (f i) in
    let whole = sum_put h k 1 d low in
    let same : count_below (put f k true) d ≡ sum_below (put h k 1) d = same_sum _ _ d (λ i _. elim (cases_eq i k) [
      | inl e ↦ ap one_if (ap (put f k true) e ∙ put-same f k true) ∙ sym (ap (put h k 1) e ∙ put-same h k 1)
      | inr n ↦ ap one_if (put-other f k true i n) ∙ sym (put-other h k 1 i n)
    ]) in
    let split = either (f k) in
    omega arith
  where
    either : (b : Bool) → one_if b + one_if (not b) ≡ 1
    either true = omega arith
    either false = omega arith

-- one place more, in the inode
group_inner : (g : Geometry) (l k : ℕ) (f : ℕ → Bool) → k < first_places l → (i : ℕ) → group g l (put f k true) i ≡ group g l f i
group_inner g l k f low i = same_some _ _ (numbers_in_zone g) (λ j h. put-other f k true (child g l i j) (λ e. absurd (omega arith)))

-- or in a block
group_outer : (g : Geometry) (sized : 0 < numbers_in_zone g) (l k : ℕ) (f : ℕ → Bool) → first_places l ≤ k → (i : ℕ) → group g l (put f k true) i ≡ put (group g l f) (above g l k) true i
group_outer g sized l k f far i = elim (cases_eq i (above g l k)) [
  | inl e ↦
      let within : beside g l k < numbers_in_zone g = omega arith in
      let here : k ≡ child g l i (beside g l k) = child_is g sized l k far ∙ ap (λ x. child g l x (beside g l k)) (sym e) in
      some_from (λ j. put f k true (child g l i j)) (numbers_in_zone g) (beside g l k) within (ap (put f k true) (sym here) ∙ put-same f k true)
      ∙ sym (ap (put (group g l f) (above g l k) true) e ∙ put-same (group g l f) (above g l k) true)
  | inr d ↦
      same_some _ _ (numbers_in_zone g) (λ j h. put-other f k true (child g l i j) (λ e. d (sym ((child_above g sized l i j h).1) ∙ ap (above g l) e)))
      ∙ sym (put-other (group g l f) (above g l k) true i d)
]

-- all levels are the zones needed
pub needed_all : (g : Geometry) (f : ℕ → Bool) → zones_needed (numbers_in_zone g) f ≡ needed_from g 4 0 f
unfolding needed_from limit_at sum_below
needed_all g f =
    let w = numbers_in_zone g in
    let parts = zones_needed_is_by_place w f in
    let a : count_below f (page_limit w) ≡ count_below f (limit_at w 3) = ap (count_below f) (let e : page_limit w ≡ limit_at w 3 = grind arith in e) in
    let b : count_below (last_needed w f) (1 + w + w * w) ≡ count_below (group g 0 f) (limit_at w 2) = ap (count_below (group g 0 f)) (let e : 1 + w + w * w ≡ limit_at w 2 = grind arith in e) in
    let c : count_below (second_needed w f) (1 + w) ≡ count_below (group g 1 (group g 0 f)) (limit_at w 1) = ap (count_below (group g 1 (group g 0 f))) (let e : 1 + w ≡ limit_at w 1 = omega arith in e) in
    let d : third_needed w f ≡ group g 2 (group g 1 (group g 0 f)) 0 = same_some _ _ w (λ j _. ap (group g 1 (group g 0 f)) (let e : 1 + j ≡ 1 + (0 * w + j) = omega arith in e)) in
    let e = ap one_if d in
    omega arith

module _ (g : Geometry) (sized : 0 < numbers_in_zone g) (v : Pieces) (n j : ℕ) (b : IsSoundBut g v n 0 j) (is : IsTrue (is_marked g v n)) where
  -- a zone stands there
  abbrev taken : ℕ → ℕ → Bool
  taken l k = not (zone_at g v (v.inodes n) l k == 0)

  -- a block stands where one of its places is taken
  level_taken : (a i : ℕ) → a < 3 → group g a (taken a) i ≡ taken (suc a) i
  level_taken a i low = elim (cases_eq (zone_at g v (v.inodes n) (suc a) i) 0) [
    | inl e ↦ none_from _ (numbers_in_zone g) (λ c h. ap not (eq-eqb (zone_at g v (v.inodes n) a (child g a i c)) 0 (hole_child g sized v n a i c low h e))) ∙ sym (ap not (eq-eqb _ 0 e))
    | inr d ↦
        let x = some_child g sized v n a i low d (b.full n a i is (λ e. absurd (omega (arith, e.1))) d) in
        some_from (λ c. taken a (child g a i c)) (numbers_in_zone g) x.0 x.1 (not_from_false _ (ne_eqb _ 0 x.2)) ∙ sym (not_from_false _ (ne_eqb _ 0 d))
  ]

  -- twice not
  not_not : (c : Bool) → not (not c) ≡ c
  not_not true = refl
  not_not false = refl

  -- one place more at a level
  more : (h l k : ℕ) → h + l ≡ 3 → k < limit_at (numbers_in_zone g) h → needed_from g (suc h) l (put (taken l) k true) ≡ needed_from g (suc h) l (taken l) + missing g v n (suc h) l k
  unfolding needed_from missing limit_at
  more zero l k e low =
      let here = count_put (taken l) k 1 low in
      let top : l ≡ 3 = omega arith in
      let single : first_places l ≡ 1 = cond-false (l == 0) 7 1 (ne_eqb l 0 (λ z. absurd (omega arith))) in
      let k0 : k < first_places l = omega arith in
      let one = ap one_if (not_not (zone_at g v (v.inodes n) l k == 0)) in
      let rest = cond-true (nat_lt k (first_places l)) 0 (missing g v n zero (suc l) (above g l k)) (lt-ltb k _ k0) in
      omega arith
  more (suc t) l k e low =
      let w = numbers_in_zone g in
      let here = count_put (taken l) k (limit_at w (suc t)) low in
      let one = ap one_if (not_not (zone_at g v (v.inodes n) l k == 0)) in
      let level : l < 3 = omega arith in
      let before : group g l (taken l) ≡ taken (suc l) = λ x i. level_taken l i level x in
      let was : needed_from g (suc t) (suc l) (group g l (taken l)) ≡ needed_from g (suc t) (suc l) (taken (suc l)) = ap (needed_from g (suc t) (suc l)) before in
      elim (cases_lt k (first_places l)) [
        | inl near ↦
            let now : needed_from g (suc t) (suc l) (group g l (put (taken l) k true)) ≡ needed_from g (suc t) (suc l) (taken (suc l)) = ap (needed_from g (suc t) (suc l)) (λ x i. group_inner g l k (taken l) near i x) ∙ was in
            let rest = cond-true (nat_lt k (first_places l)) 0 (missing g v n (suc t) (suc l) (above g l k)) (lt-ltb k _ near) in
            omega arith
        | inr far ↦
            let now : needed_from g (suc t) (suc l) (group g l (put (taken l) k true)) ≡ needed_from g (suc t) (suc l) (put (taken (suc l)) (above g l k) true) =
            ap (needed_from g (suc t) (suc l)) ((λ x i. group_outer g sized l k (taken l) far i x) ∙ (λ x. put (before x) (above g l k) true)) in
            let rest = cond-false (nat_lt k (first_places l)) 0 (missing g v n (suc t) (suc l) (above g l k)) (le-ltb k _ far) in
            let wide = room_first l level in
            let turn : t ≡ 2 - l = omega arith in
            let wide_ : room t ≡ first_places l = ap room turn ∙ wide in
            let up = more t (suc l) (above g l k) (omega arith) (div_below (k - first_places l) w (limit_at w t) sized (omega arith)) in
            omega arith
      ]

pub page_takes_missing : PageTakesMissing
unfolding limit_at
page_takes_missing g v n p j ok b is low =
    let w = numbers_in_zone g in
    let sized = numbers_sized g ok in
    let near : p < limit_at w 3 = (let e : page_limit w ≡ limit_at w 3 = grind arith in omega arith) in
    needed_all g _ ∙ more g sized v n j b is 3 0 p (omega arith) near ∙ sym (ap (λ x. x + missing g v n 4 0 p) (needed_all g _))
