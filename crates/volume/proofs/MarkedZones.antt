-- The zones that a held tree uses are those that the zone map marks.
use Rattle.std.proofs.Common.{◌≡◌, ◌≢◌, ◌<◌, ◌≤◌, ◌+◌, ◌-◌, ℕ, Bool, true, refl, sym, ap, ◌∙◌, arith}
use mathlib.Core.Logic.{inl, inr}
use Rattle.std.specs.Prelude.{◌&&◌, ◌==◌, nat_lt, nat_le}
use Rattle.std.proofs.lemmas.Bool.{cases_Bool, cases_lt, and_parts, and_from, eq-eqb, eqb-true, ltb-true, le-leb, lt-ltb, both_ways}
use Rattle.layout.specs.declared.Geometry.{Geometry}
use Rattle.layout.specs.Places.{IsGeometry}
use Rattle.lemmas.specs.Sums.{sum_below, count_below, one_if}
use Rattle.tree.specs.Space.{numbers_in_zone, data_zones, zones_of}
use Rattle.lemmas.proofs.Maps.{same_sum}
use Rattle.volume.specs.Reading.{is_data_zone}
use Rattle.volume.specs.Pieces.{Pieces}
use Rattle.volume.specs.Nodes.{is_marked}
use Rattle.volume.specs.Places.{Use}
use Rattle.volume.specs.Holds.{IsSound}
use Rattle.volume.proofs.Naming.{spot}
use Rattle.volume.proofs.Sums.{one_true}
use Rattle.volume.proofs.Cube.{cube, Point, cube_at, cube_some, cube_single}
use Rattle.volume.proofs.Bridge.{naming, beyond, limit_at, place_of_use, use_of_place}
use Rattle.volume.proofs.Ranges.{marked_low, data_low, data_some}
use Rattle.volume.proofs.NodesAs.{nodes}
use Rattle.volume.proofs.Swapped.{sum_swap, hit_once}
use Rattle.volume.proofs.Levels.{taken}
use Rattle.volume.proofs.ZonesOf.{zones_by_level}

module _ (g : Geometry) (v : Pieces) (ok : IsGeometry g) (sized : 0 < numbers_in_zone g) (s : IsSound g v) where
  -- the numbers of inodes at each level
  abbrev inodes : ℕ → ℕ
  inodes h = g.inodes + 1

  -- the places of each level
  abbrev limits : ℕ → ℕ
  limits h = limit_at (numbers_in_zone g) h

  -- zone z stands at place i of level h of inode n
  abbrev stands : ℕ → ℕ → ℕ → ℕ → Bool
  stands z h n i = is_marked g v n && (spot (naming g v) n h i == z)

  -- the use at such a point
  abbrev use_at : (z : ℕ) → Point (stands z) 4 inodes limits → Use g v z
  use_at z p =
      let both = and_parts (is_marked g v p.y) (spot (naming g v) p.y p.k p.j == z) p.is in
      use_of_place g v sized z (record { inode = p.y; height = p.k; index = p.j; most = lt-ltb p.k 4 p.in_k; marked = both.0; names = eqb-true _ z both.1 })

  -- the point of a use
  point_of : (z : ℕ) → z ≢ 0 → Use g v z → Point (stands z) 4 inodes limits
  point_of z some u =
      let p = place_of_use g v sized z some u in
      let low = marked_low g v p.inode p.marked in
      record {
        k = p.height;
        y = p.inode;
        j = p.index;
        in_k = ltb-true p.height 4 p.most;
        in_y = omega (arith, low.1);
        in_j = elim (cases_lt p.index (limits p.height)) [
          | inl near ↦ near
          | inr far ↦ absurd (some (sym p.names ∙ beyond (naming g v) p.inode p.height p.index sized far))
        ];
        is = and_from (is_marked g v p.inode) _ p.marked (eq-eqb _ z p.names);
      }

  -- there is one such point at most
  same_point : (z : ℕ) → z ≢ 0 → (p q : Point (stands z) 4 inodes limits) → (p.k ≡ q.k) × (p.y ≡ q.y) × (p.j ≡ q.j)
  same_point z some p q =
      let r = s.zones.once z some (use_at z p) (use_at z q) in
      let a = p.in_k in
      let b = q.in_k in
      (omega (arith, r.level), r.inode, r.index)

  -- a data zone stands at as many places as its bit says
  counted : (k : ℕ) → k < data_zones g → cube (stands (g.first_zone + k)) 4 inodes limits ≡ one_if (v.zone_map (k + 1))
  counted k low =
      let z : ℕ = g.first_zone + k in
      let is : is_data_zone g z ≡ true = and_from (nat_le g.first_zone z) (nat_lt z g.zones) (le-leb _ z (omega arith)) (lt-ltb z _ (omega arith)) in
      let some = data_some g v ok z is in
      let bit : v.zone_map (z - g.first_zone + 1) ≡ v.zone_map (k + 1) = ap v.zone_map (let e : z - g.first_zone + 1 ≡ k + 1 = omega arith in e) in
      let most = cube_single (stands z) 4 inodes limits (same_point z some) in
      elim (cases_Bool (v.zone_map (k + 1))) [
        | inl set ↦
            let least = cube_at (stands z) 4 inodes limits (point_of z some ((s.zones.mapped z is).0 (bit ∙ set))) in
            let one = one_true (v.zone_map (k + 1)) set in
            omega arith
        | inr clear ↦ elim (cases_lt 0 (cube (stands z) 4 inodes limits)) [
          | inl more ↦ absurd (both_ways (v.zone_map (k + 1)) clear (sym bit ∙ (s.zones.mapped z is).1 (use_at z (cube_some (stands z) 4 inodes limits more))))
          | inr none ↦ let zero : one_if (v.zone_map (k + 1)) ≡ 0 = ap one_if clear in omega arith
        ]
      ]

  -- what stands at a place of a marked inode is 0 or a data zone
  in_range : (h n i : ℕ) → h < 4 → is_marked g v n ≡ true → spot (naming g v) n h i ≢ 0
      → (g.first_zone ≤ spot (naming g v) n h i) × (spot (naming g v) n h i < g.first_zone + data_zones g)
  in_range h n i l is some =
      let z = spot (naming g v) n h i in
      let u = use_of_place g v sized z (record { inode = n; height = h; index = i; most = lt-ltb h 4 l; marked = is; names = refl }) in
      let low = data_low g v z (s.zones.numbers z some u) in
      (low.0, omega (arith, low.0, low.1))

  -- a place is that of one data zone, or of none
  one_place : (h n i : ℕ) → h < 4 → count_below (λ k. stands (g.first_zone + k) h n i) (data_zones g) ≡ one_if (is_marked g v n && taken (naming g v) n h i)
  one_place h n i l = hit_once (is_marked g v n) (spot (naming g v) n h i) g.first_zone (data_zones g) (omega (arith, ok.first)) (in_range h n i l)

  -- all data zones, by zones and by places
  by_places : sum_below (λ k. cube (stands (g.first_zone + k)) 4 inodes limits) (data_zones g)
      ≡ sum_below (λ h. sum_below (λ n. count_below (λ i. is_marked g v n && taken (naming g v) n h i) (limits h)) (inodes h)) 4
  by_places =
      let d = data_zones g in
      sum_swap (λ k h. sum_below (λ n. count_below (stands (g.first_zone + k) h n) (limits h)) (inodes h)) d 4
      ∙ same_sum _ _ 4 (λ h l.
      sum_swap (λ k n. count_below (stands (g.first_zone + k) h n) (limits h)) d (inodes h)
      ∙ same_sum _ _ (inodes h) (λ n _.
      sum_swap (λ k i. one_if (stands (g.first_zone + k) h n i)) d (limits h)
      ∙ same_sum _ _ (limits h) (λ i _. one_place h n i l)))

  -- the zones of all nodes are as many as bits are set
  pub zones_are_marked : sum_below (λ n. zones_of g (nodes g v n)) (g.inodes + 1) ≡ count_below (λ k. v.zone_map (k + 1)) (data_zones g)
  zones_are_marked =
      same_sum _ _ (g.inodes + 1) (λ n _. zones_by_level g v sized s n)
      ∙ sum_swap (λ n h. count_below (λ i. is_marked g v n && taken (naming g v) n h i) (limits h)) (g.inodes + 1) 4
      ∙ sym by_places
      ∙ same_sum _ _ (data_zones g) (λ k low. counted k low)
