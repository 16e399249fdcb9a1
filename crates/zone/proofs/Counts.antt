-- How many zones are marked before and after.
use Rattle.std.proofs.Common.{◌≡◌, ◌≢◌, ◌<◌, ◌≤◌, ◌+◌, ◌-◌, ℕ, zero, suc, Bool, true, false, refl, sym, ap, ◌∙◌, cond, arith}
use mathlib.Core.Logic.{inl, inr}
use Rattle.std.specs.Prelude.{◌==◌, IsTrue}
use Rattle.std.proofs.lemmas.Bool.{cases_eq}
use Rattle.layout.specs.declared.Geometry.{Geometry}
use Rattle.layout.specs.Places.{IsGeometry}
use Rattle.lemmas.specs.Sums.{put, sum_below, count_below, one_if}
use Rattle.tree.specs.Space.{data_zones, zones_of}
use Rattle.lemmas.proofs.Maps.{put-same, put-other, same_sum, sum_put}
use Rattle.volume.specs.Reading.{is_data_zone}
use Rattle.volume.specs.Pieces.{Pieces}
use Rattle.volume.specs.Nodes.{nodes_of}
use Rattle.volume.specs.Places.{Use}
use Rattle.volume.proofs.Ranges.{data_low}
use Rattle.volume.proofs.MarkedZones.{zones_are_marked}
use Rattle.volume.proofs.Volumes.{numbers_sized}
use Rattle.zone.specs.ZoneSteps.{bit_of, marked_in, LinkMarksOne, UnlinkFreesOne, MarkedAsNeeded}

-- a count of bits from 1 on, one of them changed
count_changed : (p q : ℕ → Bool) (b : Bool) (k d : ℕ) → k < d → q ≡ put p (k + 1) b
    → count_below (λ i. q (i + 1)) d + one_if (p (k + 1)) ≡ count_below (λ i. p (i + 1)) d + one_if b
count_changed p q b k d low e =
    let f : ℕ → ℕ = λ i. one_if (p (i + 1)) in
    let whole = sum_put f k (one_if b) d low in
    let same : count_below (λ i. q (i + 1)) d ≡ sum_below (put f k (one_if b)) d = same_sum _ _ d (λ i _. elim (cases_eq i k) [
      | inl s ↦ ap (λ (h : ℕ → Bool). one_if (h (i + 1))) e ∙ ap one_if (ap (λ x. put p (k + 1) b (x + 1)) s ∙ put-same p (k + 1) b) ∙ sym (ap (put f k (one_if b)) s ∙ put-same f k (one_if b))
      | inr n ↦ ap (λ (h : ℕ → Bool). one_if (h (i + 1))) e ∙ ap one_if (put-other p (k + 1) b (i + 1) (λ s. n (omega arith))) ∙ sym (put-other f k (one_if b) i n)
    ]) in
    omega arith

-- the count of the map, one bit changed
map_changed : (g : Geometry) (v w : Pieces) (z : ℕ) (b : Bool) → IsTrue (is_data_zone g z) → w.zone_map ≡ put v.zone_map (bit_of g z) b
    → marked_in g w + one_if (v.zone_map (bit_of g z)) ≡ marked_in g v + one_if b
map_changed g v w z b is e =
    let low = data_low g v z is in
    count_changed v.zone_map w.zone_map b (z - g.first_zone) (data_zones g) (omega (arith, low.0, low.1)) e

pub link_marks_one : LinkMarksOne
link_marks_one g v w n l k z s =
    let c = map_changed g v w z true s.data_zone s.map in
    let f : one_if (v.zone_map (bit_of g z)) ≡ 0 = ap one_if s.free in
    omega arith

pub unlink_frees_one : UnlinkFreesOne
unlink_frees_one g v w n l k z ok agree s =
    let u : Use g v z = record { inode = n; level = l; index = k; marked = s.marked; names = s.was } in
    let is = agree.numbers z s.some u in
    let c = map_changed g v w z false is s.map in
    let f : one_if (v.zone_map (bit_of g z)) ≡ 1 = ap one_if ((agree.mapped z is).1 u) in
    omega arith

-- the whole count, before and after
pub marked_as_needed : MarkedAsNeeded
marked_as_needed g v w n x ok a b low e =
    let before = zones_are_marked g v ok (numbers_sized g ok) a in
    let after = zones_are_marked g w ok (numbers_sized g ok) b in
    let f : ℕ → ℕ = λ m. zones_of g (nodes_of g v m) in
    let same : sum_below (λ m. zones_of g (nodes_of g w m)) (g.inodes + 1) ≡ sum_below (put f n (zones_of g x)) (g.inodes + 1) = same_sum _ _ (g.inodes + 1) (λ m _. elim (cases_eq m n) [
      | inl s ↦ ap (λ h. zones_of g (h m)) e ∙ ap (zones_of g) (ap (put (nodes_of g v) n x) s ∙ put-same (nodes_of g v) n x) ∙ sym (ap (put f n (zones_of g x)) s ∙ put-same f n (zones_of g x))
      | inr d ↦ ap (λ h. zones_of g (h m)) e ∙ ap (zones_of g) (put-other (nodes_of g v) n x m d) ∙ sym (put-other f n (zones_of g x) m d)
    ]) in
    let whole = sum_put f n (zones_of g x) (g.inodes + 1) (omega arith) in
    omega arith
