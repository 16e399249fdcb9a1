-- Where each zone of a row stands once, the zones and their map agree.
use Rattle.std.proofs.Common.{◌≡◌, ◌≢◌, ◌<◌, ◌≤◌, ◌+◌, ◌-◌, ℕ, Bool, true, false, refl, sym, ap, ◌∙◌, arith}
use mathlib.Core.Logic.{inl, inr}
use Rattle.std.specs.Prelude.{◌==◌, ◌&&◌, nat_le, nat_lt}
use Rattle.std.proofs.lemmas.Bool.{cases_lt, cases_Bool, and_from, and_parts, le-leb, lt-ltb, ltb-true, leb-true, eq-eqb, eqb-true}
use Rattle.layout.specs.declared.Geometry.{Geometry}
use Rattle.lemmas.specs.Sums.{sum_below, count_below, one_if}
use Rattle.lemmas.proofs.Maps.{same_sum}
use Rattle.tree.specs.Space.{data_zones}
use Rattle.volume.specs.Pieces.{Pieces}
use Rattle.volume.specs.Reading.{is_inode, is_data_zone}
use Rattle.volume.specs.Nodes.{slot, is_marked}
use Rattle.volume.specs.Places.{Use}
use Rattle.volume.specs.Holds.{ZonesAgree}
use Rattle.volume.proofs.Naming.{Naming, spot}
use Rattle.volume.proofs.Sums.{one_most}
use Rattle.volume.proofs.Swapped.{sum_none, sum_swap}
use Rattle.volume.proofs.Cube.{cube, Point, cube_at, cube_some, cube_same}
use Rattle.volume.proofs.Bridge.{naming, limit_at, beyond, zone_spot, level_low, use_of_place}
use Rattle.image.specs.Entered.{level_of}
use Rattle.migrate.proofs.UsedFiles.{passed_by_slots}
use Rattle.migrate.proofs.Times.{within, in_low, in_is, in_high, in_none, in_parts, times_below}

module _ (h : Geometry) (w : Pieces) (block : h.block_size ≡ 1024) (takes : ℕ → ℕ)
    (each : (n t : ℕ) → is_marked h w n ≡ true → t ≢ 0 → sum_below (λ r. times_below w t (level_of r) (slot (w.inodes n) r)) 10
    ≡ one_if (within (h.first_zone + sum_below takes n) (takes n) t))
    (none : (n : ℕ) → is_marked h w n ≡ false → takes n ≡ 0) where
  -- all that the nodes take
  abbrev total : ℕ
  total = sum_below takes (h.inodes + 1)

  abbrev m : Naming
  m = naming h w

  -- a zone holds numbers
  sized : 0 < m.width
  sized = omega arith

  -- number t stands at place i of a height of node n
  abbrev stands : ℕ → ℕ → ℕ → ℕ → Bool
  stands t a n i = is_marked h w n && (spot m n a i == t)

  -- how many places there are
  abbrev rows : ℕ → ℕ
  rows a = h.inodes + 1

  abbrev places : ℕ → ℕ
  places t = cube (stands t) 4 rows (limit_at m.width)

  -- those of a node
  node_places : (n t : ℕ) → t ≢ 0 → sum_below (λ a. count_below (stands t a n) (limit_at m.width a)) 4
      ≡ one_if (within (h.first_zone + sum_below takes n) (takes n) t)
  node_places n t some = elim (cases_Bool (is_marked h w n)) [
    | inl is ↦
        ap (λ (b : Bool). sum_below (λ a. count_below (λ i. b && (spot m n a i == t)) (limit_at m.width a)) 4) is
        ∙ passed_by_slots (λ z. z == t) h w block n ∙ each n t is some
    | inr out ↦
        ap (λ (b : Bool). sum_below (λ a. count_below (λ i. b && (spot m n a i == t)) (limit_at m.width a)) 4) out
        ∙ sum_none _ 4 (λ a _. sum_none _ (limit_at m.width a) (λ i _. refl))
        ∙ sym (in_none (h.first_zone + sum_below takes n) (takes n) t (none n out))
  ]

  -- a number stands once where it is one of the row, and nowhere else
  once_in_row : (t : ℕ) → t ≢ 0 → places t ≡ one_if (within h.first_zone total t)
  once_in_row t some =
      sum_swap (λ a n. count_below (stands t a n) (limit_at m.width a)) 4 (h.inodes + 1)
      ∙ same_sum _ _ (h.inodes + 1) (λ n _. node_places n t some) ∙ in_parts takes h.first_zone t (h.inodes + 1)

  -- a marked inode is in range
  in_range : (n : ℕ) → is_marked h w n ≡ true → n < h.inodes + 1
  in_range n is =
      let inode = (and_parts (is_inode h n) (w.inode_map n) is).0 in
      let most = leb-true n h.inodes (and_parts (nat_le 1 n) (nat_le n h.inodes) inode).1 in
      omega arith

  -- a use is a point where the number stands
  point : (z : ℕ) → z ≢ 0 → Use h w z → Point (stands z) 4 rows (limit_at m.width)
  point z some u =
      let low = level_low h w sized z some u in
      let names : spot m u.inode (3 - u.level) u.index ≡ z = sym (zone_spot h w sized u.inode u.level u.index low) ∙ u.names in
      record {
        k = 3 - u.level;
        y = u.inode;
        j = u.index;
        in_k = omega arith;
        in_y = in_range u.inode u.marked;
        in_j = elim (cases_lt u.index (limit_at m.width (3 - u.level))) [
          | inl l ↦ l
          | inr far ↦ absurd (some (sym names ∙ beyond m u.inode (3 - u.level) u.index sized far))
        ];
        is = and_from (is_marked h w u.inode) _ u.marked (eq-eqb (spot m u.inode (3 - u.level) u.index) z names);
      }

  -- and such a point is a use
  use_at : (z : ℕ) → Point (stands z) 4 rows (limit_at m.width) → Use h w z
  use_at z s =
      let parts = and_parts (is_marked h w s.y) (spot m s.y s.k s.j == z) s.is in
      use_of_place h w sized z (record {
        inode = s.y;
        height = s.k;
        index = s.j;
        most = lt-ltb s.k 4 s.in_k;
        marked = parts.0;
        names = eqb-true (spot m s.y s.k s.j) z parts.1;
      })

  -- what is used is of the row
  used_in : (z : ℕ) → z ≢ 0 → Use h w z → (h.first_zone ≤ z) × (z < h.first_zone + total)
  used_in z some u =
      let more = cube_at (stands z) 4 rows (limit_at m.width) (point z some u) in
      let all = once_in_row z some in
      elim (cases_lt z h.first_zone) [
        | inl low ↦ let out = in_low h.first_zone total z low in absurd (omega arith)
        | inr from ↦ elim (cases_lt z (h.first_zone + total)) [
          | inl l ↦ (from, l)
          | inr far ↦ let out = in_high h.first_zone total z far in absurd (omega arith)
        ]
      ]

  module _ (some_front : 0 < h.first_zone) (room : h.first_zone + total ≤ h.zones) (bit : w.inode_map 0 ≡ true)
      (bits : (k : ℕ) → k ≤ data_zones h → w.zone_map k ≡ nat_le k total) where
    -- a data zone lies between the first and the end
    between : (z : ℕ) → is_data_zone h z ≡ true → (h.first_zone ≤ z) × (z < h.zones)
    between z is =
        let parts = and_parts (nat_le h.first_zone z) (nat_lt z h.zones) is in
        (leb-true h.first_zone z parts.0, ltb-true z h.zones parts.1)

    -- the zones agree
    pub agreed : ZonesAgree h w
    unfolding point
    agreed = record {
      inode_bit_0 = bit;
      zone_bit_0 = bits 0 (omega arith) ∙ le-leb 0 total (omega arith);
      numbers = λ z some u.
          let row = used_in z some u in
          let last = row.1 in
          and_from (nat_le h.first_zone z) (nat_lt z h.zones) (le-leb h.first_zone z row.0) (lt-ltb z h.zones (omega arith));
      once = λ z some a b.
          let all = once_in_row z some in
          let one = one_most (within h.first_zone total z) in
          let same = cube_same (stands z) 4 rows (limit_at m.width) (omega arith) (point z some a) (point z some b) in
          let low = level_low h w sized z some a in
          let low' = level_low h w sized z some b in
          let heights : 3 - a.level ≡ 3 - b.level = same.0 in
          record { inode = same.1; level = omega arith; index = same.2 };
      mapped = λ z is.
          let range = between z is in
          let from = range.0 in
          let to = range.1 in
          let said = bits (z - h.first_zone + 1) (omega arith) in (
            λ set.
                let most = leb-true (z - h.first_zone + 1) total (sym said ∙ set) in
                let all = once_in_row z (λ e. absurd (omega arith)) in
                let one = in_is h.first_zone total z from (omega arith) in
                use_at z (cube_some (stands z) 4 rows (limit_at m.width) (omega arith)),
            λ u.
                let row = used_in z (λ e. absurd (omega arith)) u in
                let last = row.1 in
                said ∙ le-leb (z - h.first_zone + 1) total (omega arith),
          );
    }
