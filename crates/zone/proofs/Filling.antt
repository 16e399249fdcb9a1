-- From what a call did to a step, and what is asked on the way.
use Rattle.std.proofs.Common.{◌≡◌, ◌≢◌, ◌<◌, ◌≤◌, ◌+◌, ◌*◌, ◌-◌, ◌/◌, ◌%◌, ℕ, zero, suc, length, true, false, refl, sym, ap, subst, ◌∙◌, arith}
use mathlib.Core.Logic.{inl, inr}
use Rattle.std.specs.Prelude.{◌==◌, nat_lt, nat_le, IsTrue, ◌⊎◌, slice_set}
use Rattle.std.specs.Int.{w32, to_le_bytes}
use Rattle.std.proofs.lemmas.Bool.{cond-true, cond-false, eq-eqb, eqb-true, ne_eqb, lt-ltb, le-ltb, not-false, and_parts, cases_eq}
use Rattle.std.proofs.lemmas.Nat.{div_below}
use Rattle.std.proofs.lemmas.List.{get_or-set_same, get_or-set_other}
use Rattle.layout.specs.declared.Geometry.{Geometry}
use Rattle.layout.specs.Places.{IsGeometry}
use Rattle.lemmas.specs.Sums.{put, one_if}
use Rattle.lemmas.proofs.Maps.{put-same, put-other}
use Rattle.tree.specs.Space.{numbers_in_zone, data_zones}
use Rattle.volume.specs.declared.Inode.{Inode}
use Rattle.volume.specs.Reading.{Disk, is_data_zone, is_inode, u32_in, inode_of_disk}
use Rattle.volume.specs.Pieces.{Pieces, pieces, blank}
use Rattle.volume.specs.Nodes.{word, slot, number, is_marked}
use Rattle.volume.specs.Places.{zone_at, has_number}
use Rattle.volume.specs.Holds.{ZonesAgree}
use Rattle.volume.proofs.Volumes.{numbers_sized}
use Rattle.block_store.specs.Rows.{with_bytes}
use Rattle.block_store.proofs.Rows.{row_new, row_old}
use Rattle.zone.specs.ZoneSteps.{first_places, slot_of, above, beside, bit_of, Links, Unlinks, IsSoundBut, IsBare, marked_in}
use Rattle.zone.specs.Raw.{Takes, SetsInode, SetsBlock}
use Rattle.zone.specs.Missing.{missing}
use Rattle.zone.specs.Composite.{Attached, Detached}
use Rattle.zone.proofs.Raw.{free_unused, filled_slot_links, filled_word_links, cleared_slot_unlinks, cleared_word_unlinks}
use Rattle.zone.proofs.OnePlaces.{slot_zone, slot_cases}
use Rattle.zone.proofs.Full.{zone_child, hole_child, child_is}
use Rattle.zone.proofs.Composite.{missing_inner, missing_outer, attached_inner, attaches_inner, attached_outer, attaches_outer, detaches_inner, detaches_outer, detaches_on, unlinked_above}
use Rattle.zone.proofs.Agree.{marked_on}
use Rattle.zone.proofs.ZoneInodes.{four_bytes}
use Rattle.zone.specs.PlaceParts.{with_number}
use Rattle.zone.specs.Parts.{with_slot, with_mark, with_fresh}
use Rattle.zone.specs.Pages.{MayHold, MayRelease, place_count}

-- a place of a marked inode
pub record IsPlace (g : Geometry) (v : Pieces) (n l k : ℕ) : Type 0 where
  pub geometry : IsGeometry g
  pub agree : ZonesAgree g v
  pub marked : IsTrue (is_marked g v n)
  pub level : l < 4
  pub place : k < place_count g l

-- an inode of the volume has ten numbers
pub ten : (g : Geometry) (d : Disk) (n : ℕ) → IsTrue (is_inode g n) → length ((pieces g d).inodes n).zones ≡ 10
ten g d n is = ap (λ (i : Inode). length i.zones) (cond-true (is_inode g n) (inode_of_disk g d n) blank is)

-- a slot that was set
pub slot_set : (v w : Pieces) (n s x : ℕ) → s < length (v.inodes n).zones → w.inodes ≡ put v.inodes n (record (v.inodes n) { zones = slice_set (v.inodes n).zones s x }) → SetsInode v w n s x
slot_set v w n s x long e =
    let i : Inode = record (v.inodes n) { zones = slice_set (v.inodes n).zones s x } in
    let here : w.inodes n ≡ i = ap (λ f. f n) e ∙ put-same v.inodes n i in
    record {
      others = λ m d. ap (λ f. f m) e ∙ put-other v.inodes n i m d;
      attributes = here ∙ ap (λ (j : Inode). record (v.inodes n) { zones = j.zones }) (sym here);
      here = ap (λ (j : Inode). slot j s) here ∙ get_or-set_same (v.inodes n).zones s x 0 long;
      slots = λ t d. ap (λ (j : Inode). slot j t) here ∙ get_or-set_other (v.inodes n).zones s t x 0 d;
    }

-- four bytes that were written are read as their number
u32_written : (row : ℕ → ℕ) (p x : ℕ) → x < 4294967296 → u32_in (with_bytes p (to_le_bytes w32 x) row) p ≡ x
u32_written row p x small =
    let bytes = to_le_bytes w32 x in
    let f = with_bytes p bytes row in
    let a : f p ≡ x % 256 = ap f (let e : p ≡ p + 0 = omega arith in e) ∙ row_new p bytes row 0 (omega arith) in
    let b : f (p + 1) ≡ x / 256 % 256 = row_new p bytes row 1 (omega arith) in
    let c : f (p + 2) ≡ x / 65536 % 256 = row_new p bytes row 2 (omega arith) in
    let d : f (p + 2 + 1) ≡ x / 16777216 % 256 = ap f (let e : p + 2 + 1 ≡ p + 3 = omega arith in e) ∙ row_new p bytes row 3 (omega arith) in
    let n : x % 256 + 256 * (x / 256 % 256) + 65536 * (x / 65536 % 256 + 256 * (x / 16777216 % 256)) ≡ x = omega arith in
    omega (arith, a, b, c, d, n)

-- a number that was set
pub word_set : (v w : Pieces) (y j x : ℕ) → x < 4294967296 → w.zones y ≡ with_bytes (4 * j) (to_le_bytes w32 x) (v.zones y) → SetsBlock v w y j x
word_set v w y j x small e = four_bytes v w y j x
    (λ o h. ap (λ (f : ℕ → ℕ). f o) e ∙ row_old (4 * j) (to_le_bytes w32 x) (v.zones y) o (by o h))
    (ap (λ (f : ℕ → ℕ). u32_in f (4 * j)) e ∙ u32_written (v.zones y) (4 * j) x small)
  where
    by : (o : ℕ) → (o < 4 * j) ⊎ (4 * j + 4 ≤ o) → (o < 4 * j) ⊎ (4 * j + length (to_le_bytes w32 x) ≤ o)
    by o (inl l) = inl l
    by o (inr l) = inr (omega arith)

-- the number of a data zone fits four bytes
pub zone_small : (g : Geometry) (z : ℕ) → IsGeometry g → IsTrue (is_data_zone g z) → z < 4294967296
zone_small g z ok is =
    let t = Rattle.std.proofs.lemmas.Bool.ltb-true z g.zones (and_parts (nat_le g.first_zone z) (nat_lt z g.zones) is).1 in
    let most = ok.zones in
    omega arith

-- the slots of an inode are ten
pub slot_low : (l k : ℕ) → l < 4 → k < first_places l → slot_of l k < 10
slot_low l k low near = elim (slot_cases l k) [ inl c ↦ omega (arith, c.1, c.2) | inr c ↦ omega (arith, c.2) ]

-- a free zone whose number was put into an inode is linked
pub slot_filled_links : (g : Geometry) (v w : Pieces) (n l k z : ℕ) → IsGeometry g → ZonesAgree g v → IsTrue (is_marked g v n) → l < 4 → k < first_places l
    → length (v.inodes n).zones ≡ 10 → zone_at g v (v.inodes n) l k ≡ 0 → IsTrue (is_data_zone g z) → v.zone_map (bit_of g z) ≡ false
    → w ≡ with_slot (with_fresh g v z) n (slot_of l k) z → Links g v w n l k z
slot_filled_links g v w n l k z ok agree is low near many was free_zone free e = filled_slot_links g v w n l k z ok agree (record {
  marked = is;
  level = low;
  place = near;
  was = was;
  takes = record {
    data_zone = free_zone;
    free = free;
    map = ap (λ p. p.zone_map) e;
    zeros = λ o. ap (λ p. p.zones z o) e ∙ ap (λ (f : ℕ → ℕ). f o) (put-same v.zones z (λ o. 0));
  };
  marks = ap (λ p. p.inode_map) e;
  number = slot_set v w n (slot_of l k) z (let t = slot_low l k low near in omega arith) (ap (λ p. p.inodes) e);
  zones = λ y d. ap (λ p. p.zones y) e ∙ put-other v.zones z (λ o. 0) y d;
})

-- and one whose number was put into a block
pub word_filled_links : (g : Geometry) (v w : Pieces) (n l k b j z : ℕ) → IsGeometry g → ZonesAgree g v → IsTrue (is_marked g v n) → l < 3 → first_places l ≤ k
    → zone_at g v (v.inodes n) (l + 1) (above g l k) ≡ b → b ≢ 0 → j ≡ beside g l k → zone_at g v (v.inodes n) l k ≡ 0
    → IsTrue (is_data_zone g z) → v.zone_map (bit_of g z) ≡ false → w ≡ with_number (with_fresh g v z) b j z → Links g v w n l k z
word_filled_links g v w n l k b j z ok agree is low far block some same was free_zone free new =
    let B : ℕ = zone_at g v (v.inodes n) (suc l) (above g l k) in
    let J : ℕ = beside g l k in
    let at : b ≡ B = sym block ∙ ap (λ x. zone_at g v (v.inodes n) x (above g l k)) (let e : l + 1 ≡ suc l = omega arith in e) in
    let u : Pieces = with_fresh g v z in
    let e : w ≡ with_number u B J z = new ∙ (λ i. with_number u (at i) (same i) z) in
    let takes : Takes g v u z = record { data_zone = free_zone; free = free; map = refl; zeros = λ o. ap (λ (f : ℕ → ℕ). f o) (put-same v.zones z (λ o. 0)) } in
    let apart : B ≢ z = free_unused g v u z agree takes n (suc l) (above g l k) is in
    let row : ℕ → ℕ = with_bytes (4 * J) (to_le_bytes w32 z) (u.zones B) in
    let kept : u.zones B ≡ v.zones B = put-other v.zones z (λ o. 0) B apart in
    filled_word_links g v w n l k z ok agree (record {
      marked = is;
      level = low;
      place = far;
      block = λ none. some (at ∙ none);
      was = was;
      takes = record {
        data_zone = free_zone;
        free = free;
        map = ap (λ p. p.zone_map) e;
        zeros = λ o. ap (λ p. p.zones z o) e ∙ ap (λ (f : ℕ → ℕ). f o) (put-other u.zones B row z (λ s. apart (sym s)) ∙ put-same v.zones z (λ o. 0));
      };
      marks = ap (λ p. p.inode_map) e;
      inodes = ap (λ p. p.inodes) e;
      number = word_set v w B J z (zone_small g z ok free_zone) (ap (λ p. p.zones B) e ∙ put-same u.zones B row ∙ ap (with_bytes (4 * J) (to_le_bytes w32 z)) kept);
      zones = λ y d s. ap (λ p. p.zones y) e ∙ put-other u.zones B row y s ∙ put-other v.zones z (λ o. 0) y d;
    })

-- a slot that became 0, and the zone given back
pub slot_cleared_unlinks : (g : Geometry) (v w : Pieces) (n l k z s : ℕ) → MayRelease g v n l k → k < first_places l → length (v.inodes n).zones ≡ 10
    → zone_at g v (v.inodes n) l k ≡ z → s ≡ slot_of l k → w ≡ with_mark g (with_slot v n s 0) z false → Unlinks g v w n l k z
slot_cleared_unlinks g v w n l k z s h near many zone at new =
    let e : w ≡ with_mark g (with_slot v n (slot_of l k) 0) z false = new ∙ ap (λ t. with_mark g (with_slot v n t 0) z false) at in
    cleared_slot_unlinks g v w n l k z h.geometry h.rules.zones (record {
      marked = h.marked;
      level = h.level;
      place = near;
      some = λ none. h.some (zone ∙ none);
      was = zone;
      bare = λ b j low. ap (λ y. number v y j) (sym zone) ∙ h.bare b j low;
      map = ap (λ p. p.zone_map) e;
      marks = ap (λ p. p.inode_map) e;
      number = slot_set v w n (slot_of l k) 0 (let t = slot_low l k h.level near in omega arith) (ap (λ p. p.inodes) e);
      zones = ap (λ p. p.zones) e;
    })

-- and a number
pub word_cleared_unlinks : (g : Geometry) (v w : Pieces) (n l k z b j : ℕ) → MayRelease g v n l k → l < 3 → first_places l ≤ k → zone_at g v (v.inodes n) l k ≡ z
    → zone_at g v (v.inodes n) (l + 1) (above g l k) ≡ b → b ≢ 0 → j ≡ beside g l k → w ≡ with_mark g (with_number v b j 0) z false → Unlinks g v w n l k z
word_cleared_unlinks g v w n l k z b j h low far zone block some same new =
    let B : ℕ = zone_at g v (v.inodes n) (suc l) (above g l k) in
    let J : ℕ = beside g l k in
    let at : b ≡ B = sym block ∙ ap (λ x. zone_at g v (v.inodes n) x (above g l k)) (let e : l + 1 ≡ suc l = omega arith in e) in
    let e : w ≡ with_mark g (with_number v B J 0) z false = new ∙ (λ i. with_mark g (with_number v (at i) (same i) 0) z false) in
    let row : ℕ → ℕ = with_bytes (4 * J) (to_le_bytes w32 0) (v.zones B) in
    cleared_word_unlinks g v w n l k z h.geometry h.rules.zones (record {
      marked = h.marked;
      level = low;
      place = far;
      block = λ none. some (at ∙ none);
      some = λ none. h.some (zone ∙ none);
      was = zone;
      bare = λ c i under. ap (λ y. number v y i) (sym zone) ∙ h.bare c i under;
      map = ap (λ p. p.zone_map) e;
      marks = ap (λ p. p.inode_map) e;
      inodes = ap (λ p. p.inodes) e;
      number = word_set v w B J 0 (omega arith) (ap (λ p. p.zones B) e ∙ put-same v.zones B row);
      zones = λ y d. ap (λ p. p.zones y) e ∙ put-other v.zones B row y d;
    })

-- the place above is one of its level
pub above_place : (g : Geometry) (l k : ℕ) → 0 < numbers_in_zone g → l < 3 → first_places l ≤ k → k < place_count g l → above g l k < place_count g (suc l)
above_place g zero k sized low far near = let w = numbers_in_zone g in div_below (k - 7) w (1 + w + w * w) sized (grind arith)
above_place g (suc zero) k sized low far near = let w = numbers_in_zone g in div_below (k - 1) w (1 + w) sized (grind arith)
above_place g (suc (suc zero)) k sized low far near = let w = numbers_in_zone g in div_below (k - 1) w 1 sized (omega arith)
above_place g (suc (suc (suc l))) k sized low far near = absurd (omega arith)

-- a place that isn't of the inode is at a level below the triple's
pub outer_level : (g : Geometry) (l k : ℕ) → l < 4 → first_places l ≤ k → k < place_count g l → l < 3
outer_level g zero k low far near = omega arith
outer_level g (suc zero) k low far near = omega arith
outer_level g (suc (suc zero)) k low far near = omega arith
outer_level g (suc (suc (suc l))) k low far near = let one : first_places (suc (suc (suc l))) ≡ 1 = cond-false (suc (suc (suc l)) == 0) 7 1 (ne_eqb _ 0 (λ e. absurd (omega arith))) in absurd (omega arith)

-- what is asked of the place above
pub may_hold_above : (g : Geometry) (v : Pieces) (n l k : ℕ) → MayHold g v n l k → first_places l ≤ k → MayHold g v n (l + 1) (above g l k)
may_hold_above g v n l k h far =
    let low = outer_level g l k h.level far h.place in
    let next : l + 1 ≡ suc l = omega arith in
    let m = missing_outer g v n l k low far in
    let room = h.room in
    record {
      geometry = h.geometry;
      marked = h.marked;
      level = omega arith;
      place = let p = above_place g l k (numbers_sized g h.geometry) low far h.place in let e : place_count g (l + 1) ≡ place_count g (suc l) = ap (place_count g) next in omega arith;
      inside = λ e. absurd (omega arith);
      rules = h.rules;
      room = let e : missing g v n (4 - (l + 1)) (l + 1) (above g l k) ≡ missing g v n (4 - suc l) (suc l) (above g l k) = ap (λ x. missing g v n (4 - x) x (above g l k)) next in omega arith;
    }

-- what stands at a place of a block
pub word_is : (g : Geometry) (v : Pieces) (n l k b j : ℕ) → 0 < numbers_in_zone g → l < 3 → first_places l ≤ k → zone_at g v (v.inodes n) (l + 1) (above g l k) ≡ b → b ≢ 0 → j ≡ beside g l k
    → zone_at g v (v.inodes n) l k ≡ word v b j
word_is g v n l k b j sized low far block some same =
    let at : zone_at g v (v.inodes n) (suc l) (above g l k) ≡ b = ap (λ x. zone_at g v (v.inodes n) x (above g l k)) (let e : suc l ≡ l + 1 = omega arith in e) ∙ block in
    let within : beside g l k < numbers_in_zone g = omega arith in
    ap (zone_at g v (v.inodes n) l) (child_is g sized l k far)
    ∙ zone_child g sized v n l (above g l k) (beside g l k) low within (λ e. some (sym at ∙ e))
    ∙ (λ i. word v (at i) (sym same i))

-- the same, as the code computes it
pub here_above : (g : Geometry) (v : Pieces) (n l k f w : ℕ) → MayHold g v n l k → f ≡ first_places l → w ≡ numbers_in_zone g → f ≤ k → MayHold g v n (l + 1) ((k - f) / w)
here_above g v n l k f w h e d far =
    subst (λ x. MayHold g v n (l + 1) x) (sym (λ i. (k - e i) / d i)) (may_hold_above g v n l k h (omega arith))

-- A place of the inode.
module _ (g : Geometry) (v : Pieces) (n l k f s x : ℕ) (h : MayHold g v n l k) (e : f ≡ first_places l) (near : k < f) (at : s ≡ slot_of l k) (is : x ≡ slot (v.inodes n) s) where
  pub inner_zone : zone_at g v (v.inodes n) l k ≡ x
  inner_zone = slot_zone g (numbers_sized g h.geometry) v n l k h.level (omega arith) ∙ ap (slot (v.inodes n)) (sym at) ∙ sym is

  pub inner_done : x ≢ 0 → Attached g v v n l k
  inner_done some = attached_inner g v n l k 0 h.geometry h.marked h.level (omega arith) h.rules (λ none. some (sym inner_zone ∙ none))

  pub inner_room : x ≡ 0 → marked_in g v < data_zones g
  inner_room none =
      let m = missing_inner g v n l k h.level (omega arith) in
      let one : one_if (zone_at g v (v.inodes n) l k == 0) ≡ 1 = ap one_if (eq-eqb _ 0 (inner_zone ∙ none)) in
      let room = h.room in
      omega arith

pub inner_filled : (g : Geometry) (v w : Pieces) (n l k f z : ℕ) → MayHold g v n l k → f ≡ first_places l → k < f → Links g v w n l k z → Attached g v w n l k
inner_filled g v w n l k f z h e near s = attaches_inner g v w n l k 0 z h.geometry (omega arith) h.inside h.rules s

-- A place of a block.
module _ (g : Geometry) (v u : Pieces) (n l k f d b : ℕ) (h : MayHold g v n l k) (e : f ≡ first_places l) (wide : d ≡ numbers_in_zone g) (far : f ≤ k)
    (a : Attached g v u n (l + 1) ((k - f) / d)) (zone : zone_at g u (u.inodes n) (l + 1) ((k - f) / d) ≡ b) where
  up : Attached g v u n (suc l) (above g l k)
  up = subst (λ (p : ℕ × ℕ). Attached g v u n p.0 p.1) (λ i. ((let t : l + 1 ≡ suc l = omega arith in t) i, (k - e i) / wide i)) a

  pub block_is : zone_at g u (u.inodes n) (l + 1) (above g l k) ≡ b
  block_is = (λ i. zone_at g u (u.inodes n) (l + 1) ((k - sym e i) / sym wide i)) ∙ zone

  pub block_some : b ≢ 0
  block_some none = a.held (zone ∙ none)

  pub is_low : l < 3
  is_low = outer_level g l k h.level (omega arith) h.place

  pub marked_u : IsTrue (is_marked g u n)
  marked_u = marked_on g v u a.inodes n h.marked

  pub nth_is : (k - f) % d ≡ beside g l k
  nth_is = λ i. (k - e i) % wide i

  module _ (x : ℕ) (is : x ≡ word u b ((k - f) % d)) where
    pub outer_zone : zone_at g u (u.inodes n) l k ≡ x
    outer_zone = word_is g u n l k b ((k - f) % d) (numbers_sized g h.geometry) is_low (omega arith) block_is block_some nth_is ∙ sym is

    pub outer_done : x ≢ 0 → Attached g v u n l k
    outer_done some = attached_outer g v u n l k h.geometry h.marked is_low (omega arith) up (λ none. some (sym outer_zone ∙ none))

    pub outer_room : x ≡ 0 → marked_in g u < data_zones g
    outer_room none =
        let m = missing_outer g v n l k is_low (omega arith) in
        let stays : zone_at g u (u.inodes n) l k ≡ zone_at g v (v.inodes n) l k = up.below l k (omega arith) in
        let one : one_if (zone_at g v (v.inodes n) l k == 0) ≡ 1 = ap one_if (eq-eqb _ 0 (sym stays ∙ outer_zone ∙ none)) in
        let room = h.room in
        let c = up.count in
        omega arith

  pub outer_filled : (w : Pieces) (z : ℕ) → Links g u w n l k z → Attached g v w n l k
  outer_filled w z s = attaches_outer g v u w n l k z h.geometry h.marked is_low (omega arith) h.inside up s

-- what stands at a place of a block, hole or not
pub number_is : (g : Geometry) (v : Pieces) (n l k : ℕ) → 0 < numbers_in_zone g → l < 3 → first_places l ≤ k → zone_at g v (v.inodes n) (suc l) (above g l k) ≡ 0 → zone_at g v (v.inodes n) l k ≡ 0
number_is g v n l k sized low far none =
    let within : beside g l k < numbers_in_zone g = omega arith in
    ap (zone_at g v (v.inodes n) l) (child_is g sized l k far) ∙ hole_child g sized v n l (above g l k) (beside g l k) low within none

-- A walk to a place of a block.
module _ (g : Geometry) (v : Pieces) (n l k f d : ℕ) (h : IsPlace g v n l k) (e : f ≡ first_places l) (wide : d ≡ numbers_in_zone g) (far : f ≤ k) where
  abbrev walk_low : l < 3
  walk_low = outer_level g l k h.level (omega arith) h.place

  pub place_above : IsPlace g v n (l + 1) ((k - f) / d)
  place_above = record {
    geometry = h.geometry;
    agree = h.agree;
    marked = h.marked;
    level = let low = walk_low in omega arith;
    place =
        let p = above_place g l k (numbers_sized g h.geometry) walk_low (omega arith) h.place in
        let c : place_count g (l + 1) ≡ place_count g (suc l) = ap (place_count g) (let t : l + 1 ≡ suc l = omega arith in t) in
        let q : (k - f) / d ≡ above g l k = λ i. (k - e i) / wide i in
        omega arith;
  }

  module _ (b : ℕ) (zone : zone_at g v (v.inodes n) (l + 1) ((k - f) / d) ≡ b) where
    pub walk_block : zone_at g v (v.inodes n) (l + 1) (above g l k) ≡ b
    walk_block = (λ i. zone_at g v (v.inodes n) (l + 1) ((k - sym e i) / sym wide i)) ∙ zone

    pub walk_hole : b ≡ 0 → zone_at g v (v.inodes n) l k ≡ 0
    walk_hole none = number_is g v n l k (numbers_sized g h.geometry) walk_low (omega arith) (ap (λ x. zone_at g v (v.inodes n) x (above g l k)) (let t : suc l ≡ l + 1 = omega arith in t) ∙ walk_block ∙ none)

    pub walk_data : b ≢ 0 → IsTrue (is_data_zone g b)
    walk_data some = h.agree.numbers b some (record { inode = n; level = l + 1; index = (k - f) / d; marked = h.marked; names = zone })

    pub walk_word : b ≢ 0 → zone_at g v (v.inodes n) l k ≡ word v b ((k - f) % d)
    walk_word some = word_is g v n l k b ((k - f) % d) (numbers_sized g h.geometry) walk_low (omega arith) walk_block some (λ i. (k - e i) % wide i)

-- the place of a release
abbrev pub its_place : (g : Geometry) (v : Pieces) (n l k : ℕ) → MayRelease g v n l k → IsPlace g v n l k
its_place g v n l k h = record { geometry = h.geometry; agree = h.rules.zones; marked = h.marked; level = h.level; place = h.place }

pub released_inner : (g : Geometry) (v w : Pieces) (n l k f z : ℕ) → MayRelease g v n l k → f ≡ first_places l → k < f → Unlinks g v w n l k z → Detached g v w n l k
released_inner g v w n l k f z h e near s = detaches_inner g v w n l k z h.geometry (omega arith) h.rules s

module _ (g : Geometry) (v u : Pieces) (n l k f d b z : ℕ) (h : MayRelease g v n l k) (e : f ≡ first_places l) (wide : d ≡ numbers_in_zone g) (far : f ≤ k)
    (zone : zone_at g v (v.inodes n) (l + 1) ((k - f) / d) ≡ b) where
  pub block_there : b ≢ 0
  block_there none = h.some (walk_hole g v n l k f d (its_place g v n l k h) e wide far b zone none)

  module _ (s : Unlinks g v u n l k z) where
    -- the block stays where it is
    block_stays : zone_at g u (u.inodes n) (suc l) (above g l k) ≡ b
    block_stays =
        s.place.others n (suc l) (above g l k) s.marked (λ o. absurd (omega (arith, o.1)))
        ∙ ap (λ x. zone_at g v (v.inodes n) x (above g l k)) (let t : suc l ≡ l + 1 = omega arith in t) ∙ walk_block g v n l k f d (its_place g v n l k h) e wide far b zone

    pub may_release_above : IsBare g u b → MayRelease g u n (l + 1) ((k - f) / d)
    may_release_above none =
        let p = place_above g v n l k f d (its_place g v n l k h) e wide far in
        let q : above g l k ≡ (k - f) / d = λ i. (k - sym e i) / sym wide i in
        let t : suc l ≡ l + 1 = omega arith in
        let there : zone_at g u (u.inodes n) (l + 1) ((k - f) / d) ≡ b = sym (λ i. zone_at g u (u.inodes n) (t i) (q i)) ∙ block_stays in
        record {
          geometry = h.geometry;
          marked = marked_on g v u s.inodes n s.marked;
          level = p.level;
          place = p.place;
          rules = subst (λ (x : ℕ × ℕ). IsSoundBut g u n x.0 x.1) (λ i. (t i, q i)) (unlinked_above g v u n l k z h.geometry (omega arith) h.rules s);
          some = λ o. block_there (sym there ∙ o);
          bare = λ _ j low. ap (λ y. number u y j) there ∙ none j low;
        }

    pub released_outer : has_number g u b ≡ true → Detached g v u n l k
    released_outer has = detaches_outer g v u n l k z h.geometry (omega arith) h.rules s (ap (has_number g u) block_stays ∙ has)

    pub released_on : (w : Pieces) → Detached g u w n (l + 1) ((k - f) / d) → Detached g v w n l k
    released_on w a = detaches_on g v u w n l k z h.geometry h.rules s
        (subst (λ (x : ℕ × ℕ). Detached g u w n x.0 x.1) (λ i. ((let t : l + 1 ≡ suc l = omega arith in t) i, (k - e i) / wide i)) a)

    pub still_data : IsTrue (is_data_zone g b)
    still_data = walk_data g v n l k f d (its_place g v n l k h) e wide far b zone block_there
