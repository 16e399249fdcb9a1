-- Zones that are taken and given back.
use Rattle.std.proofs.Common.{◌≡◌, ◌≢◌, ◌<◌, ◌≤◌, ◌+◌, ◌-◌, ℕ, zero, suc, Bool, true, false, refl, sym, ap, subst, ◌∙◌, arith}
use Rattle.std.specs.Prelude.{nat_le, nat_lt, Option, None, Some, slice_set}
use Rattle.std.proofs.lemmas.Bool.{and_from, le-leb, lt-ltb}
use Rattle.layout.specs.declared.Geometry.{Geometry}
use Rattle.lemmas.specs.Sums.{put, sum_below, count_below, one_if}
use Rattle.volume.specs.declared.Inode.{Inode}
use Rattle.volume.specs.Reading.{Disk}
use Rattle.volume.specs.Pieces.{Pieces, pieces}
use Rattle.volume.specs.Nodes.{slot, number}
use Rattle.bitmap.specs.Numbers.{IsLowestFree}
use Rattle.inode.specs.Table.{with_inode}
use Rattle.block_store.specs.Volume.{Alters}
use Rattle.zone.specs.ZoneSteps.{bit_of}
use Rattle.block_store.specs.Regions.{with_zone}
use Rattle.zone.specs.PlaceParts.{IsSomeNumber, with_number}
use Rattle.zone.specs.Parts.{with_mark, with_fresh, with_slot}
use Rattle.zone.specs.Steps.{MarksZone, TakesZone, HasRoom, HoldsSlot, HoldsNumber, DropsSlot, DropsNumber}
use Rattle.block_store.proofs.Ending.{alters_over, alters_read}

-- pieces with a bit of the zone map
abbrev with_bit : Pieces → ℕ → Pieces
with_bit v n = record v { zone_map = put v.zone_map n true }

-- where all are set, all are counted
all_set : (map : ℕ → Bool) (n : ℕ) → ((j : ℕ) → 1 ≤ j → j < n + 1 → map j ≡ true) → count_below (λ k. map (k + 1)) n ≡ n
unfolding sum_below
all_set map zero h = refl
all_set map (suc n) h =
    let front = all_set map n (λ j low high. h j low (omega arith)) in
    let last : one_if (map (n + 1)) ≡ 1 = ap one_if (h (n + 1) (omega arith) (omega arith)) in
    omega arith

-- so where there is room some zone is free
pub not_full : (g : Geometry) (d : Disk) (x : Option ℕ) → x ≡ None → IsLowestFree x (pieces g d).zone_map 1 (g.zones - g.first_zone + 1) → HasRoom g (pieces g d) → ⊥
not_full g d x is low room =
    let all = all_set (pieces g d).zone_map (g.zones - g.first_zone) (subst (λ (y : Option ℕ). IsLowestFree y (pieces g d).zone_map 1 (g.zones - g.first_zone + 1)) is low) in
    absurd (omega arith)

-- the lowest free one is marked
pub zone_marked : (g : Geometry) (d e f : Disk) (x : Option ℕ) (bit : ℕ) → x ≡ Some bit → (e ≡ d) × IsLowestFree x (pieces g d).zone_map 1 (g.zones - g.first_zone + 1)
    → Alters g (with_bit (pieces g e) bit) e f → MarksZone g (g.first_zone + bit - 1) d f
zone_marked g d e f x bit is p a =
    let low = subst (λ (y : Option ℕ). IsLowestFree y (pieces g d).zone_map 1 (g.zones - g.first_zone + 1)) is p.1 in
    let z : ℕ = g.first_zone + bit - 1 in
    let from = low.0 in
    let to = low.1 in
    let nth : bit ≡ bit_of g z = omega arith in
    record {
      data_zone = and_from (nat_le g.first_zone z) (nat_lt z g.zones) (le-leb g.first_zone z (omega arith)) (lt-ltb z g.zones (omega arith));
      free = ap (pieces g d).zone_map (sym nth) ∙ low.2;
      alters = subst (λ (b : ℕ). Alters g (with_bit (pieces g d) b) d f) nth (alters_read g (λ v. with_bit v bit) d e f p.0 a);
    }

-- and filled with zeros
pub zone_taken : (g : Geometry) (d e f : Disk) (z : ℕ) → MarksZone g z d e → Alters g (with_zone (pieces g e) z (λ o. 0)) e f → TakesZone g z d f
zone_taken g d e f z m a = record { data_zone = m.data_zone; free = m.free; alters = alters_over g (λ v. with_zone v z (λ o. 0)) _ d e f m.alters a }

-- a slot that holds a zone
pub slot_there : (g : Geometry) (d e : Disk) (n s : ℕ) (i : Inode) → e ≡ d → i ≡ (pieces g d).inodes n → slot i s ≢ 0 → HoldsSlot g n s (slot i s) d e
slot_there g d e n s i same is some = record {
  there = λ _. (same, ap (λ j. slot j s) is);
  fresh = λ none. absurd (some (ap (λ j. slot j s) is ∙ none));
}

-- a slot that gets one
pub slot_filled : (g : Geometry) (d e f h : Disk) (n s z : ℕ) (i : Inode) → e ≡ d → i ≡ (pieces g d).inodes n → slot i s ≡ 0
    → TakesZone g z e f → Alters g (with_inode (pieces g f) n (record i { zones = slice_set i.zones s z })) f h → HoldsSlot g n s z d h
slot_filled g d e f h n s z i same is none t a = record {
  there = λ some. absurd (some (sym (ap (λ j. slot j s) is) ∙ none));
  fresh = λ _.
      let u = subst (λ (x : Disk). TakesZone g z x f) same t in
      record {
        data_zone = u.data_zone;
        free = u.free;
        alters = subst (λ (j : Inode). Alters g (with_inode (with_fresh g (pieces g d) z) n (record j { zones = slice_set j.zones s z })) d h) is
            (alters_over g (λ v. with_inode v n (record i { zones = slice_set i.zones s z })) _ d f h u.alters a);
      };
}

-- a number that names a zone
pub number_there : (g : Geometry) (d e : Disk) (b j x : ℕ) → e ≡ d → x ≡ number (pieces g d) b j → x ≢ 0 → HoldsNumber g b j x d e
number_there g d e b j x same is some = record { there = λ _. (same, is); fresh = λ none. absurd (some (is ∙ none)) }

-- one that gets one
pub number_filled : (g : Geometry) (d e f h : Disk) (b j x z : ℕ) → e ≡ d → x ≡ number (pieces g d) b j → x ≡ 0
    → TakesZone g z e f → Alters g (with_number (pieces g f) b j z) f h → HoldsNumber g b j z d h
number_filled g d e f h b j x z same is none t a = record {
  there = λ some. absurd (some (sym is ∙ none));
  fresh = λ _.
      let u = subst (λ (x : Disk). TakesZone g z x f) same t in
      record { data_zone = u.data_zone; free = u.free; alters = alters_over g (λ v. with_number v b j z) _ d f h u.alters a };
}

-- a slot whose zone is let go
pub slot_dropped : (g : Geometry) (d e f h : Disk) (n s z : ℕ) (i : Inode) → e ≡ d → i ≡ (pieces g d).inodes n → z ≡ slot i s
    → Alters g (with_inode (pieces g e) n (record i { zones = slice_set i.zones s 0 })) e f → Alters g (with_mark g (pieces g f) z false) f h → DropsSlot g n s d h
slot_dropped g d e f h n s z i same is at a b =
    let set = subst (λ (j : Inode). Alters g (with_inode (pieces g d) n (record j { zones = slice_set j.zones s 0 })) d f) is
    (alters_read g (λ v. with_inode v n (record i { zones = slice_set i.zones s 0 })) d e f same a) in
    subst (λ (y : ℕ). Alters g (with_mark g (with_slot (pieces g d) n s 0) y false) d h) (at ∙ ap (λ j. slot j s) is)
    (alters_over g (λ v. with_mark g v z false) _ d f h set b)

-- a number whose zone is let go
pub number_dropped : (g : Geometry) (d e f h : Disk) (b j z : ℕ) → e ≡ d → z ≡ number (pieces g d) b j
    → Alters g (with_number (pieces g e) b j 0) e f → Alters g (with_mark g (pieces g f) z false) f h → DropsNumber g b j d h
number_dropped g d e f h b j z same at a r =
    subst (λ (y : ℕ). Alters g (with_mark g (with_number (pieces g d) b j 0) y false) d h) at
    (alters_over g (λ v. with_mark g v z false) _ d f h (alters_read g (λ v. with_number v b j 0) d e f same a) r)

-- and what its block has left
pub dropped_and_some : (g : Geometry) (d e f : Disk) (b j : ℕ) (x : Option ℕ) → DropsNumber g b j d e → (f ≡ e) × IsSomeNumber g (pieces g e) b x
    → DropsNumber g b j d f × IsSomeNumber g (pieces g f) b x
dropped_and_some g d e f b j x p q = subst (λ (y : Disk). DropsNumber g b j d y × IsSomeNumber g (pieces g y) b x) (sym q.0) (p, q.1)
