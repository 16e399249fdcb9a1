-- Where no finding of version 2 holds, the rules of the format on zones hold.
use Rattle.std.proofs.Common.{◌≡◌, ◌≢◌, ◌<◌, ◌≤◌, ◌+◌, ◌-◌, ℕ, suc, true, false, sym, ap, ◌∙◌, cond, arith}
use mathlib.Core.Logic.{inl, inr, ◌↔◌}
use Rattle.std.specs.Prelude.{not, ◌==◌, nat_lt}
use Rattle.std.proofs.lemmas.Bool.{cases_Bool, cases_lt, or_parts, cond-true, cond-false, ne_eqb, eqb-true, eqb-false, ltb-false, le-leb}
use Rattle.std.proofs.lemmas.Bool.{not-false, not_from_false}
use Rattle.lemmas.proofs.Bools.{and_false_right}
use Rattle.layout.specs.declared.Geometry.{Geometry}
use Rattle.tree.specs.ZonesNeeded.{page_limit}
use Rattle.tree.specs.Space.{pages_of, numbers_in_zone}
use Rattle.volume.specs.Reading.{is_data_zone}
use Rattle.volume.specs.Pieces.{Pieces}
use Rattle.volume.specs.Nodes.{page_zone, is_marked}
use Rattle.volume.specs.Places.{zone_at, Use, IsSamePlace, has_number, uses}
use Rattle.volume.specs.Verdict.{place_limit}
use Rattle.volume.specs.Holds.{ZonesAgree, IsSoundInode}
use Rattle.volume.proofs.Sums.{none_below}
use Rattle.volume.proofs.Once.{same_place, used_place, place_used}
use Rattle.volume.proofs.Bridge.{naming, uses_are, zone_spot, no_level, no_index, place_of_use, level_low, use_of_place}
use Rattle.migrate.proofs.Quiet.{Quiet}
use Rattle.volume.proofs.Volumes.{IsVolume}
use Rattle.volume.proofs.Ranges.{marked_below, data_some, at_inode, at_zone}

module _ (g : Geometry) (v : Pieces) (ok : IsVolume g v) (q : Quiet g v) where
  -- each place names a data zone or nothing
  data_at : (n l k : ℕ) → is_marked g v n ≡ true → zone_at g v (v.inodes n) l k ≢ 0 → is_data_zone g (zone_at g v (v.inodes n) l k) ≡ true
  data_at n l k is some = elim (cases_lt l 4) [
    | inr far ↦ absurd (some (no_level g v ok.sized n l k far))
    | inl low ↦ elim (cases_lt k (page_limit (numbers_in_zone g))) [
      | inr far ↦ absurd (some (no_index g v ok.sized n l k low far))
      | inl near ↦
          let all = at_inode g v _ n q.numbers is in
          let level = none_below _ 4 all l low in
          let here = none_below _ (page_limit (numbers_in_zone g)) level k near in
          not-false _ (and_false_right (not (zone_at g v (v.inodes n) l k == 0)) _ here
          (not_from_false (zone_at g v (v.inodes n) l k == 0) (ne_eqb _ 0 some)))
    ]
  ]

  -- what has a use is a data zone
  numbers : (z : ℕ) → z ≢ 0 → Use g v z → is_data_zone g z ≡ true
  numbers z some u = ap (is_data_zone g) (sym u.names) ∙ data_at u.inode u.level u.index u.marked (λ e. some (sym u.names ∙ e))

  -- what is counted has a use
  use_of_uses : (z : ℕ) → 0 < uses g v z → Use g v z
  use_of_uses z h = let e = uses_are g v ok.sized z in use_of_place g v ok.sized z
      (used_place (naming g v) ok.sized (marked_below g v) ok.words z (omega arith))

  -- what has a use is counted
  uses_of_use : (z : ℕ) → z ≢ 0 → Use g v z → 0 < uses g v z
  uses_of_use z some u =
      let e = uses_are g v ok.sized z in
      let more = place_used (naming g v) ok.sized (marked_below g v) ok.words z some (place_of_use g v ok.sized z some u) in
      omega arith

  -- each zone is counted once at most
  single : (z : ℕ) → z ≢ 0 → uses g v z ≤ 1
  single z some = elim (cases_Bool (is_data_zone g z)) [
    | inl is ↦ ltb-false 1 _ (at_zone g v _ z q.twice is)
    | inr out ↦ elim (cases_lt 0 (uses g v z)) [
      | inl more ↦ let is = numbers z some (use_of_uses z more) in absurd (cc)
      | inr none ↦ omega arith
    ]
  ]

  -- so two uses of a zone are one
  once : (z : ℕ) → z ≢ 0 → (a b : Use g v z) → IsSamePlace a b
  once z some a b =
      let la = level_low g v ok.sized z some a in
      let lb = level_low g v ok.sized z some b in
      let r = same_place (naming g v) ok.sized (marked_below g v) ok.words
      (λ y s. let e = uses_are g v ok.sized y in let o = single y s in omega arith)
      (3 - a.level) a.inode a.index (3 - b.level) b.inode b.index z (omega arith) (omega arith) a.marked b.marked
      (sym (zone_spot g v ok.sized a.inode a.level a.index la) ∙ a.names)
      (sym (zone_spot g v ok.sized b.inode b.level b.index lb) ∙ b.names) some in
      record { inode = r.0; level = omega (arith, r.1); index = r.2 }

  -- a data zone is marked where it has a use
  mapped : (z : ℕ) → is_data_zone g z ≡ true → (v.zone_map (z - g.first_zone + 1) ≡ true) ↔ Use g v z
  mapped z is =
      let bit = v.zone_map (z - g.first_zone + 1) in
      let differ : cond bit (uses g v z == 0) (nat_lt 0 (uses g v z)) ≡ false = at_zone g v _ z q.bits is in (
        λ set. let some = eqb-false _ 0 (sym (cond-true bit (uses g v z == 0) (nat_lt 0 (uses g v z)) set) ∙ differ) in
            use_of_uses z (omega arith),
        λ u. elim (cases_Bool bit) [
          | inl set ↦ set
          | inr clear ↦
              let some = uses_of_use z (data_some g v ok.geometry z is) u in
              let none = ltb-false 0 _ (sym (cond-false bit (uses g v z == 0) (nat_lt 0 (uses g v z)) clear) ∙ differ) in
              absurd (omega arith)
        ],
      )

  -- all rules of zones
  pub zones_agree : ZonesAgree g v
  zones_agree = record {
    inode_bit_0 = not-false _ (none_below _ (place_limit g) q.inode_bit 0 (omega arith));
    zone_bit_0 = not-false _ (none_below _ (place_limit g) q.zone_bit 0 (omega arith));
    numbers = numbers;
    once = once;
    mapped = mapped;
  }

  -- no page past the end has a zone
  inside : (n p : ℕ) → is_marked g v n ≡ true → page_zone g v (v.inodes n) p ≢ 0 → p < pages_of g (v.inodes n).size
  inside n p is some = elim (cases_lt p (page_limit (numbers_in_zone g))) [
    | inr far ↦ absurd (some (no_index g v ok.sized n 0 p (omega arith) far))
    | inl near ↦
        let both = or_parts _ _ (at_inode g v _ n q.ends is) in
        let here = none_below _ (page_limit (numbers_in_zone g)) both.0 p near in
        elim (cases_lt p (pages_of g (v.inodes n).size)) [
          | inl low ↦ low
          | inr past ↦
              let f = and_false_right _ _ here (le-leb (pages_of g (v.inodes n).size) p past) in
              absurd (some (eqb-true _ 0 (not-false _ f)))
        ]
  ]

  -- each block has a number
  full : (n l k : ℕ) → is_marked g v n ≡ true → zone_at g v (v.inodes n) (suc l) k ≢ 0
      → has_number g v (zone_at g v (v.inodes n) (suc l) k) ≡ true
  full n l k is some = elim (cases_lt l 3) [
    | inr far ↦ absurd (some (no_level g v ok.sized n (suc l) k (omega arith)))
    | inl low ↦ elim (cases_lt k (page_limit (numbers_in_zone g))) [
      | inr far ↦ absurd (some (no_index g v ok.sized n (suc l) k (omega arith) far))
      | inl near ↦
          let both = or_parts _ _ (at_inode g v _ n q.ends is) in
          let level = none_below _ 3 both.1 l low in
          let here = none_below _ (page_limit (numbers_in_zone g)) level k near in
          not-false _ (and_false_right (not (zone_at g v (v.inodes n) (suc l) k == 0)) _ here
          (not_from_false (zone_at g v (v.inodes n) (suc l) k == 0) (ne_eqb _ 0 some)))
    ]
  ]

  -- all rules of an inode
  pub sound_inode : (n : ℕ) → is_marked g v n ≡ true → IsSoundInode g v (v.inodes n)
  sound_inode n is = record {
    mode = not-false _ (at_inode g v _ n q.modes is);
    inside = λ p. inside n p is;
    full = λ l k. full n l k is;
  }
