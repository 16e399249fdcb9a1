-- Each zone that is named is named once and marked, before and after a number changes.
use Rattle.std.proofs.Common.{◌≡◌, ◌≢◌, ◌⊎◌, ◌<◌, ◌≤◌, ◌+◌, ◌-◌, ℕ, zero, suc, Bool, true, false, refl, sym, ap, ◌∙◌, cond, arith}
use mathlib.Core.Logic.{inl, inr, ◌↔◌}
use Rattle.std.specs.Prelude.{◌&&◌, ◌==◌, IsTrue}
use Rattle.std.proofs.lemmas.Bool.{cases_eq, both_ways}
use Rattle.layout.specs.declared.Geometry.{Geometry}
use Rattle.layout.specs.Places.{IsGeometry}
use Rattle.lemmas.specs.Sums.{put}
use Rattle.lemmas.proofs.Maps.{put-same, put-other}
use Rattle.volume.specs.Reading.{is_data_zone, is_inode}
use Rattle.volume.specs.Pieces.{Pieces}
use Rattle.volume.specs.Nodes.{is_marked}
use Rattle.volume.specs.Places.{zone_at, Use, IsSamePlace}
use Rattle.volume.specs.Holds.{ZonesAgree}
use Rattle.volume.proofs.Ranges.{data_low, data_some}
use Rattle.zone.specs.ZoneSteps.{Same, OnePlace, SameInodes, Links, Unlinks, bit_of}
use Rattle.zone.proofs.Change.{same_or_not}

module _ (g : Geometry) (v w : Pieces) (same : SameInodes g v w) where
  -- the marked inodes stay
  pub marked_back : (m : ℕ) → IsTrue (is_marked g w m) → IsTrue (is_marked g v m)
  marked_back m is = ap (λ (f : ℕ → Bool). is_inode g m && f m) (sym same.marks) ∙ is

  pub marked_on : (m : ℕ) → IsTrue (is_marked g v m) → IsTrue (is_marked g w m)
  marked_on m is = ap (λ (f : ℕ → Bool). is_inode g m && f m) same.marks ∙ is

module _ (g : Geometry) (v w : Pieces) (n l k x : ℕ) (same : SameInodes g v w) (one : OnePlace g v w n l k x) where
  -- a use of w is at the place, or one of v
  pub use_cases : (y : ℕ) (u : Use g w y)
      → (Same n l k u.inode u.level u.index × (y ≡ x)) ⊎ ((Same n l k u.inode u.level u.index → ⊥) × (zone_at g v (v.inodes u.inode) u.level u.index ≡ y))
  use_cases y u = elim (same_or_not n l k u.inode u.level u.index) [
    | inl e ↦ inl (e, sym u.names ∙ (λ i. zone_at g w (w.inodes (e.0 i)) (e.1 i) (e.2 i)) ∙ one.here)
    | inr d ↦ inr (d, sym (one.others u.inode u.level u.index (marked_back g v w same u.inode u.marked) d) ∙ u.names)
  ]

  -- that of v
  abbrev pub back : (y : ℕ) (u : Use g w y) → zone_at g v (v.inodes u.inode) u.level u.index ≡ y → Use g v y
  back y u e = record { inode = u.inode; level = u.level; index = u.index; marked = marked_back g v w same u.inode u.marked; names = e }

  -- a use of v that is elsewhere is one of w
  abbrev pub on : (y : ℕ) (u : Use g v y) → (Same n l k u.inode u.level u.index → ⊥) → Use g w y
  on y u apart = record {
    inode = u.inode;
    level = u.level;
    index = u.index;
    marked = marked_on g v w same u.inode u.marked;
    names = one.others u.inode u.level u.index u.marked apart ∙ u.names;
  }

-- the bits of two data zones are two
pub bits_apart : (g : Geometry) (v : Pieces) (y z : ℕ) → IsTrue (is_data_zone g y) → IsTrue (is_data_zone g z) → y ≢ z → bit_of g y ≢ bit_of g z
bits_apart g v y z a b apart e = let c = data_low g v y a in let d = data_low g v z b in apart (omega (arith, c.0, d.0, e))

module _ (g : Geometry) (ok : IsGeometry g) (v w : Pieces) (n l k z : ℕ) (s : Links g v w n l k z) (agree : ZonesAgree g v) where
  -- the zone had no use
  unused : Use g v z → ⊥
  unused u = both_ways (v.zone_map (bit_of g z)) s.free ((agree.mapped z s.data_zone).1 u)

  -- so no use stays that is of it
  not_z : (y : ℕ) → y ≡ z → (u : Use g w y) → zone_at g v (v.inodes u.inode) u.level u.index ≡ y → ⊥
  not_z y e u was = unused (record { inode = u.inode; level = u.level; index = u.index; marked = marked_back g v w s.inodes u.inode u.marked; names = was ∙ e })

  some_z : z ≢ 0
  some_z = data_some g v ok z s.data_zone

  link_mapped : (y : ℕ) → IsTrue (is_data_zone g y) → (w.zone_map (bit_of g y) ≡ true) ↔ Use g w y
  link_mapped y is = elim (cases_eq y z) [
    | inl e ↦ (
      λ _. record { inode = n; level = l; index = k; marked = marked_on g v w s.inodes n s.marked; names = s.place.here ∙ sym e },
      λ _. ap (λ (f : ℕ → Bool). f (bit_of g y)) s.map ∙ ap (λ a. put v.zone_map (bit_of g z) true (bit_of g a)) e ∙ put-same v.zone_map (bit_of g z) true,
    )
    | inr d ↦
        let bit : w.zone_map (bit_of g y) ≡ v.zone_map (bit_of g y) = ap (λ (f : ℕ → Bool). f (bit_of g y)) s.map ∙ put-other v.zone_map (bit_of g z) true (bit_of g y) (bits_apart g v y z is s.data_zone d) in
        let some_y = data_some g v ok y is in (
          λ set. let u = (agree.mapped y is).0 (sym bit ∙ set) in
              on g v w n l k z s.inodes s.place y u (λ e. some_y (sym u.names ∙ (λ i. zone_at g v (v.inodes (e.0 i)) (e.1 i) (e.2 i)) ∙ s.was)),
          λ u. bit ∙ (agree.mapped y is).1 (elim (use_cases g v w n l k z s.inodes s.place y u) [
            | inl e ↦ absurd (d e.1)
            | inr e ↦ back g v w n l k z s.inodes s.place y u e.1
          ]),
        )
  ]

  pub link_agrees : ZonesAgree g w
  link_agrees = record {
    inode_bit_0 = ap (λ (f : ℕ → Bool). f 0) s.inodes.marks ∙ agree.inode_bit_0;
    zone_bit_0 = ap (λ (f : ℕ → Bool). f 0) s.map ∙ put-other v.zone_map (bit_of g z) true 0 (λ e. absurd (omega arith)) ∙ agree.zone_bit_0;
    numbers = λ y some u. elim (use_cases g v w n l k z s.inodes s.place y u) [
      | inl e ↦ ap (is_data_zone g) e.1 ∙ s.data_zone
      | inr e ↦ agree.numbers y some (back g v w n l k z s.inodes s.place y u e.1)
    ];
    once = λ y some a b. elim (use_cases g v w n l k z s.inodes s.place y a) [
      | inl e ↦ elim (use_cases g v w n l k z s.inodes s.place y b) [
        | inl f ↦ record { inode = e.0.0 ∙ sym f.0.0; level = e.0.1 ∙ sym f.0.1; index = e.0.2 ∙ sym f.0.2 }
        | inr f ↦ absurd (not_z y e.1 b f.1)
      ]
      | inr e ↦ elim (use_cases g v w n l k z s.inodes s.place y b) [
        | inl f ↦ absurd (not_z y f.1 a e.1)
        | inr f ↦
            let r = agree.once y some (back g v w n l k z s.inodes s.place y a e.1) (back g v w n l k z s.inodes s.place y b f.1) in
            record { inode = r.inode; level = r.level; index = r.index }
      ]
    ];
    mapped = link_mapped;
  }

module _ (g : Geometry) (ok : IsGeometry g) (v w : Pieces) (n l k z : ℕ) (s : Unlinks g v w n l k z) (agree : ZonesAgree g v) where
  -- the use that goes
  abbrev gone : Use g v z
  gone = record { inode = n; level = l; index = k; marked = s.marked; names = s.was }

  data_z : IsTrue (is_data_zone g z)
  data_z = agree.numbers z s.some gone

  -- no use is left
  none_left : Use g w z → ⊥
  none_left u = elim (use_cases g v w n l k 0 s.inodes s.place z u) [
    | inl e ↦ s.some e.1
    | inr e ↦ let r = agree.once z s.some (back g v w n l k 0 s.inodes s.place z u e.1) gone in e.0 (r.inode, r.level, r.index)
  ]

  unlink_mapped : (y : ℕ) → IsTrue (is_data_zone g y) → (w.zone_map (bit_of g y) ≡ true) ↔ Use g w y
  unlink_mapped y is = elim (cases_eq y z) [
    | inl e ↦
        let bit : w.zone_map (bit_of g y) ≡ false = ap (λ (f : ℕ → Bool). f (bit_of g y)) s.map ∙ ap (λ a. put v.zone_map (bit_of g z) false (bit_of g a)) e ∙ put-same v.zone_map (bit_of g z) false in (
          λ set. absurd (both_ways (w.zone_map (bit_of g y)) bit set),
          λ u. absurd (none_left (record { inode = u.inode; level = u.level; index = u.index; marked = u.marked; names = u.names ∙ e })),
        )
    | inr d ↦
        let bit : w.zone_map (bit_of g y) ≡ v.zone_map (bit_of g y) = ap (λ (f : ℕ → Bool). f (bit_of g y)) s.map ∙ put-other v.zone_map (bit_of g z) false (bit_of g y) (bits_apart g v y z is data_z d) in
        let some_y = data_some g v ok y is in (
          λ set. let u = (agree.mapped y is).0 (sym bit ∙ set) in
              on g v w n l k 0 s.inodes s.place y u (λ e. d (sym u.names ∙ (λ i. zone_at g v (v.inodes (e.0 i)) (e.1 i) (e.2 i)) ∙ s.was)),
          λ u. bit ∙ (agree.mapped y is).1 (elim (use_cases g v w n l k 0 s.inodes s.place y u) [
            | inl e ↦ absurd (some_y e.1)
            | inr e ↦ back g v w n l k 0 s.inodes s.place y u e.1
          ]),
        )
  ]

  pub unlink_agrees : ZonesAgree g w
  unlink_agrees = record {
    inode_bit_0 = ap (λ (f : ℕ → Bool). f 0) s.inodes.marks ∙ agree.inode_bit_0;
    zone_bit_0 = ap (λ (f : ℕ → Bool). f 0) s.map ∙ put-other v.zone_map (bit_of g z) false 0 (λ e. absurd (omega arith)) ∙ agree.zone_bit_0;
    numbers = λ y some u. elim (use_cases g v w n l k 0 s.inodes s.place y u) [
      | inl e ↦ absurd (some e.1)
      | inr e ↦ agree.numbers y some (back g v w n l k 0 s.inodes s.place y u e.1)
    ];
    once = λ y some a b. elim (use_cases g v w n l k 0 s.inodes s.place y a) [
      | inl e ↦ absurd (some e.1)
      | inr e ↦ elim (use_cases g v w n l k 0 s.inodes s.place y b) [
        | inl f ↦ absurd (some f.1)
        | inr f ↦
            let r = agree.once y some (back g v w n l k 0 s.inodes s.place y a e.1) (back g v w n l k 0 s.inodes s.place y b f.1) in
            record { inode = r.inode; level = r.level; index = r.index }
      ]
    ];
    mapped = unlink_mapped;
  }
