-- An inode is marked or freed, and a word is four bytes.
use Rattle.std.proofs.Common.{◌≡◌, ◌≢◌, ◌⊎◌, ◌<◌, ◌≤◌, ◌+◌, ◌*◌, ◌-◌, ◌/◌, ◌%◌, ℕ, zero, suc, Bool, true, false, refl, sym, ap, ◌∙◌, cond, arith}
use mathlib.Core.Logic.{inl, inr, ◌↔◌}
use Rattle.std.specs.Prelude.{not, ◌&&◌, ◌==◌, nat_lt, IsTrue, Some, None}
use Rattle.std.proofs.lemmas.Bool.{cases_eq, cases_lt, cond-true, cond-false, eq-eqb, lt-ltb, le-ltb, and_parts}
use Rattle.layout.specs.declared.Geometry.{Geometry}
use Rattle.layout.specs.Places.{IsGeometry}
use Rattle.tree.specs.Space.{numbers_in_zone, pages_of}
use Rattle.lemmas.proofs.Maps.{is_put}
use Rattle.volume.specs.Reading.{is_inode, is_data_zone, u32_in}
use Rattle.volume.specs.declared.Inode.{Inode}
use Rattle.volume.specs.Pieces.{Pieces}
use Rattle.volume.specs.Nodes.{word, number, slot, zone_of, last_block, second_block, page_zone, page_byte, file_of, node_of, nodes_of, is_marked, is_mode, is_directory_mode}
use Rattle.volume.specs.Places.{zone_at, Use, has_number}
use Rattle.volume.specs.Entries.{is_directory_inode}
use Rattle.volume.specs.Holds.{ZonesAgree}
use Rattle.volume.proofs.Naming.{room, front, spot}
use Rattle.volume.proofs.Spots.{spot_top, spot_next, front_below}
use Rattle.volume.proofs.Bridge.{naming, zone_spot, no_level}
use Rattle.volume.proofs.Volumes.{numbers_sized}
use Rattle.zone.specs.ZoneSteps.{IsSoundBut, node_from}
use Rattle.zone.specs.Inodes.{ChangesInode, ChangeKeeps, ChangedNodes, NoSlotsNoPlaces, FourBytes}
use Rattle.zone.proofs.OnePlaces.{branch, both_same}
use Rattle.zone.proofs.Files.{same_file, directory_kept}

-- a marked inode is one of the volume's
pub inode_is : (g : Geometry) (v : Pieces) (n : ℕ) → IsTrue (is_marked g v n) → IsTrue (is_inode g n)
inode_is g v n is = (and_parts (is_inode g n) (v.inode_map n) is).0

-- places by the bytes of zones and the inode alone
zones_same : (g : Geometry) (v w : Pieces) (i j : Inode) (a k : ℕ) → w.zones ≡ v.zones → j ≡ i → zone_at g w j a k ≡ zone_at g v i a k
zones_same g v w i j zero k e d = λ t. zone_of (numbers_in_zone g) (record w { zones = e t }) (d t) k
zones_same g v w i j (suc zero) k e d = λ t. last_block (numbers_in_zone g) (record w { zones = e t }) (d t) k
zones_same g v w i j (suc (suc zero)) k e d = λ t. second_block (numbers_in_zone g) (record w { zones = e t }) (d t) k
zones_same g v w i j (suc (suc (suc l))) k e d = λ t. cond ((l == 0) && (k == 0)) (slot (d t) 9) 0

module _ (g : Geometry) (v w : Pieces) (n : ℕ) (s : ChangesInode g v w n) where
  -- other inodes
  other_back : (m : ℕ) → m ≢ n → IsTrue (is_marked g w m) → IsTrue (is_marked g v m)
  other_back m d is = ap (λ b. is_inode g m && b) (sym (s.marks m d)) ∙ is

  other_on : (m : ℕ) → m ≢ n → IsTrue (is_marked g v m) → IsTrue (is_marked g w m)
  other_on m d is = ap (λ b. is_inode g m && b) (s.marks m d) ∙ is

  other_place : (m a i : ℕ) → m ≢ n → zone_at g w (w.inodes m) a i ≡ zone_at g v (v.inodes m) a i
  other_place m a i d = zones_same g v w (v.inodes m) (w.inodes m) a i s.zones (s.others m d)

  -- a use is another's
  not_n : (y m a i : ℕ) → y ≢ 0 → IsTrue (is_marked g w m) → zone_at g w (w.inodes m) a i ≡ y → m ≢ n
  not_n y m a i some is names e = some (sym names ∙ (λ t. zone_at g w (w.inodes (e t)) a i) ∙ s.after (ap (is_marked g w) (sym e) ∙ is) a i)

  not_n_before : (y m a i : ℕ) → y ≢ 0 → IsTrue (is_marked g v m) → zone_at g v (v.inodes m) a i ≡ y → m ≢ n
  not_n_before y m a i some is names e = some (sym names ∙ (λ t. zone_at g v (v.inodes (e t)) a i) ∙ s.before (ap (is_marked g v) (sym e) ∙ is) a i)

  use_back : (y : ℕ) → y ≢ 0 → (u : Use g w y) → zone_at g v (v.inodes u.inode) u.level u.index ≡ y
  use_back y some u = sym (other_place u.inode u.level u.index (not_n y u.inode u.level u.index some u.marked u.names)) ∙ u.names

  abbrev back : (y : ℕ) (some : y ≢ 0) (u : Use g w y) → Use g v y
  back y some u = record { inode = u.inode; level = u.level; index = u.index; marked = other_back u.inode (not_n y u.inode u.level u.index some u.marked u.names) u.marked; names = use_back y some u }

  abbrev on : (y : ℕ) (some : y ≢ 0) (u : Use g v y) → Use g w y
  on y some u =
      let d = not_n_before y u.inode u.level u.index some u.marked u.names in
      record { inode = u.inode; level = u.level; index = u.index; marked = other_on u.inode d u.marked; names = other_place u.inode u.level u.index d ∙ u.names }

  other_file : (m : ℕ) → m ≢ n → file_of g w (w.inodes m) ≡ file_of g v (v.inodes m)
  other_file m d =
      let pages = λ (q : ℕ). other_place m 0 q d in
      same_file _ _ (ap (λ x. x.size) (s.others m d))
      (λ i q. cond (nat_lt q (s.others m d i).size) (cond (pages (q / g.block_size) i == 0) 0 (s.zones i (pages (q / g.block_size) i) (q % g.block_size))) 0)
      (λ i q. not (pages q i == 0))

  module _ (ok : IsGeometry g) (agree : ZonesAgree g v) where
    change_agrees : ZonesAgree g w
    change_agrees = record {
      inode_bit_0 = s.marks 0 (λ e. s.some (sym e)) ∙ agree.inode_bit_0;
      zone_bit_0 = ap (λ (f : ℕ → Bool). f 0) s.map ∙ agree.zone_bit_0;
      numbers = λ y some u. agree.numbers y some (back y some u);
      once = λ y some a b. let r = agree.once y some (back y some a) (back y some b) in record { inode = r.inode; level = r.level; index = r.index };
      mapped = λ y is.
          let bit = ap (λ (f : ℕ → Bool). f (y - g.first_zone + 1)) s.map in
          let some = Rattle.volume.proofs.Ranges.data_some g v ok y is in
          (λ set. on y some ((agree.mapped y is).0 (sym bit ∙ set)), λ u. bit ∙ (agree.mapped y is).1 (back y some u));
    }

pub change_keeps : ChangeKeeps
change_keeps g v w n k ok s b = record {
  zones = change_agrees g v w n s ok b.zones;
  modes = λ m is. elim (cases_eq m n) [
    | inl e ↦ (λ i. is_mode (w.inodes (e i)).mode) ∙ s.mode (ap (is_marked g w) (sym e) ∙ is)
    | inr d ↦ ap (λ x. is_mode x.mode) (s.others m d) ∙ b.modes m (other_back g v w n s m d is)
  ];
  inside = λ m p is some.
      let d = not_n g v w n s (page_zone g w (w.inodes m) p) m 0 p some is refl in
      let low = b.inside m p (other_back g v w n s m d is) (λ none. some (other_place g v w n s m 0 p d ∙ none)) in
      let wide : pages_of g (w.inodes m).size ≡ pages_of g (v.inodes m).size = ap (λ x. pages_of g x.size) (s.others m d) in
      omega arith;
  full = λ m a i is apart some.
      let d = not_n g v w n s (zone_at g w (w.inodes m) (suc a) i) m (suc a) i some is refl in
      let same = other_place g v w n s m (suc a) i d in
      let has = b.full m a i (other_back g v w n s m d is) apart (λ none. some (same ∙ none)) in
      (λ t. has_number g (record w { zones = s.zones t }) (same t)) ∙ has;
  directories = λ m is d.
      let was : IsTrue (is_directory_inode g v m) = (λ i. (is_inode g m && sym (s.marks m d) i) && is_directory_mode (sym (s.others m d) i).mode) ∙ is in
      directory_kept g v w m (other_file g v w n s m d) (b.directories m was d);
}

pub changed_nodes : ChangedNodes
changed_nodes g v w n s = is_put (nodes_of g v) (nodes_of g w) n (nodes_of g w n) refl
    (λ m d. λ i. cond (is_inode g m && s.marks m d i) (Some (node_from (s.others m d i) (other_file g v w n s m d i))) None)

pub no_slots_no_places : NoSlotsNoPlaces
no_slots_no_places g v n ok none a i = elim (cases_lt a 4) [
  | inr far ↦ no_level g v (numbers_sized g ok) n a i far
  | inl low ↦ zone_spot g v (numbers_sized g ok) n a i low ∙ every (3 - a) i (omega arith)
]
  where
    every : (h i : ℕ) → h < 4 → spot (naming g v) n h i ≡ 0
    every zero i low = spot_top (naming g v) n i ∙ ap (λ x. cond (i == 0) x 0) (none 9 (omega arith)) ∙ both_same (i == 0) 0
    every (suc h) i low =
        spot_next (naming g v) n h i ∙ elim (cases_lt i (room h)) [
          | inl near ↦
              let at = front_below h i (omega arith) near in
              cond-true (nat_lt i (room h)) _ _ (lt-ltb i (room h) near) ∙ none (front h + i) (omega arith)
          | inr far ↦
              cond-false (nat_lt i (room h)) _ _ (le-ltb i (room h) far)
              ∙ ap (λ y. number v y ((i - room h) % numbers_in_zone g)) (every h ((i - room h) / numbers_in_zone g) (omega arith))
        ]

pub four_bytes : FourBytes
four_bytes v w y j x same is = record {
  here = is;
  words = λ t d.
      let side : (4 * t + 4 ≤ 4 * j) ⊎ (4 * j + 4 ≤ 4 * t) = elim (cases_lt t j) [ inl l ↦ inl (omega arith) | inr m ↦ inr (omega arith) ] in
      let a = same (4 * t) (near t (4 * t) side (omega arith) (omega arith)) in
      let b = same (4 * t + 1) (near t (4 * t + 1) side (omega arith) (omega arith)) in
      let c = same (4 * t + 2) (near t (4 * t + 2) side (omega arith) (omega arith)) in
      let e = same (4 * t + 2 + 1) (near t (4 * t + 2 + 1) side (omega arith) (omega arith)) in
      omega arith;
}
  where
    near : (t o : ℕ) → (4 * t + 4 ≤ 4 * j) ⊎ (4 * j + 4 ≤ 4 * t) → 4 * t ≤ o → o < 4 * t + 4 → (o < 4 * j) ⊎ (4 * j + 4 ≤ o)
    near t o (inl l) h k = inl (omega arith)
    near t o (inr m) h k = inr (omega arith)
