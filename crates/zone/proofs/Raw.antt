-- From changes of the pieces to steps.
use Rattle.std.proofs.Common.{◌≡◌, ◌≢◌, ◌⊎◌, ◌<◌, ◌≤◌, ◌+◌, ◌*◌, ◌-◌, ◌/◌, ◌%◌, ℕ, zero, suc, Bool, true, false, refl, sym, ap, ◌∙◌, cond, arith}
use mathlib.Core.Logic.{inl, inr}
use Rattle.std.specs.Prelude.{◌&&◌, ◌==◌, IsTrue}
use Rattle.std.proofs.lemmas.Bool.{cases_eq, cond-true, cond-false, eq-eqb, ne_eqb, both_ways}
use Rattle.layout.specs.declared.Geometry.{Geometry}
use Rattle.layout.specs.Places.{IsGeometry}
use Rattle.tree.specs.Space.{numbers_in_zone}
use Rattle.volume.specs.Reading.{is_data_zone, u32_in}
use Rattle.volume.specs.Pieces.{Pieces}
use Rattle.volume.specs.Nodes.{word, number, slot, page_zone, is_marked}
use Rattle.volume.specs.Places.{zone_at, Use}
use Rattle.volume.specs.Holds.{ZonesAgree}
use Rattle.zone.specs.ZoneSteps.{Same, slot_of, above, beside, bit_of, IsBare, OnePlace, SameInodes, SetsSlot, SetsWord, Links, Unlinks}
use Rattle.zone.specs.Raw.{SetsInode, SetsBlock, Takes, FillsSlot, FillsWord, ClearsSlot, ClearsWord, FilledSlotLinks, FilledWordLinks, ClearedSlotUnlinks, ClearedWordUnlinks}
use Rattle.zone.proofs.OnePlaces.{branch, both_same, one_place_of_slot, one_place_of_word}

-- a zone of zeros has no number
pub zeros_bare : (g : Geometry) (w : Pieces) (z : ℕ) → ((o : ℕ) → w.zones z o ≡ 0) → IsBare g w z
zeros_bare g w z zeros j low =
    let a = zeros (4 * j) in
    let b = zeros (4 * j + 1) in
    let c = zeros (4 * j + 2) in
    let d = zeros (4 * j + 2 + 1) in
    let e : word w z j ≡ 0 = omega arith in
    branch (z == 0) 0 (word w z j) 0 0 (λ _. refl) (λ _. e) ∙ both_same (z == 0) 0

-- zone 0 has none
pub hole_bare : (g : Geometry) (w : Pieces) → IsBare g w 0
hole_bare g w j low = refl

-- a zone that is free has no use
pub free_unused : (g : Geometry) (v w : Pieces) (z : ℕ) → ZonesAgree g v → Takes g v w z → (m a i : ℕ) → IsTrue (is_marked g v m) → zone_at g v (v.inodes m) a i ≢ z
free_unused g v w z agree t m a i is e =
    both_ways (v.zone_map (bit_of g z)) t.free ((agree.mapped z t.data_zone).1 (record { inode = m; level = a; index = i; marked = is; names = e }))

module _ (v w : Pieces) (n s x : ℕ) (h : SetsInode v w n s x) where
  -- each inode but its zones
  pub all_attributes : (m : ℕ) → w.inodes m ≡ record (v.inodes m) { zones = (w.inodes m).zones }
  all_attributes m = elim (cases_eq m n) [
    | inl e ↦ ap w.inodes e ∙ h.attributes ∙ sym (λ i. record (v.inodes (e i)) { zones = (w.inodes (e i)).zones })
    | inr d ↦ h.others m d ∙ ap (λ z. record (v.inodes m) { zones = z }) (ap (λ i. i.zones) (sym (h.others m d)))
  ]

  -- each other slot
  pub all_slots : (m t : ℕ) → ((m ≡ n) × (t ≡ s) → ⊥) → slot (w.inodes m) t ≡ slot (v.inodes m) t
  all_slots m t apart = elim (cases_eq m n) [
    | inl e ↦ (λ i. slot (w.inodes (e i)) t) ∙ h.slots t (λ o. apart (e, o)) ∙ sym (λ i. slot (v.inodes (e i)) t)
    | inr d ↦ ap (λ i. slot i t) (h.others m d)
  ]

-- where inodes stay, so does all of them
pub no_attributes : (v w : Pieces) → w.inodes ≡ v.inodes → (m : ℕ) → w.inodes m ≡ record (v.inodes m) { zones = (w.inodes m).zones }
no_attributes v w e m = ap (λ f. f m) e ∙ ap (λ z. record (v.inodes m) { zones = z }) (sym (ap (λ f. (f m).zones) e))

-- words of a zone that stays
pub words_of : (v w : Pieces) (y j : ℕ) → w.zones y ≡ v.zones y → word w y j ≡ word v y j
words_of v w y j e = ap (λ (f : ℕ → ℕ). u32_in f (4 * j)) e

-- what held no number is bare
pub none_bare : (g : Geometry) (v : Pieces) (y : ℕ) → y ≡ 0 → IsBare g v y
none_bare g v y e j low = ap (λ x. number v x j) e

pub filled_slot_links : FilledSlotLinks
filled_slot_links g v w n l k z ok agree s = record {
  marked = s.marked;
  level = s.level;
  was = s.was;
  data_zone = s.takes.data_zone;
  free = s.takes.free;
  map = s.takes.map;
  zeros = s.takes.zeros;
  inodes = record { marks = s.marks; attributes = all_attributes v w n (slot_of l k) z s.number };
  pages = λ m p is some. s.zones (page_zone g v (v.inodes m) p) (free_unused g v w z agree s.takes m 0 p is);
  place = one_place_of_slot g v w n l k z ok s.marked
      (record {
        level = s.level;
        place = s.place;
        here = s.number.here;
        others = all_slots v w n (slot_of l k) z s.number;
        words = λ m a i j is block some. words_of v w (zone_at g v (v.inodes m) a i) j (s.zones _ (free_unused g v w z agree s.takes m a i is));
      })
      (λ _. none_bare g v (zone_at g v (v.inodes n) l k) s.was) (λ _. zeros_bare g w z s.takes.zeros);
}

pub cleared_slot_unlinks : ClearedSlotUnlinks
cleared_slot_unlinks g v w n l k z ok agree s = record {
  marked = s.marked;
  level = s.level;
  some = s.some;
  was = s.was;
  map = s.map;
  inodes = record { marks = s.marks; attributes = all_attributes v w n (slot_of l k) 0 s.number };
  pages = λ m p is some apart. ap (λ f. f (page_zone g v (v.inodes m) p)) s.zones;
  place = one_place_of_slot g v w n l k 0 ok s.marked
      (record {
        level = s.level;
        place = s.place;
        here = s.number.here;
        others = all_slots v w n (slot_of l k) 0 s.number;
        words = λ m a i j is block some. words_of v w (zone_at g v (v.inodes m) a i) j (ap (λ f. f (zone_at g v (v.inodes m) a i)) s.zones);
      })
      (λ b j r. ap (λ y. number v y j) s.was ∙ s.bare b j r) (λ _. hole_bare g w);
}

-- a word of a block that is another block's or another word
other_words : (v w : Pieces) (y b j t x : ℕ) → SetsBlock v w b t x → (y ≢ b → w.zones y ≡ v.zones y) → ((y ≡ b) × (j ≡ t) → ⊥) → word w y j ≡ word v y j
other_words v w y b j t x h away apart = elim (cases_eq y b) [
  | inl e ↦ ap (λ a. word w a j) e ∙ h.words j (λ o. apart (e, o)) ∙ sym (ap (λ a. word v a j) e)
  | inr d ↦ words_of v w y j (away d)
]

-- a page is no block
page_apart : (g : Geometry) (v : Pieces) (n l i m p : ℕ) → ZonesAgree g v → IsTrue (is_marked g v n) → IsTrue (is_marked g v m) → 0 < l → zone_at g v (v.inodes n) l i ≢ 0
    → page_zone g v (v.inodes m) p ≢ zone_at g v (v.inodes n) l i
page_apart g v n l i m p agree is other block some e =
    let y : ℕ = zone_at g v (v.inodes n) l i in
    let here : Use g v (zone_at g v (v.inodes n) l i) = record { inode = n; level = l; index = i; marked = is; names = refl } in
    let there : Use g v (zone_at g v (v.inodes n) l i) = record { inode = m; level = 0; index = p; marked = other; names = e } in
    absurd (omega (arith, (agree.once (zone_at g v (v.inodes n) l i) some there here).level, block))

pub filled_word_links : FilledWordLinks
filled_word_links g v w n l k z ok agree s = record {
  marked = s.marked;
  level = let low = s.level in omega arith;
  was = s.was;
  data_zone = s.takes.data_zone;
  free = s.takes.free;
  map = s.takes.map;
  zeros = s.takes.zeros;
  inodes = record { marks = s.marks; attributes = no_attributes v w s.inodes };
  pages = λ m p is some. s.zones (page_zone g v (v.inodes m) p) (free_unused g v w z agree s.takes m 0 p is)
      (page_apart g v n (suc l) (above g l k) m p agree s.marked is (omega arith) s.block);
  place = one_place_of_word g v w n l k z ok agree s.marked
      (record {
        level = s.level;
        place = s.place;
        block = s.block;
        here = s.number.here;
        slots = λ m t. ap (λ f. slot (f m) t) s.inodes;
        words = λ m a i j is up some apart. other_words v w (zone_at g v (v.inodes m) a i) _ j (beside g l k) z s.number (s.zones _ (free_unused g v w z agree s.takes m a i is)) apart;
      })
      (λ _. none_bare g v (zone_at g v (v.inodes n) l k) s.was) (λ _. zeros_bare g w z s.takes.zeros);
}

pub cleared_word_unlinks : ClearedWordUnlinks
cleared_word_unlinks g v w n l k z ok agree s = record {
  marked = s.marked;
  level = let low = s.level in omega arith;
  some = s.some;
  was = s.was;
  map = s.map;
  inodes = record { marks = s.marks; attributes = no_attributes v w s.inodes };
  pages = λ m p is some apart. s.zones (page_zone g v (v.inodes m) p) (page_apart g v n (suc l) (above g l k) m p agree s.marked is (omega arith) s.block);
  place = one_place_of_word g v w n l k 0 ok agree s.marked
      (record {
        level = s.level;
        place = s.place;
        block = s.block;
        here = s.number.here;
        slots = λ m t. ap (λ f. slot (f m) t) s.inodes;
        words = λ m a i j is up some apart. other_words v w (zone_at g v (v.inodes m) a i) _ j (beside g l k) 0 s.number (s.zones _) apart;
      })
      (λ b j r. ap (λ y. number v y j) s.was ∙ s.bare b j r) (λ _. hole_bare g w);
}
