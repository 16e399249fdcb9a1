-- A number that changes in an inode or in a block changes one place.
use Rattle.std.proofs.Common.{◌≡◌, ◌≢◌, ◌⊎◌, ◌<◌, ◌≤◌, ◌+◌, ◌-◌, ◌*◌, ◌/◌, ◌%◌, ℕ, zero, suc, Bool, true, false, refl, sym, ap, ◌∙◌, cond, arith}
use mathlib.Core.Logic.{inl, inr}
use Rattle.std.specs.Prelude.{◌==◌, nat_lt, IsTrue}
use Rattle.std.proofs.lemmas.Bool.{cases_eq, cases_lt, cond-true, cond-false, eq-eqb, ne_eqb, lt-ltb, le-ltb}
use Rattle.std.proofs.lemmas.Nat.{div-add-mod'}
use Rattle.layout.specs.declared.Geometry.{Geometry}
use Rattle.tree.specs.Space.{numbers_in_zone}
use Rattle.volume.specs.Pieces.{Pieces}
use Rattle.volume.specs.Nodes.{word, number, slot, is_marked}
use Rattle.volume.specs.Places.{zone_at, Use}
use Rattle.volume.specs.Holds.{ZonesAgree}
use Rattle.volume.proofs.Naming.{room, front, spot}
use Rattle.volume.proofs.Spots.{spot_top, spot_next, spot_slot, room_front}
use Rattle.volume.proofs.Bridge.{naming, zone_spot, no_level}
use Rattle.volume.proofs.Volumes.{numbers_sized}
use Rattle.zone.specs.ZoneSteps.{Same, first_places, slot_of, above, beside, OnePlace, IsBare, SetsSlot, SetsWord, OnePlaceOfSlot, OnePlaceOfWord}
use Rattle.zone.proofs.Change.{up, nth, read, others, above_it}

-- two branches alike
pub branch : {X : Type 0} (b : Bool) (x y x' y' : X) → (b ≡ true → x ≡ x') → (b ≡ false → y ≡ y') → cond b x y ≡ cond b x' y'
branch true x y x' y' f h = f refl
branch false x y x' y' f h = h refl

-- twice the same
pub both_same : {X : Type 0} (b : Bool) (x : X) → cond b x x ≡ x
both_same true x = refl
both_same false x = refl

-- the pages stand in slots 0 to 6, each block in a slot of its own
pub slot_cases : (l k : ℕ) → ((l ≡ 0) × (first_places l ≡ 7) × (slot_of l k ≡ k)) ⊎ ((0 < l) × (first_places l ≡ 1) × (slot_of l k ≡ 6 + l))
slot_cases l k = elim (cases_eq l 0) [
  | inl e ↦ let t = eq-eqb l 0 e in inl (e, cond-true (l == 0) 7 1 t, cond-true (l == 0) k (6 + l) t)
  | inr d ↦ let t = ne_eqb l 0 d in inr (omega arith, cond-false (l == 0) 7 1 t, cond-false (l == 0) k (6 + l) t)
]

-- the places of a level are those of its height
pub room_first : (l : ℕ) → l < 3 → room (2 - l) ≡ first_places l
room_first l low = elim (cases_eq l 0) [
  | inl e ↦ cond-true (2 - l == 2) 7 1 (eq-eqb (2 - l) 2 (omega arith)) ∙ sym (cond-true (l == 0) 7 1 (eq-eqb l 0 e))
  | inr d ↦ cond-false (2 - l == 2) 7 1 (ne_eqb (2 - l) 2 (λ e. absurd (omega arith))) ∙ sym (cond-false (l == 0) 7 1 (ne_eqb l 0 d))
]

module _ (g : Geometry) (sized : 0 < numbers_in_zone g) where
  -- what stands at a height stands at a level
  pub spot_zone : (v : Pieces) (n h i : ℕ) → h < 4 → spot (naming g v) n h i ≡ zone_at g v (v.inodes n) (3 - h) i
  spot_zone v n h i low = let back : 3 - (3 - h) ≡ h = omega arith in sym (zone_spot g v sized n (3 - h) i (omega arith) ∙ ap (λ a. spot (naming g v) n a i) back)

  module _ (v w : Pieces) (n l k z : ℕ) (level : l < 4)
      (top : (m : ℕ) → IsTrue (is_marked g v m) → (Same n (3 - l) k m 0 0 → ⊥) → slot (w.inodes m) 9 ≡ slot (v.inodes m) 9)
      (cells : (m h i : ℕ) → IsTrue (is_marked g v m) → h < 3 → (Same n (3 - l) k m (suc h) i → ⊥)
      → read g v w w m h i (spot (naming g v) m h (up g v w h i)) ≡ read g v w v m h i (spot (naming g v) m h (up g v w h i))) where
    -- above it
    pub places_above : (m a i : ℕ) → IsTrue (is_marked g v m) → a < 4 → l < a → zone_at g w (w.inodes m) a i ≡ zone_at g v (v.inodes m) a i
    places_above m a i is low more =
        zone_spot g w sized m a i low ∙ above_it g v w sized n (3 - l) k top cells m (3 - a) i is (omega arith) (omega arith) ∙ sym (zone_spot g v sized m a i low)

    -- by levels
    pub other_places : (0 < l → IsBare g v (zone_at g v (v.inodes n) l k)) → (0 < l → IsBare g w (zone_at g w (w.inodes n) l k)) → (m a i : ℕ) → IsTrue (is_marked g v m) → (Same n l k m a i → ⊥) → zone_at g w (w.inodes m) a i ≡ zone_at g v (v.inodes m) a i
    other_places bare bare_now m a i is apart = elim (cases_lt a 4) [
      | inr far ↦ no_level g w sized m a i far ∙ sym (no_level g v sized m a i far)
      | inl low ↦
          zone_spot g w sized m a i low
          ∙ others g v w sized n (3 - l) k top cells
          (λ h j r. ap (λ y. number v y j) (sym (zone_spot g v sized n l k level)) ∙ bare (omega arith) j r)
          (λ h j r. ap (λ y. number w y j) (sym (zone_spot g w sized n l k level)) ∙ bare_now (omega arith) j r)
          m (3 - a) i is (omega arith) (λ s. apart (s.0, omega (arith, s.1), s.2))
          ∙ sym (zone_spot g v sized m a i low)
    ]

  -- what stands in a slot
  pub slot_zone : (v : Pieces) (n l k : ℕ) → l < 4 → k < first_places l → zone_at g v (v.inodes n) l k ≡ slot (v.inodes n) (slot_of l k)
  slot_zone v n l k level place = zone_spot g v sized n l k level ∙ elim (cases_eq l 3) [
    | inl e ↦ elim (slot_cases l k) [
      | inl c ↦ absurd (omega (arith, c.0))
      | inr c ↦
          let zero_k : k ≡ 0 = omega (arith, c.1) in
          ap (λ h. spot (naming g v) n h k) (let e : 3 - l ≡ 0 = omega arith in e) ∙ spot_top (naming g v) n k ∙ cond-true (k == 0) _ 0 (eq-eqb k 0 zero_k)
          ∙ ap (slot (v.inodes n)) (let e : 9 ≡ slot_of l k = omega (arith, c.2) in e)
    ]
    | inr d ↦
        let h : ℕ = 2 - l in
        let same : 3 - l ≡ suc h = omega arith in
        let wide = room_first l (omega arith) in
        ap (λ a. spot (naming g v) n a k) same ∙ spot_slot (naming g v) n h k (omega (arith, wide, place))
        ∙ ap (slot (v.inodes n)) (elim (slot_cases l k) [
          | inl c ↦ elim (room_front h (omega arith)) [
            | inl r ↦ omega (arith, c.2, r.2)
            | inr r ↦ absurd (omega (arith, c.0, r.0))
          ]
          | inr c ↦ elim (room_front h (omega arith)) [
            | inl r ↦ absurd (omega (arith, c.0, r.0))
            | inr r ↦ omega (arith, c.0, c.1, c.2, r.2, r.0)
          ]
        ])
  ]

  module _ (v w : Pieces) (n l k z : ℕ) (s : SetsSlot g v w n l k z) where
    -- the slot of another place is another
    slot_apart : (m h i : ℕ) → h < 3 → i < room h → (Same n (3 - l) k m (suc h) i → ⊥) → (m ≡ n) × (front h + i ≡ slot_of l k) → ⊥
    slot_apart m h i low near apart e =
        let level = s.level in
        let place = s.place in
        elim (slot_cases l k) [
          | inl c ↦ elim (room_front h low) [
            | inl r ↦ apart (e.0, omega (arith, c.0, r.0), omega (arith, e.1, c.2, r.2))
            | inr r ↦ absurd (omega (arith, e.1, c.2, c.1, r.2, r.0))
          ]
          | inr c ↦ elim (room_front h low) [
            | inl r ↦ absurd (omega (arith, e.1, c.2, c.0, r.1, r.2))
            | inr r ↦ apart (e.0, omega (arith, e.1, c.2, c.0, r.1, r.2, r.0), omega (arith, c.1, r.1))
          ]
        ]

    top_slot : (m : ℕ) → IsTrue (is_marked g v m) → (Same n (3 - l) k m 0 0 → ⊥) → slot (w.inodes m) 9 ≡ slot (v.inodes m) 9
    top_slot m is apart = s.others m 9 (λ e.
        let level = s.level in
        let place = s.place in
        elim (slot_cases l k) [
          | inl c ↦ absurd (omega (arith, e.1, c.1, c.2))
          | inr c ↦ apart (e.0, omega (arith, e.1, c.2), omega (arith, c.1))
        ])

    cells_slot : (m h i : ℕ) → IsTrue (is_marked g v m) → h < 3 → (Same n (3 - l) k m (suc h) i → ⊥)
        → read g v w w m h i (spot (naming g v) m h (up g v w h i)) ≡ read g v w v m h i (spot (naming g v) m h (up g v w h i))
    cells_slot m h i is low apart = elim (cases_lt i (room h)) [
      | inl near ↦
          let t = lt-ltb i (room h) near in
          cond-true (nat_lt i (room h)) _ _ t ∙ s.others m (front h + i) (slot_apart m h i low near apart) ∙ sym (cond-true (nat_lt i (room h)) _ _ t)
      | inr far ↦
          let y = spot (naming g v) m h (up g v w h i) in
          let at : y ≡ zone_at g v (v.inodes m) (3 - h) (up g v w h i) = spot_zone v m h (up g v w h i) (omega arith) in
          ap (cond (nat_lt i (room h)) (slot (w.inodes m) (front h + i))) (branch (y == 0) 0 (word w y (nth g v w h i)) 0 (word v y (nth g v w h i)) (λ _. refl) (λ f.
          let some : y ≢ 0 = λ o. let t = eq-eqb y 0 o in absurd (cc) in
          ap (λ a. word w a (nth g v w h i)) at ∙ s.words m (3 - h) (up g v w h i) (nth g v w h i) is (omega arith) (λ e. some (at ∙ e)) ∙ sym (ap (λ a. word v a (nth g v w h i)) at)))
          ∙ cond-false (nat_lt i (room h)) _ _ (le-ltb i (room h) far) ∙ sym (cond-false (nat_lt i (room h)) _ _ (le-ltb i (room h) far))
    ]

    pub of_slot : (0 < l → IsBare g v (zone_at g v (v.inodes n) l k)) → (0 < l → IsBare g w z) → OnePlace g v w n l k z
    of_slot bare now =
        let here : zone_at g w (w.inodes n) l k ≡ z = slot_zone w n l k s.level s.place ∙ s.here in
        record {
          here = here;
          others = other_places v w n l k z s.level top_slot cells_slot bare (λ b j r. ap (λ y. number w y j) here ∙ now b j r);
        }

  module _ (v w : Pieces) (n l k z : ℕ) (agree : ZonesAgree g v) (is : IsTrue (is_marked g v n)) (s : SetsWord g v w n l k z) where
    -- the block
    abbrev block : ℕ
    block = zone_at g v (v.inodes n) (suc l) (above g l k)

    cells_word : (m h i : ℕ) → IsTrue (is_marked g v m) → h < 3 → (Same n (3 - l) k m (suc h) i → ⊥)
        → read g v w w m h i (spot (naming g v) m h (up g v w h i)) ≡ read g v w v m h i (spot (naming g v) m h (up g v w h i))
    cells_word m h i other low apart = elim (cases_lt i (room h)) [
      | inl near ↦
          let t = lt-ltb i (room h) near in
          cond-true (nat_lt i (room h)) _ _ t ∙ s.slots m (front h + i) ∙ sym (cond-true (nat_lt i (room h)) _ _ t)
      | inr far ↦
          let q : ℕ = up g v w h i in
          let j : ℕ = nth g v w h i in
          let y = spot (naming g v) m h q in
          let at : y ≡ zone_at g v (v.inodes m) (3 - h) q = spot_zone v m h q (omega arith) in
          ap (cond (nat_lt i (room h)) (slot (w.inodes m) (front h + i))) (branch (y == 0) 0 (word w y j) 0 (word v y j) (λ _. refl) (λ f.
          let some : y ≢ 0 = λ o. let t = eq-eqb y 0 o in absurd (cc) in
          ap (λ a. word w a j) at ∙ s.words m (3 - h) q j other (omega arith) (λ e. some (at ∙ e)) (λ e. not_here m h i other low far apart at e.0 e.1)
          ∙ sym (ap (λ a. word v a j) at)))
          ∙ cond-false (nat_lt i (room h)) _ _ (le-ltb i (room h) far) ∙ sym (cond-false (nat_lt i (room h)) _ _ (le-ltb i (room h) far))
    ]
      where
        not_here : (m h i : ℕ) → IsTrue (is_marked g v m) → h < 3 → room h ≤ i → (Same n (3 - l) k m (suc h) i → ⊥)
            → spot (naming g v) m h (up g v w h i) ≡ zone_at g v (v.inodes m) (3 - h) (up g v w h i)
            → zone_at g v (v.inodes m) (3 - h) (up g v w h i) ≡ block → nth g v w h i ≡ beside g l k → ⊥
        not_here m h i other low far apart at e j_is =
            let here : Use g v block = record { inode = n; level = suc l; index = above g l k; marked = is; names = refl } in
            let there : Use g v block = record { inode = m; level = 3 - h; index = up g v w h i; marked = other; names = e } in
            let r = agree.once block s.block there here in
            let level = s.level in
            let place = s.place in
            let height : h ≡ 2 - l = omega (arith, r.level) in
            let wide : room h ≡ first_places l = ap room height ∙ room_first l level in
            let a = div-add-mod' (i - room h) (numbers_in_zone g) in
            let b = div-add-mod' (k - first_places l) (numbers_in_zone g) in
            let c : up g v w h i * numbers_in_zone g ≡ above g l k * numbers_in_zone g = ap (λ x. x * numbers_in_zone g) r.index in
            apart (r.inode, omega arith, omega arith)

    -- what stands in the block
    pub word_zone : zone_at g w (w.inodes n) (suc l) (above g l k) ≡ block → zone_at g w (w.inodes n) l k ≡ z
    word_zone same =
        let level = s.level in
        let h : ℕ = 2 - l in
        let height : 3 - l ≡ suc h = omega arith in
        let wide = room_first l level in
        let place = s.place in
        let far = le-ltb k (room h) (omega arith) in
        let up_is : up g v w h k ≡ above g l k = ap (λ r. (k - r) / numbers_in_zone g) wide in
        let nth_is : nth g v w h k ≡ beside g l k = ap (λ r. (k - r) % numbers_in_zone g) wide in
        let top : spot (naming g w) n h (up g v w h k) ≡ block =
        ap (spot (naming g w) n h) up_is ∙ ap (λ a. spot (naming g w) n a (above g l k)) (let e : h ≡ 3 - suc l = omega arith in e)
        ∙ sym (zone_spot g w sized n (suc l) (above g l k) (omega arith)) ∙ same in
        zone_spot g w sized n l k (omega arith) ∙ ap (λ a. spot (naming g w) n a k) height
        ∙ spot_next (naming g w) n h k ∙ cond-false (nat_lt k (room h)) _ _ far
        ∙ ap (λ y. number w y (nth g v w h k)) top
        ∙ ap (number w block) nth_is
        ∙ cond-false (block == 0) 0 (word w block (beside g l k)) (ne_eqb block 0 s.block)
        ∙ s.here

    pub of_word : (0 < l → IsBare g v (zone_at g v (v.inodes n) l k)) → (0 < l → IsBare g w z) → OnePlace g v w n l k z
    of_word bare now =
        let level = s.level in
        let here : zone_at g w (w.inodes n) l k ≡ z = word_zone (places_above v w n l k z (omega arith) (λ m other apart. s.slots m 9) cells_word n (suc l) (above g l k) is (omega arith) (omega arith)) in
        record {
          here = here;
          others = other_places v w n l k z (omega arith) (λ m other apart. s.slots m 9) cells_word bare (λ b j r. ap (λ y. number w y j) here ∙ now b j r);
        }

-- in a block
pub one_place_of_word : OnePlaceOfWord
one_place_of_word g v w n l k z ok agree is s bare now = of_word g (numbers_sized g ok) v w n l k z agree is s bare now

-- in an inode
pub one_place_of_slot : OnePlaceOfSlot
one_place_of_slot g v w n l k z ok is s bare now = of_slot g (numbers_sized g ok) v w n l k z s bare now
