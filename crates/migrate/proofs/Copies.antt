-- What stands at the places of an inode whose ten numbers are copies.
use Rattle.std.proofs.Common.{◌≡◌, ◌≢◌, ◌<◌, ◌≤◌, ◌+◌, ◌-◌, ◌*◌, ◌/◌, ℕ, zero, suc, true, false, refl, sym, ap, subst, ◌∙◌, arith}
use mathlib.Core.Logic.{inl, inr}
use Rattle.std.specs.Prelude.{not, ◌==◌, nat_lt}
use Rattle.std.proofs.lemmas.Bool.{cases_eq, cases_lt, cases_Bool, cond-true, cond-false, eq-eqb, ne_eqb, lt-ltb, le-ltb, not_from_false}
use Rattle.std.proofs.lemmas.Nat.{div-add-mod'}
use Rattle.layout.specs.declared.Geometry.{Geometry}
use Rattle.lemmas.specs.Sums.{sum_below}
use Rattle.lemmas.proofs.Bools.{false_not_true}
use Rattle.volume.specs.declared.Inode.{Inode}
use Rattle.volume.specs.Pieces.{Pieces}
use Rattle.volume.specs.Nodes.{word, number, slot, page_byte}
use Rattle.volume.specs.Places.{has_number}
use Rattle.volume.proofs.Naming.{Naming, room, front, spot}
use Rattle.volume.proofs.Spots.{under, beside, room_front, front_below, spot_top, spot_slot, spot_word, spot_next}
use Rattle.volume.proofs.Sums.{some_from}
use Rattle.volume.proofs.Bridge.{naming}
use Rattle.image.specs.Entered.{level_of}
use Rattle.migrate.specs.Pages.{Pages, zones_under}
use Rattle.migrate.specs.Written.{IsCopy, IsMoved}
use Rattle.migrate.proofs.Under.{HolesStay}

module _ (s : Pages) (d : ℕ → ℕ → ℕ) where
  -- a hole is the copy of a hole
  pub hole_copy : (l e k z : ℕ) → s.some k ≡ false → z ≡ 0 → IsCopy s d l e k z
  hole_copy zero e k z out o = (λ _. o, λ is. absurd (false_not_true (sym out ∙ is)))
  hole_copy (suc l) e k z out o = (λ _. o, λ is. absurd (false_not_true (sym out ∙ is)))

  -- and nothing else
  pub copy_none : (l e k z : ℕ) → IsCopy s d l e k z → s.some k ≡ false → z ≡ 0
  copy_none zero e k z c out = c.0 out
  copy_none (suc l) e k z c out = c.0 out

  -- what is no hole is copied to one of the zones
  pub copy_some : (l e k z : ℕ) → IsCopy s d l e k z → s.some k ≡ true → e ≤ z
  copy_some zero e k z c is = let at = (c.1 is).0 in omega arith
  copy_some (suc l) e k z c is = let at = (c.1 is).0 in omega arith

  -- the same copy by other names
  copy_as : (l l' e k k' z z' : ℕ) → l ≡ l' → k ≡ k' → z ≡ z' → IsCopy s d l e k z → IsCopy s d l' e k' z'
  copy_as l l' e k k' z z' le ke ze c = subst (λ l. IsCopy s d l e k' z') le (subst (λ k. IsCopy s d l e k z') ke (subst
      (IsCopy s d l e k) ze c))

-- the level of a slot at which a height begins
slot_level : (a i : ℕ) → a < 3 → i < room a → level_of (front a + i) ≡ 3 - suc a
slot_level a i h low = elim (room_front a h) [
  | inl p ↦
      let here : front a + i < 7 = omega (arith, p.1, p.2) in
      cond-true (nat_lt (front a + i) 7) 0 _ (lt-ltb (front a + i) 7 here) ∙ (let e : 0 ≡ 3 - suc a = omega (arith, p.0) in e)
  | inr p ↦
      let far : 7 ≤ front a + i = omega (arith, p.0, p.1, p.2) in
      cond-false (nat_lt (front a + i) 7) 0 _ (le-ltb (front a + i) 7 far)
      ∙ (let e : front a + i - 6 ≡ 3 - suc a = omega (arith, p.0, p.1, p.2) in e)
]

-- The keys of an inode's places, height by height: they begin with those of the ten numbers, and go on below.
pub record AreKeys (s : Pages) (keys : ℕ → ℕ) (key : ℕ → ℕ → ℕ) : Type 0 where
  pub top : key 0 0 ≡ keys 9
  pub beside_top : (i : ℕ) → i ≢ 0 → s.some (key 0 i) ≡ false
  pub slots : (a i : ℕ) → a < 3 → i < room a → key (suc a) i ≡ keys (front a + i)
  pub blocks : (a i j : ℕ) → a < 3 → j < 256 → key (suc a) (room a + (i * 256 + j)) ≡ s.below (2 - a) (key a i) j

module _ (h : Geometry) (w : Pieces) (block : h.block_size ≡ 1024) (n : ℕ) (s : Pages) (stay : HolesStay s) (keys : ℕ → ℕ) (size first : ℕ)
    (x : Inode) (low : 0 < first) (moved : IsMoved s keys size w.zones first x (w.inodes n)) (key : ℕ → ℕ
    → ℕ) (are : AreKeys s keys key) where
  abbrev m : Naming
  m = naming h w

  width : m.width ≡ 256
  width = ap (λ b. b / 4) block

  -- a copy somewhere
  pub record Copied (l k z : ℕ) : Type 0 where
    pub from : ℕ
    pub past : 0 < from
    pub is : IsCopy s w.zones l from k z

  -- each number of the inode is one
  slot_copied : (r : ℕ) → r < 10 → Copied (level_of r) (keys r) (slot (w.inodes n) r)
  slot_copied r l = record {
    from = first + sum_below (λ q. zones_under s (level_of q) (keys q)) r;
    past = omega arith;
    is = moved.copied r l;
  }

  -- below a copy stand copies
  below_copied : (l k z j : ℕ) → j < 256 → Copied (suc l) k z → Copied l (s.below l k j) (number w z j)
  below_copied l k z j h c = elim (cases_Bool (s.some k)) [
    | inl is ↦
        let there = c.is.1 is in
        let more = copy_some s w.zones (suc l) c.from k z c.is is in
        let start = c.past in
        let some : z ≢ 0 = λ o. absurd (omega arith) in
        record {
          from = c.from + sum_below (λ i. zones_under s l (s.below l k i)) j;
          past = omega arith;
          is = subst (IsCopy s w.zones l (c.from + sum_below (λ i. zones_under s l (s.below l k i)) j) (s.below l k j))
              (sym (cond-false (z == 0) 0 (word w z j) (ne_eqb z 0 some))) (there.1 j h);
        }
    | inr out ↦ record {
      from = c.from;
      past = c.past;
      is = hole_copy s w.zones l c.from (s.below l k j) _ (stay l k j out)
          (cond-true (z == 0) 0 (word w z j) (eq-eqb z 0 (c.is.0 out)));
    }
  ]

  -- at each place stands a copy of what its key says
  pub copied : (a i : ℕ) → a < 4 → Copied (3 - a) (key a i) (spot m n a i)
  copied zero i l = elim (cases_eq i 0) [
    | inl o ↦
        let c = slot_copied 9 (omega arith) in
        let there : spot m n 0 i ≡ slot (w.inodes n) 9 = spot_top m n i ∙ cond-true (i == 0) (slot (w.inodes n) 9) 0 (eq-eqb i 0 o) in
        record {
          from = c.from;
          past = c.past;
          is = copy_as s w.zones (level_of 9) 3 c.from (keys 9) (key 0 i) (slot (w.inodes n) 9) (spot m n 0 i) refl
              (sym are.top ∙ ap (key 0) (sym o)) (sym there) c.is;
        }
    | inr far ↦ record {
      from = first;
      past = low;
      is = hole_copy s w.zones 3 first (key 0 i) (spot m n 0 i) (are.beside_top i far)
          (spot_top m n i ∙ cond-false (i == 0) (slot (w.inodes n) 9) 0 (ne_eqb i 0 far));
    }
  ]
  copied (suc a) i l = elim (cases_lt i (room a)) [
    | inl inner ↦
        let r = front a + i in
        let c = slot_copied r (let b = front_below a i (omega arith) inner in omega arith) in
        record {
          from = c.from;
          past = c.past;
          is = copy_as s w.zones (level_of r) (3 - suc a) c.from (keys r) (key (suc a) i) (slot (w.inodes n) r) (spot m n (suc a) i)
              (slot_level a i (omega arith) inner) (sym (are.slots a i (omega arith) inner)) (sym (spot_slot m n a i inner)) c.is;
        }
    | inr outer ↦
        let q = under m a i in
        let j = beside m a i in
        let whole : q * m.width + j ≡ i - room a = div-add-mod' (i - room a) m.width in
        let flat : q * m.width ≡ q * 256 = ap (λ k. q * k) width in
        let at : room a + (q * 256 + j) ≡ i = omega arith in
        let few : j < 256 = omega arith in
        let up = copied a q (omega arith) in
        let level : 3 - a ≡ suc (2 - a) = omega arith in
        let c = below_copied (2 - a) (key a q) (spot m n a q) j few (record {
          from = up.from;
          past = up.past;
          is = copy_as s w.zones (3 - a) (suc (2 - a)) up.from (key a q) (key a q) (spot m n a q) (spot m n a q) level refl refl up.is;
        }) in
        record {
          from = c.from;
          past = c.past;
          is = copy_as s w.zones (2 - a) (3 - suc a) c.from (s.below (2 - a) (key a q) j) (key (suc a) i) _ (spot m n (suc a) i)
              (let e : 2 - a ≡ 3 - suc a = omega arith in e)
              (sym (are.blocks a q j (omega arith) few) ∙ ap (key (suc a)) at)
              (sym (spot_next m n a i ∙ cond-false (nat_lt i (room a)) _ _ (le-ltb i (room a) outer))) c.is;
        }
  ]

  -- a hole is one in the new volume
  pub hole_there : (a i : ℕ) → a < 4 → s.some (key a i) ≡ false → spot m n a i ≡ 0
  hole_there a i l out = let c = copied a i l in copy_none s w.zones (3 - a) c.from (key a i) (spot m n a i) c.is out

  -- what is none is none
  pub some_there : (a i : ℕ) → a < 4 → s.some (key a i) ≡ true → spot m n a i ≢ 0
  some_there a i l is o =
      let c = copied a i l in
      let more = copy_some s w.zones (3 - a) c.from (key a i) (spot m n a i) c.is is in
      let start = c.past in
      absurd (omega arith)

  -- whether a number stands at a place
  pub stands : (a i : ℕ) → a < 4 → not (spot m n a i == 0) ≡ s.some (key a i)
  stands a i l = elim (cases_Bool (s.some (key a i))) [
    | inl is ↦ not_from_false _ (ne_eqb (spot m n a i) 0 (some_there a i l is)) ∙ sym is
    | inr out ↦ ap not (eq-eqb (spot m n a i) 0 (hole_there a i l out)) ∙ sym out
  ]

  -- a page has its bytes
  pub page_there : (p o : ℕ) → o < 1024 → s.some (key 3 p) ≡ true → page_byte w (spot m n 3 p) o ≡ s.byte (key 3 p) o
  page_there p o l is =
      let c = copied 3 p (omega arith) in
      let there = c.is.1 is in
      let some = some_there 3 p (omega arith) is in
      cond-false (spot m n 3 p == 0) 0 _ (ne_eqb (spot m n 3 p) 0 some) ∙ ap (λ z. w.zones z o) there.0 ∙ there.1 o l

  -- a block that leads to something has a number
  pub full_there : (a i j : ℕ) → a < 3 → j < 256 → s.some (s.below (2 - a) (key a i) j) ≡ true → has_number h w (spot m n a i) ≡ true
  full_there a i j l few is =
      let z = spot m n a i in
      let wide : j < m.width = omega arith in
      let here : s.some (key a i) ≡ true = elim (cases_Bool (s.some (key a i))) [
        | inl it ↦ it
        | inr out ↦ absurd (false_not_true (sym (stay (2 - a) (key a i) j out) ∙ is))
      ] in
      let flat : i * m.width ≡ i * 256 = ap (λ k. i * k) width in
      let at : room a + (i * m.width + j) ≡ room a + (i * 256 + j) = omega arith in
      let below : spot m n (suc a) (room a + (i * 256 + j)) ≡ word w z j
      = ap (spot m n (suc a)) (sym at) ∙ spot_word m n a i j z wide refl (some_there a i (omega arith) here) in
      let some = some_there (suc a) (room a + (i * 256 + j)) (omega arith) (ap s.some (are.blocks a i j l few) ∙ is) in
      some_from (λ j. not (word w z j == 0)) m.width j wide
      (not_from_false (word w z j == 0) (ne_eqb (word w z j) 0 (λ o. some (below ∙ o))))
