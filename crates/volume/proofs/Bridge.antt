-- The places of inodes as the volume's definitions name them, and its counts, are the plain ones.
use Rattle.std.proofs.Common.{◌≡◌, ◌≢◌, ◌<◌, ◌≤◌, ◌+◌, ◌-◌, ◌*◌, ◌/◌, ◌%◌, ℕ, zero, suc, refl, sym, ap, ◌∙◌, cond, arith}
use mathlib.Core.Logic.{inl, inr}
use Rattle.std.specs.Prelude.{not, ◌==◌, ◌&&◌, ◌||◌, nat_lt, nat_le}
use Rattle.std.proofs.lemmas.Bool.{cases_eq, cases_lt, cond-true, cond-false, eq-eqb, ne_eqb, lt-ltb, le-ltb, le-leb, lt-leb, ltb-true}
use Rattle.std.proofs.lemmas.Nat.{div-add-mod', div_below}
use Rattle.layout.specs.declared.Geometry.{Geometry}
use Rattle.lemmas.specs.Sums.{sum_below, count_below, some_below}
use Rattle.tree.specs.ZonesNeeded.{page_limit}
use Rattle.tree.specs.Space.{numbers_in_zone}
use Rattle.volume.specs.Pieces.{Pieces}
use Rattle.volume.specs.Nodes.{word, number, slot, second_block, last_block, zone_of, is_marked}
use Rattle.volume.specs.Places.{zone_at, Use, is_in_slot, is_entered, uses_in_inodes, uses}
use Rattle.volume.proofs.Naming.{Naming, room, front, spot, Place, entered, uses as uses_of}
use Rattle.volume.proofs.Spots.{under, beside, spot_top, spot_next}

-- a number below n over n is 0
pub div_none : (a n : ℕ) → a < n → a / n ≡ 0
div_none a n h = let b = div_below a n 1 (omega arith) (omega arith) in omega arith

-- a number below n is its own remainder by n
pub mod_all : (a n : ℕ) → a < n → a % n ≡ a
mod_all a n h = let e = div-add-mod' a n in let z : a / n * n ≡ 0 * n = ap (λ q. q * n) (div_none a n h) in omega arith

-- a number that isn't below n isn't 0 over n
pub div_some : (a n : ℕ) → 0 < n → n ≤ a → a / n ≢ 0
div_some a n s h z = let e = div-add-mod' a n in let t : a / n * n ≡ 0 * n = ap (λ q. q * n) z in absurd (omega arith)

-- how many places a height has, where a block holds n numbers
unfoldable pub limit_at : ℕ → ℕ → ℕ
limit_at n zero = 1
limit_at n (suc h) = room h + limit_at n h * n

-- no place past the limit of its height names a zone
pub beyond : (m : Naming) (n h i : ℕ) → 0 < m.width → limit_at m.width h ≤ i → spot m n h i ≡ 0
unfolding limit_at
beyond m n zero i s l = spot_top m n i ∙ cond-false (i == 0) (m.slot n 9) 0 (ne_eqb i 0 (λ e. absurd (omega arith)))
beyond m n (suc h) i s l =
    let whole : under m h i * m.width + beside m h i ≡ i - room h = div-add-mod' (i - room h) m.width in
    let up = beyond m n h (under m h i) s (above (limit_at m.width h) (under m h i) m.width (beside m h i) (omega arith) (omega arith)) in
    spot_next m n h i ∙ cond-false (nat_lt i (room h)) _ _ (le-ltb i (room h) (omega arith)) ∙ cond-true (spot m n h (under m h i) == 0) 0 _ (eq-eqb _ 0 up)
  where
    -- a multiple up to q * w + r is of q at most
    above : (a q w r : ℕ) → r < w → a * w ≤ q * w + r → a ≤ q
    above a q w r h l = elim (cases_lt q a) [
      | inl less ↦
          let d : ℕ = a - suc q in
          let turn : a * w ≡ (suc q + d) * w = ap (λ x. x * w) (let e : a ≡ suc q + d = omega arith in e) in
          absurd (grind arith)
      | inr most ↦ most
    ]

-- the limit of the pages, written out
spread : (n : ℕ) → (1 + (1 + 1 * n) * n) * n ≡ n + n * n + n * n * n
spread n = grind arith

-- no limit is past the pages' limit
limit_most : (n k l : ℕ) → page_limit n ≤ k → l < 4 → limit_at n (3 - l) ≤ k
unfolding limit_at
limit_most n k zero far h = let e = spread n in omega arith
limit_most n k (suc zero) far h = grind arith
limit_most n k (suc (suc zero)) far h = omega arith
limit_most n k (suc (suc (suc zero))) far h = omega arith
limit_most n k (suc (suc (suc (suc l)))) far h = absurd (omega arith)

-- the numbers of the marked inodes and of all zones, as plain functions
abbrev pub naming : Geometry → Pieces → Naming
naming g v = record {
  width = numbers_in_zone g;
  inodes = g.inodes + 1;
  zones = g.zones;
  marked = is_marked g v;
  slot = λ n s. slot (v.inodes n) s;
  word = word v;
}

module _ (g : Geometry) (v : Pieces) (sized : 0 < numbers_in_zone g) where
  -- the volume's naming
  abbrev m : Naming
  m = naming g v

  -- the zones that the check enters are the plain ones
  pub entered_is : (k z : ℕ) → is_entered g v k z ≡ entered m k z
  unfolding entered
  entered_is zero z = refl
  entered_is (suc k) z = λ i. not (z == 0) && (is_in_slot g v (8 - k) z
      || some_below (λ above. entered_is k above i && some_below (λ j. word v above j == z) (numbers_in_zone g)) g.zones)

  -- the counts of uses are the plain ones
  pub uses_are : (z : ℕ) → uses g v z ≡ uses_of m z
  uses_are z = λ i. uses_in_inodes g v z
      + sum_below (λ k. sum_below (λ above. cond (entered_is k above i) (count_below (λ j. word v above j == z) (numbers_in_zone g)) 0) g.zones) 3

  -- the blocks that name blocks stand at height 1
  second_spot : (n k : ℕ) → second_block (numbers_in_zone g) v (v.inodes n) k ≡ spot m n 1 k
  second_spot n k = elim (cases_eq k 0) [
    | inl e ↦
        let place : front 0 + k ≡ 8 = omega arith in
        cond-true (k == 0) _ _ (eq-eqb k 0 e)
        ∙ sym (spot_next m n 0 k ∙ cond-true (nat_lt k (room 0)) _ _ (lt-ltb k (room 0) (omega arith)) ∙ ap (slot (v.inodes n)) place)
    | inr d ↦
        let w = numbers_in_zone g in
        let out = spot_next m n 0 k ∙ cond-false (nat_lt k (room 0)) _ _ (le-ltb k (room 0) (omega arith)) in
        cond-false (k == 0) _ _ (ne_eqb k 0 d)
        ∙ elim (cases_lt w k) [
          | inl far ↦
              let up : spot m n 0 (under m 0 k) ≡ 0 = spot_top m n (under m 0 k) ∙ cond-false (under m 0 k == 0) _ 0 (ne_eqb _ 0 (div_some (k - 1) w sized (omega arith))) in
              cond-false (nat_le k w) _ _ (lt-leb k w far) ∙ sym (out ∙ cond-true (spot m n 0 (under m 0 k) == 0) 0 _ (eq-eqb _ 0 up))
          | inr near ↦
              let low : k - 1 < w = omega arith in
              let up : spot m n 0 (under m 0 k) ≡ slot (v.inodes n) 9 = spot_top m n (under m 0 k) ∙ cond-true (under m 0 k == 0) _ 0 (eq-eqb _ 0 (div_none (k - 1) w low)) in
              cond-true (nat_le k w) _ _ (le-leb k w near)
              ∙ ap (number v (slot (v.inodes n) 9)) (sym (mod_all (k - 1) w low))
              ∙ ap (λ z. number v z (beside m 0 k)) (sym up) ∙ sym out
        ]
  ]

  -- the blocks that name pages stand at height 2
  last_spot : (n k : ℕ) → last_block (numbers_in_zone g) v (v.inodes n) k ≡ spot m n 2 k
  last_spot n k = elim (cases_eq k 0) [
    | inl e ↦
        let place : front 1 + k ≡ 7 = omega arith in
        cond-true (k == 0) _ _ (eq-eqb k 0 e)
        ∙ sym (spot_next m n 1 k ∙ cond-true (nat_lt k (room 1)) _ _ (lt-ltb k (room 1) (omega arith)) ∙ ap (slot (v.inodes n)) place)
    | inr d ↦
        cond-false (k == 0) _ _ (ne_eqb k 0 d)
        ∙ ap (λ z. number v z (beside m 1 k)) (second_spot n (under m 1 k))
        ∙ sym (spot_next m n 1 k ∙ cond-false (nat_lt k (room 1)) _ _ (le-ltb k (room 1) (omega arith)))
  ]

  -- the pages stand at height 3
  page_spot : (n k : ℕ) → zone_of (numbers_in_zone g) v (v.inodes n) k ≡ spot m n 3 k
  page_spot n k = elim (cases_lt k 7) [
    | inl low ↦
        let place : front 2 + k ≡ k = omega arith in
        cond-true (nat_lt k 7) _ _ (lt-ltb k 7 low)
        ∙ sym (spot_next m n 2 k ∙ cond-true (nat_lt k (room 2)) _ _ (lt-ltb k (room 2) (omega arith)) ∙ ap (slot (v.inodes n)) place)
    | inr high ↦
        cond-false (nat_lt k 7) _ _ (le-ltb k 7 high)
        ∙ ap (λ z. number v z (beside m 2 k)) (last_spot n (under m 2 k))
        ∙ sym (spot_next m n 2 k ∙ cond-false (nat_lt k (room 2)) _ _ (le-ltb k (room 2) (omega arith)))
  ]

  -- the triple's block stands at height 0
  top_spot : (n k : ℕ) → zone_at g v (v.inodes n) 3 k ≡ spot m n 0 k
  top_spot n k = sym (spot_top m n k)

  -- the number at a place of a level stands at the height that is counted from the other end
  pub zone_spot : (n l k : ℕ) → l < 4 → zone_at g v (v.inodes n) l k ≡ spot m n (3 - l) k
  zone_spot n zero k h = page_spot n k
  zone_spot n (suc zero) k h = last_spot n k
  zone_spot n (suc (suc zero)) k h = second_spot n k
  zone_spot n (suc (suc (suc zero))) k h = top_spot n k
  zone_spot n (suc (suc (suc (suc l)))) k h = absurd (omega arith)

  -- past the four levels stands nothing
  pub no_level : (n l k : ℕ) → 4 ≤ l → zone_at g v (v.inodes n) l k ≡ 0
  no_level n zero k h = absurd (omega arith)
  no_level n (suc zero) k h = absurd (omega arith)
  no_level n (suc (suc zero)) k h = absurd (omega arith)
  no_level n (suc (suc (suc l))) k h = cond-false ((l == 0) && (k == 0)) _ 0 (ap (λ b. b && (k == 0)) (ne_eqb l 0 (λ e. absurd (omega arith))))

  -- no place past the pages' limit names a zone
  pub no_index : (n l k : ℕ) → l < 4 → page_limit (numbers_in_zone g) ≤ k → zone_at g v (v.inodes n) l k ≡ 0
  no_index n l k h far = zone_spot n l k h ∙ beyond m n (3 - l) k sized (limit_most (numbers_in_zone g) k l far h)

  -- a use is a place
  pub place_of_use : (z : ℕ) → z ≢ 0 → Use g v z → Place m z
  place_of_use z some u = elim (cases_lt u.level 4) [
    | inl l ↦ record {
      inode = u.inode;
      height = 3 - u.level;
      index = u.index;
      most = lt-ltb (3 - u.level) 4 (omega arith);
      marked = u.marked;
      names = sym (zone_spot u.inode u.level u.index l) ∙ u.names;
    }
    | inr far ↦ absurd (some (sym u.names ∙ no_level u.inode u.level u.index far))
  ]

  -- a use is at one of the four levels
  pub level_low : (z : ℕ) → z ≢ 0 → (u : Use g v z) → u.level < 4
  level_low z some u = elim (cases_lt u.level 4) [
    | inl l ↦ l
    | inr far ↦ absurd (some (sym u.names ∙ no_level u.inode u.level u.index far))
  ]

  -- a place is a use
  abbrev pub use_of_place : (z : ℕ) → Place m z → Use g v z
  use_of_place z p =
      let low = ltb-true p.height 4 p.most in
      let back : 3 - (3 - p.height) ≡ p.height = omega arith in
      record {
        inode = p.inode;
        level = 3 - p.height;
        index = p.index;
        marked = p.marked;
        names = zone_spot p.inode (3 - p.height) p.index (omega arith) ∙ ap (λ h. spot m p.inode h p.index) back ∙ p.names;
      }
