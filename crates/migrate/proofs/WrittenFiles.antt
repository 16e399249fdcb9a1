-- A moved file is the old one, and keeps the rules of the format.
use Rattle.std.proofs.Common.{◌≡◌, ◌≢◌, ◌<◌, ◌+◌, ◌-◌, ◌*◌, ◌/◌, ◌%◌, ℕ, suc, true, false, sym, ap, subst, ◌∙◌, cond, arith}
use mathlib.Core.Logic.{inl, inr}
use Rattle.std.specs.Prelude.{not, ◌==◌, nat_lt, IsTrue}
use Rattle.std.proofs.lemmas.Bool.{cases_eq, cases_lt, cond-true, cond-false, eq-eqb, ne_eqb, not_from_false}
use Rattle.layout.specs.declared.Geometry.{Geometry}
use Rattle.lemmas.proofs.Bools.{false_not_true, not_false}
use Rattle.tree.specs.Space.{pages_of, numbers_in_zone}
use Rattle.volume.specs.declared.Inode.{Inode}
use Rattle.volume.specs.Pieces.{Pieces}
use Rattle.volume.specs.Nodes.{word, number, slot, page_zone, page_byte, file_byte, file_of, is_mode}
use Rattle.volume.specs.Places.{zone_at, has_number}
use Rattle.volume.specs.Holds.{IsSoundInode}
use Rattle.volume.proofs.Naming.{Naming, room, spot}
use Rattle.volume.proofs.Spots.{spot_top, spot_slot}
use Rattle.volume.proofs.Sums.{some_witness}
use Rattle.volume.proofs.Bridge.{naming, zone_spot, no_level}
use Rattle.migrate.specs.Pages.{pages_in}
use Rattle.migrate.specs.Written.{IsMoved}
use Rattle.migrate.proofs.UsedFiles.{spot_named}
use Rattle.migrate.proofs.Under.{holes_in}
use Rattle.migrate.proofs.Copies.{AreKeys, stands, page_there, full_there}

module _ (g h : Geometry) (v w : Pieces) (old : g.block_size ≡ 1024) (new : h.block_size ≡ 1024) (n first : ℕ) (low : 0 < first)
    (moved : IsMoved (pages_in v) (slot (v.inodes n)) (v.inodes n).size w.zones first (v.inodes n) (w.inodes n)) where
  abbrev x : Inode
  x = v.inodes n

  abbrev y : Inode
  y = w.inodes n

  abbrev mo : Naming
  mo = naming g v

  abbrev m : Naming
  m = naming h w

  -- the keys of the places are the old numbers there
  abbrev key : ℕ → ℕ → ℕ
  key a i = spot mo n a i

  keys : AreKeys (pages_in v) (slot x) key
  keys = record {
    top = spot_top mo n 0;
    beside_top = λ i far. ap not (eq-eqb (spot mo n 0 i) 0 (spot_top mo n i ∙ cond-false (i == 0) (slot x 9) 0 (ne_eqb i 0 far)));
    slots = λ a i l inner. spot_slot mo n a i inner;
    blocks = λ a i j l few.
        let width : mo.width ≡ 256 = ap (λ b. b / 4) old in
        let flat : i * mo.width ≡ i * 256 = ap (λ k. i * k) width in
        let at : room a + (i * mo.width + j) ≡ room a + (i * 256 + j) = omega arith in
        ap (spot mo n (suc a)) (sym at) ∙ spot_named (λ z. not (z == 0)) mo n a i j (omega arith);
  }

  -- blocks hold numbers
  sized_old : 0 < numbers_in_zone g
  sized_old = omega arith

  sized_new : 0 < numbers_in_zone h
  sized_new = omega arith

  -- a number stands at a place in both or in none
  pub both_stand : (l k : ℕ) → l < 4 → not (zone_at h w y l k == 0) ≡ not (zone_at g v x l k == 0)
  both_stand l k few =
      ap (λ z. not (z == 0)) (zone_spot h w sized_new n l k few)
      ∙ stands h w new n (pages_in v) (holes_in v) (slot x) x.size first x low moved key keys (3 - l) k (omega arith)
      ∙ sym (ap (λ z. not (z == 0)) (zone_spot g v sized_old n l k few))

  -- what isn't 0 in the new volume isn't in the old one
  stands_old : (l k : ℕ) → l < 4 → zone_at h w y l k ≢ 0 → zone_at g v x l k ≢ 0
  stands_old l k few some o =
      let there : not (zone_at h w y l k == 0) ≡ true = not_from_false _ (ne_eqb (zone_at h w y l k) 0 some) in
      let none : not (zone_at g v x l k == 0) ≡ false = ap not (eq-eqb (zone_at g v x l k) 0 o) in
      absurd (false_not_true (sym none ∙ sym (both_stand l k few) ∙ there))

  -- the bytes of a page are the same
  page_same : (p o : ℕ) → o < 1024 → page_byte w (page_zone h w y p) o ≡ page_byte v (page_zone g v x p) o
  page_same p o l =
      let there : page_zone h w y p ≡ spot m n 3 p = zone_spot h w sized_new n 0 p (omega arith) in
      let here : page_zone g v x p ≡ spot mo n 3 p = zone_spot g v sized_old n 0 p (omega arith) in
      ap (λ z. page_byte w z o) there
      ∙ elim (cases_eq (spot mo n 3 p) 0) [
        | inl none ↦
            let out : not (spot m n 3 p == 0) ≡ false
            = stands h w new n (pages_in v) (holes_in v) (slot x) x.size first x low moved key keys 3 p (omega arith)
            ∙ ap not (eq-eqb (spot mo n 3 p) 0 none) in
            cond-true (spot m n 3 p == 0) 0 _ (not_false _ out) ∙ sym (cond-true (spot mo n 3 p == 0) 0 _ (eq-eqb (spot mo n 3 p) 0 none))
        | inr some ↦ page_there h w new n (pages_in v) (holes_in v) (slot x) x.size first x low moved key keys p o l
            (not_from_false _ (ne_eqb (spot mo n 3 p) 0 some))
      ]
      ∙ sym (ap (λ z. page_byte v z o) here)

  -- the file is the same
  pub file_moved : file_of g v x ≡ file_of h w y
  file_moved =
      let size : x.size ≡ y.size = sym moved.size in
      let byte : (p : ℕ) → file_byte g v x p ≡ file_byte h w y p = λ p.
      let o : p % 1024 < 1024 = omega arith in
      let left : page_byte v (page_zone g v x (p / g.block_size)) (p % g.block_size) ≡ page_byte v (page_zone g v x (p / 1024)) (p % 1024)
      = ap (λ b. page_byte v (page_zone g v x (p / b)) (p % b)) old in
      let right : page_byte w (page_zone h w y (p / h.block_size)) (p % h.block_size)
      ≡ page_byte w (page_zone h w y (p / 1024)) (p % 1024)
      = ap (λ b. page_byte w (page_zone h w y (p / b)) (p % b)) new in
      λ i. cond (nat_lt p (size i)) ((left ∙ sym (page_same (p / 1024) (p % 1024) o) ∙ sym right) i) 0 in
      let held : (p : ℕ) → not (page_zone g v x p == 0) ≡ not (page_zone h w y p == 0) = λ p. sym (both_stand 0 p (omega arith)) in
      λ i. record { size = size i; byte = λ p. byte p i; held = λ p. held p i }

  -- and its inode keeps the rules
  pub file_sound : IsSoundInode g v x → IsSoundInode h w y
  file_sound s =
      let mode : x.mode ≡ y.mode = moved.attributes.mode in
      let size : y.size ≡ x.size = moved.size in
      record {
        mode = subst (λ k. IsTrue (is_mode k)) mode s.mode;
        inside = λ p some.
            let low = s.inside p (stands_old 0 p (omega arith) some) in
            let same : pages_of g x.size ≡ pages_of h y.size
            = ap (λ b. (x.size + b - 1) / b) old ∙ ap (λ k. (k + 1024 - 1) / 1024) (sym size)
            ∙ sym (ap (λ b. (y.size + b - 1) / b) new) in
            omega arith;
        full = λ l k some. elim (cases_lt (suc l) 4) [
          | inl few ↦
              let there = zone_spot h w sized_new n (suc l) k few in
              let here = zone_spot g v sized_old n (suc l) k few in
              let z = spot mo n (3 - suc l) k in
              let was : z ≢ 0 = λ o. stands_old (suc l) k few some (here ∙ o) in
              let number_old : has_number g v z ≡ true
              = ap (has_number g v) (sym here) ∙ s.full l k (stands_old (suc l) k few some) in
              let j = some_witness (λ j. not (word v z j == 0)) (numbers_in_zone g) number_old in
              let wide : numbers_in_zone g ≡ 256 = ap (λ b. b / 4) old in
              let near = j.1 in
              let is : not (number v z j.0 == 0) ≡ true
              = ap (λ z. not (z == 0)) (cond-false (z == 0) 0 (word v z j.0) (ne_eqb z 0 was)) ∙ j.2 in
              ap (has_number h w) there
              ∙ full_there h w new n (pages_in v) (holes_in v) (slot x) x.size first x low moved key keys (3 - suc l) k j.0 (omega arith)
              (omega arith) is
          | inr far ↦ absurd (some (no_level h w sized_new n (suc l) k far))
        ];
      }
