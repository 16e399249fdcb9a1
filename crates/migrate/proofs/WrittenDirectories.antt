-- The pages of a moved directory.
use Rattle.std.proofs.Common.{◌≡◌, ◌≢◌, ◌<◌, ◌≤◌, ◌+◌, ◌-◌, ◌*◌, ◌/◌, ◌%◌, ℕ, zero, suc, List, length, slice_index, true, false, refl}
use Rattle.std.proofs.Common.{sym, ap, subst, ◌∙◌, arith}
use mathlib.Core.Logic.{inl, inr}
use Rattle.std.specs.Prelude.{not, ◌==◌, nat_lt, IsTrue}
use Rattle.std.proofs.lemmas.Bool.{cases_lt, cond-true, eq-eqb, ne_eqb, lt-ltb, le-ltb, ltb-true, not_from_false}
use Rattle.layout.specs.declared.Geometry.{Geometry}
use Rattle.lemmas.proofs.Bools.{false_not_true}
use Rattle.tree.specs.Space.{pages_of, numbers_in_zone}
use Rattle.volume.specs.declared.Inode.{Inode}
use Rattle.volume.specs.Pieces.{Pieces}
use Rattle.volume.specs.Nodes.{page_zone, page_byte, file_byte, is_mode}
use Rattle.volume.specs.Places.{zone_at, has_number}
use Rattle.volume.specs.Holds.{IsSoundInode}
use Rattle.volume.proofs.Naming.{Naming, room, front, spot}
use Rattle.volume.proofs.Bridge.{naming, zone_spot, no_level}
use Rattle.migrate.specs.Pages.{pages_for, pages_below, pages_from, first_page}
use Rattle.migrate.specs.Written.{IsMoved}
use Rattle.migrate.proofs.Laid.{low_page}
use Rattle.migrate.proofs.Under.{holes_from}
use Rattle.migrate.proofs.Copies.{AreKeys, stands, page_there, full_there}

-- the first page to which place i of a height leads
abbrev first_at : ℕ → ℕ → ℕ
first_at zero i = 65799 + 16777216 * i
first_at (suc zero) i = 263 + 65536 * i
first_at (suc (suc zero)) i = 7 + 256 * i
first_at (suc (suc (suc a))) i = i

-- those of an inode's slots
first_slots : (a i : ℕ) → a < 3 → i < room a → first_at (suc a) i ≡ first_page (front a + i)
first_slots zero i l inner = let o : i ≡ 0 = omega arith in ap (first_at 1) o ∙ ap (λ i. first_page (front 0 + i)) (sym o)
first_slots (suc zero) i l inner = let o : i ≡ 0 = omega arith in ap (first_at 2) o ∙ ap (λ i. first_page (front 1 + i)) (sym o)
first_slots (suc (suc zero)) i l inner =
    let same : 0 + i * 1 ≡ i = omega arith in
    let there : front 2 + i ≡ i = omega arith in
    sym (ap first_page there ∙ low_page i inner ∙ same)
first_slots (suc (suc (suc a))) i l inner = absurd (omega arith)

-- and of a block's numbers
first_blocks : (a i j : ℕ) → a < 3 → j < 256 → first_at (suc a) (room a + (i * 256 + j)) ≡ first_at a i + j * pages_below (2 - a)
first_blocks zero i j l few = omega arith
first_blocks (suc zero) i j l few = omega arith
first_blocks (suc (suc zero)) i j l few = omega arith
first_blocks (suc (suc (suc a))) i j l few = absurd (omega arith)

module _ (h : Geometry) (w : Pieces) (new : h.block_size ≡ 1024) (n first : ℕ) (low : 0 < first) (bytes : List ℕ)
    (short : pages_for (length bytes) ≤ 16777216) (x : Inode)
    (moved : IsMoved (pages_from bytes) first_page (length bytes) w.zones first x (w.inodes n)) where
  abbrev y : Inode
  y = w.inodes n

  abbrev m : Naming
  m = naming h w

  keys : AreKeys (pages_from bytes) first_page first_at
  keys = record {
    top = refl;
    beside_top = λ i far. le-ltb (65799 + 16777216 * i) (pages_for (length bytes)) (omega arith);
    slots = first_slots;
    blocks = first_blocks;
  }

  sized : 0 < numbers_in_zone h
  sized = omega arith

  -- a number stands at a place where a page of the file does
  both_stand : (l k : ℕ) → l < 4 → not (zone_at h w y l k == 0) ≡ nat_lt (first_at (3 - l) k) (pages_for (length bytes))
  both_stand l k few =
      ap (λ z. not (z == 0)) (zone_spot h w sized n l k few)
      ∙ stands h w new n (pages_from bytes) (holes_from bytes) first_page (length bytes) first x low moved first_at keys (3 - l) k
      (omega arith)

  -- which is so where one stands
  page_where : (l k : ℕ) → l < 4 → zone_at h w y l k ≢ 0 → first_at (3 - l) k < pages_for (length bytes)
  page_where l k few some =
      ltb-true (first_at (3 - l) k) (pages_for (length bytes))
      (sym (both_stand l k few) ∙ not_from_false _ (ne_eqb (zone_at h w y l k) 0 some))

  -- no page of it is a hole
  pub whole_moved : (p : ℕ) → p < pages_of h y.size → page_zone h w y p ≢ 0
  whole_moved p inside o =
      let same : pages_of h y.size ≡ pages_for (length bytes)
      = ap (λ b. (y.size + b - 1) / b) new ∙ ap (λ k. (k + 1024 - 1) / 1024) moved.size in
      let is : nat_lt p (pages_for (length bytes)) ≡ true = lt-ltb p (pages_for (length bytes)) (omega arith) in
      let none : not (page_zone h w y p == 0) ≡ false = ap not (eq-eqb (page_zone h w y p) 0 o) in
      absurd (false_not_true (sym none ∙ both_stand 0 p (omega arith) ∙ is))

  -- its bytes are these
  pub bytes_moved : (q : ℕ) → q < length bytes → file_byte h w y q ≡ slice_index bytes q
  bytes_moved q inside =
      let size = moved.size in
      let p : ℕ = q / 1024 in
      let o : ℕ = q % 1024 in
      let at : 1024 * p + o ≡ q = omega arith in
      let there : page_zone h w y p ≡ spot m n 3 p = zone_spot h w sized n 0 p (omega arith) in
      let is : nat_lt p (pages_for (length bytes)) ≡ true = lt-ltb p (pages_for (length bytes)) (omega arith) in
      cond-true (nat_lt q y.size) _ 0 (lt-ltb q y.size (omega arith))
      ∙ ap (λ b. page_byte w (page_zone h w y (q / b)) (q % b)) new
      ∙ ap (λ z. page_byte w z o) there
      ∙ page_there h w new n (pages_from bytes) (holes_from bytes) first_page (length bytes) first x low moved first_at keys p o
      (omega arith) is
      ∙ ap (slice_index bytes) at

  -- its inode keeps the rules
  pub directory_sound : IsTrue (is_mode x.mode) → IsSoundInode h w y
  directory_sound mode = record {
    mode = subst (λ k. IsTrue (is_mode k)) moved.attributes.mode mode;
    inside = λ p some.
        let same : pages_of h y.size ≡ pages_for (length bytes)
        = ap (λ b. (y.size + b - 1) / b) new ∙ ap (λ k. (k + 1024 - 1) / 1024) moved.size in
        let low = page_where 0 p (omega arith) some in
        omega arith;
    full = λ l k some. elim (cases_lt (suc l) 4) [
      | inl few ↦
          let a : ℕ = 3 - suc l in
          let there = page_where (suc l) k few some in
          let first : first_at a k + 0 * pages_below (2 - a) ≡ first_at a k = omega arith in
          ap (has_number h w) (zone_spot h w sized n (suc l) k few)
          ∙ full_there h w new n (pages_from bytes) (holes_from bytes) first_page (length bytes) _ x low moved first_at keys a k 0
          (omega arith)
          (omega arith) (lt-ltb (first_at a k + 0 * pages_below (2 - a)) (pages_for (length bytes)) (omega arith))
      | inr far ↦ absurd (some (no_level h w sized n (suc l) k far))
    ];
  }
