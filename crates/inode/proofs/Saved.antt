-- What a written inode changes.
use Rattle.std.proofs.Common.{◌≡◌, ◌≢◌, ◌≤◌, ◌<◌, ◌+◌, ℕ, List, [], ◌∷◌, length, refl, sym, ap, subst, ◌∙◌, arith}
use mathlib.Core.Logic.{inl, inr}
use Rattle.std.specs.Prelude.{IsTrue, ◌⊎◌, slice_index, if◌then◌else◌}
use Rattle.std.proofs.lemmas.Bool.{cond-true, cond-false, cases_eq, cases_Bool}
use Rattle.layout.specs.declared.Geometry.{Geometry}
use Rattle.layout.specs.Places.{IsGeometry}
use Rattle.lemmas.specs.Sums.{put}
use Rattle.lemmas.proofs.Maps.{put-same, put-other, is_put}
use Rattle.volume.specs.declared.Inode.{Inode}
use Rattle.volume.specs.Reading.{Disk, is_inode, inode_in, inode_block, inode_offset, inode_of_disk, u16_in, u32_in}
use Rattle.volume.specs.Pieces.{pieces, blank}
use Rattle.block_store.specs.Rows.{with_bytes, written}
use Rattle.block_store.specs.Volume.{Alters}
use Rattle.block_store.proofs.Rows.{row_new, row_old}
use Rattle.block_store.proofs.Places.{after_maps, before_zones, apart}
use Rattle.block_store.proofs.Alone.{in_table}
use Rattle.inode.specs.Table.{with_inode}

module _ (f h : ℕ → ℕ) (p q : ℕ) (same : (k : ℕ) → k < 64 → f (p + k) ≡ h (q + k)) where
  -- byte b of both
  one : (a c b : ℕ) → b < 64 → a ≡ p + b → c ≡ q + b → f a ≡ h c
  one a c b inside e k = ap f e ∙ same b inside ∙ sym (ap h k)

  two : (a c b : ℕ) → b + 2 ≤ 64 → a ≡ p + b → c ≡ q + b → u16_in f a ≡ u16_in h c
  two a c b inside e k =
      let low = one a c b (omega arith) e k in let high = one (a + 1) (c + 1) (b + 1) (omega arith) (omega arith) (omega arith) in omega arith

  four : (b : ℕ) → b + 4 ≤ 64 → u32_in f (p + b) ≡ u32_in h (q + b)
  four b inside =
      let low = two (p + b) (q + b) b (omega arith) refl refl in
      let high = two (p + b + 2) (q + b + 2) (b + 2) (omega arith) (omega arith) (omega arith) in omega arith

  -- the same 64 bytes are the same inode
  alike : inode_in f p ≡ inode_in h q
  alike = λ i. record {
    mode = two p q 0 (omega arith) (omega arith) (omega arith) i;
    links = two (p + 2) (q + 2) 2 (omega arith) refl refl i;
    uid = two (p + 4) (q + 4) 4 (omega arith) refl refl i;
    gid = two (p + 6) (q + 6) 6 (omega arith) refl refl i;
    size = four 8 (omega arith) i;
    atime = four 12 (omega arith) i;
    mtime = four 16 (omega arith) i;
    ctime = four 20 (omega arith) i;
    zones = four 24 (omega arith) i ∷ four 28 (omega arith) i ∷ four 32 (omega arith) i ∷ four 36 (omega arith) i ∷ four 40 (omega arith) i
        ∷ four 44 (omega arith) i ∷ four 48 (omega arith) i ∷ four 52 (omega arith) i ∷ four 56 (omega arith) i ∷ four 60 (omega arith) i ∷ [];
  }

-- the inode that was read from a block
pub loaded : (g : Geometry) (d : Disk) (n block at : ℕ) (bytes : List ℕ) (i : Inode) → IsTrue (is_inode g n)
    → block ≡ inode_block g n → at ≡ inode_offset g n → i ≡ inode_in (slice_index bytes) at → d block ≡ slice_index bytes
    → i ≡ (pieces g d).inodes n
loaded g d n block at bytes i h b a is shown =
    is ∙ ap (λ (f : ℕ → ℕ). inode_in f at) (sym shown) ∙ ap (λ p. inode_in (d block) p) a ∙ ap (λ p. inode_in (d p) (inode_offset g n)) b
    ∙ sym (cond-true (is_inode g n) (inode_of_disk g d n) blank h)

module _ (g : Geometry) (geometry : IsGeometry g) (d : Disk) (n : ℕ) (is : IsTrue (is_inode g n)) (bytes : List ℕ) (many : length bytes ≡ 64) where
  -- the disk with these bytes
  abbrev e : Disk
  e = written (inode_block g n) (inode_offset g n) bytes d

  -- its other blocks
  other : (block : ℕ) → block ≢ inode_block g n → e block ≡ d block
  other block h = put-other d (inode_block g n) _ block h

  -- its block
  here : e (inode_block g n) ≡ with_bytes (inode_offset g n) bytes (d (inode_block g n))
  here = put-same d (inode_block g n) _

  -- this inode is the one that the bytes say
  this : inode_of_disk g e n ≡ inode_in (slice_index bytes) 0
  this = alike (e (inode_block g n)) (slice_index bytes) (inode_offset g n) 0
      (λ k under. ap (λ (f : ℕ → ℕ). f (inode_offset g n + k)) here ∙ row_new (inode_offset g n) bytes (d (inode_block g n)) k (omega (arith, many)) ∙ ap (slice_index bytes) (omega arith))

  -- each other inode stays
  that : (m : ℕ) → IsTrue (is_inode g m) → m ≢ n → inode_of_disk g e m ≡ inode_of_disk g d m
  that m hm ne = elim (cases_eq (inode_block g m) (inode_block g n)) [
    | inl same ↦
        let far = apart g geometry m n hm is ne same in
        alike (e (inode_block g m)) (d (inode_block g m)) (inode_offset g m) (inode_offset g m) (λ k under.
        ap (λ b. e b (inode_offset g m + k)) same ∙ ap (λ (f : ℕ → ℕ). f (inode_offset g m + k)) here
        ∙ row_old (inode_offset g n) bytes (d (inode_block g n)) (inode_offset g m + k) (by (inode_offset g m) (inode_offset g n) k under far)
        ∙ sym (ap (λ b. d b (inode_offset g m + k)) same))
    | inr differ ↦ ap (λ (f : ℕ → ℕ). inode_in f (inode_offset g m)) (other (inode_block g m) differ)
  ]
    where
      by : (a b k : ℕ) → k < 64 → (a + 64 ≤ b) ⊎ (b + 64 ≤ a) → (a + k < b) ⊎ (b + length bytes ≤ a + k)
      by a b k under (inl l) = inl (omega arith)
      by a b k under (inr l) = inr (omega (arith, many))

  -- so the table has it in its place
  module _ (i : Inode) (said : inode_in (slice_index bytes) 0 ≡ i) where
    inodes : (pieces g e).inodes ≡ put (pieces g d).inodes n i
    inodes = is_put (pieces g d).inodes (pieces g e).inodes n i (cond-true (is_inode g n) (inode_of_disk g e n) blank is ∙ this ∙ said)
        (λ m ne. elim (cases_Bool (is_inode g m)) [
          | inl in_it ↦ ap (λ (x : Inode). if is_inode g m then x else blank) (that m in_it ne)
          | inr out ↦ cond-false (is_inode g m) (inode_of_disk g e m) blank out ∙ sym (cond-false (is_inode g m) (inode_of_disk g d m) blank out)
        ])

    -- and all else is as it was
    altered : Alters g (with_inode (pieces g d) n i) d e
    altered =
        let a = in_table g geometry d (inode_block g n) (with_bytes (inode_offset g n) bytes (d (inode_block g n))) (after_maps g geometry n) (before_zones g geometry n is) in
        record { pieces = a.pieces ∙ ap (λ (f : ℕ → Inode). record (pieces g d) { inodes = f }) inodes; head = a.head }

-- the inode that was written to a block
pub saved : (g : Geometry) → IsGeometry g → (d e : Disk) (n block at : ℕ) (bytes : List ℕ) (i : Inode) → IsTrue (is_inode g n)
    → block ≡ inode_block g n → at ≡ inode_offset g n → length bytes ≡ 64 → inode_in (slice_index bytes) 0 ≡ i → e ≡ written block at bytes d
    → Alters g (with_inode (pieces g d) n i) d e
saved g geometry d e n block at bytes i is b a many said x =
    subst (λ (y : Disk). Alters g (with_inode (pieces g d) n i) d y)
    (sym (x ∙ ap (λ p. written p at bytes d) b ∙ ap (λ p. written (inode_block g n) p bytes d) a))
    (altered g geometry d n is bytes many i said)
