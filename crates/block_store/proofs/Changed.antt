-- An image in which bytes of one block change.
use Rattle.std.proofs.Common.{◌≡◌, ◌≢◌, ◌<◌, ◌≤◌, ◌+◌, ◌*◌, ◌-◌, ℕ, List, length, replicate, slice_index, sym, ap, ◌∙◌, arith}
use mathlib.Core.Logic.{inl, inr}
use Rattle.std.specs.Prelude.{◌⊎◌, ◌&&◌, nat_le, nat_lt, if◌then◌else◌}
use Rattle.std.proofs.Math.Nat.{mul-le-mul_right}
use Rattle.std.proofs.lemmas.Bool.{cases_lt, lt-ltb, le-ltb, cond-true, cond-false}
use Rattle.std.proofs.lemmas.List.{get_or-replicate, length-replicate}
use Rattle.lemmas.specs.Sums.{put}
use Rattle.lemmas.proofs.Maps.{is_put}
use Rattle.volume.specs.Reading.{Disk}
use Rattle.block_store.specs.Rows.{with_bytes, written, cleared}
use Rattle.block_store.proofs.Rows.{row_new, row_old}
use Rattle.block_store.specs.Memory.{disk_in}

-- bytes at a place of a row that begins elsewhere
shifted : (p from : ℕ) (bytes : List ℕ) (f : ℕ → ℕ) (o : ℕ) → with_bytes (p + from) bytes f (p + o) ≡ with_bytes from bytes (λ k. f (p + k)) o
shifted p from bytes f o = elim (cases_lt o from) [
  | inl l ↦ row_old (p + from) bytes f (p + o) (inl (omega arith)) ∙ sym (row_old from bytes (λ k. f (p + k)) o (inl l))
  | inr l ↦ elim (cases_lt o (from + length bytes)) [
    | inl m ↦
        let k = o - from in
        let there : p + o ≡ p + from + k = omega arith in
        let here : o ≡ from + k = omega arith in
        let low : k < length bytes = omega arith in
        ap (with_bytes (p + from) bytes f) there ∙ row_new (p + from) bytes f k low
        ∙ sym (ap (with_bytes from bytes (λ j. f (p + j))) here ∙ row_new from bytes (λ j. f (p + j)) k low)
    | inr m ↦ row_old (p + from) bytes f (p + o) (inr (omega arith)) ∙ sym (row_old from bytes (λ k. f (p + k)) o (inr m))
  ]
]

module _ (size : ℕ) (old new : List ℕ) (block from : ℕ) (bytes : List ℕ) (within : from + length bytes ≤ size)
    (is : (o : ℕ) → slice_index new o ≡ with_bytes (block * size + from) bytes (slice_index old) o) where
  -- the block itself
  here : (o : ℕ) → disk_in size new block o ≡ with_bytes from bytes (disk_in size old block) o
  here o = elim (cases_lt o size) [
    | inl low ↦ cond-true (nat_lt o size) (slice_index new (block * size + o)) 0 (lt-ltb o size low) ∙ is (block * size + o)
        ∙ shifted (block * size) from bytes (slice_index old) o ∙ same o low
    | inr high ↦ cond-false (nat_lt o size) (slice_index new (block * size + o)) 0 (le-ltb o size high)
        ∙ sym (row_old from bytes (disk_in size old block) o (inr (omega arith))
        ∙ cond-false (nat_lt o size) (slice_index old (block * size + o)) 0 (le-ltb o size high))
  ]
    where
      same : (o : ℕ) → o < size → with_bytes from bytes (λ k. slice_index old (block * size + k)) o ≡ with_bytes from bytes (disk_in size old block) o
      same o low = ap (λ (x : ℕ). if nat_le from o && nat_lt o (from + length bytes) then slice_index bytes (o - from) else x) (sym (cond-true (nat_lt o size) (slice_index old (block * size + o)) 0 (lt-ltb o size low)))

  -- another block
  other : (b : ℕ) → b ≢ block → (o : ℕ) → disk_in size new b o ≡ disk_in size old b o
  other b ne o = elim (cases_lt o size) [
    | inl low ↦ ap (λ (x : ℕ). if nat_lt o size then x else 0) (is (b * size + o) ∙ row_old (block * size + from) bytes (slice_index old) (b * size + o) (apart low))
    | inr high ↦ cond-false (nat_lt o size) (slice_index new (b * size + o)) 0 (le-ltb o size high)
        ∙ sym (cond-false (nat_lt o size) (slice_index old (b * size + o)) 0 (le-ltb o size high))
  ]
    where
      apart : o < size → (b * size + o < block * size + from) ⊎ (block * size + from + length bytes ≤ b * size + o)
      apart low = elim (cases_lt b block) [
        | inl l ↦ let m = mul-le-mul_right size (more b block l) in inl (omega (arith, m, low))
        | inr l ↦ elim (cases_lt block b) [
          | inl k ↦ let m = mul-le-mul_right size (more block b k) in inr (omega (arith, m, low, within))
          | inr k ↦ absurd (ne (omega arith))
        ]
      ]
        where
          more : (i j : ℕ) → i < j → i + 1 ≤ j
          more i j h = omega arith

  pub changed : disk_in size new ≡ written block from bytes (disk_in size old)
  changed = is_put (disk_in size old) (disk_in size new) block (with_bytes from bytes (disk_in size old block)) (λ i o. here o i) (λ b ne i o. other b ne o i)

-- a block of zeros
pub zeroed : (size block : ℕ) (d : Disk) → ((o : ℕ) → size ≤ o → d block o ≡ 0) → written block 0 (replicate size 0) d ≡ cleared block d
zeroed size block d past = ap (λ (row : ℕ → ℕ). put d block row) (λ i o. zero o i)
  where
    plain : (o : ℕ) → o ≡ 0 + o
    plain o = omega arith

    zero : (o : ℕ) → with_bytes 0 (replicate size 0) (d block) o ≡ 0
    zero o =
        let none : ℕ = 0 in
        let many : length (replicate size none) ≡ size = length-replicate size none in
        elim (cases_lt o size) [
          | inl low ↦ ap (with_bytes 0 (replicate size 0) (d block)) (plain o) ∙ row_new 0 (replicate size 0) (d block) o (omega (arith, many, low)) ∙ get_or-replicate size o 0 0 low
          | inr high ↦ row_old 0 (replicate size 0) (d block) o (inr (omega (arith, many, high))) ∙ past o high
        ]

-- bytes were written
pub disk_written : (size : ℕ) (image old new : List ℕ) (block from at : ℕ) (bytes : List ℕ) (d e : Disk) → old ≡ image → at ≡ block * size → from + length bytes ≤ size
    → ((o : ℕ) → slice_index new o ≡ with_bytes (at + from) bytes (slice_index old) o) → d ≡ disk_in size image → e ≡ disk_in size new
    → e ≡ written block from bytes d
disk_written size image old new block from at bytes d e was place within is before after =
    let row : (o : ℕ) → slice_index new o ≡ with_bytes (block * size + from) bytes (slice_index image) o = λ o.
    is o ∙ ap (λ (p : ℕ). with_bytes (p + from) bytes (slice_index old) o) place ∙ ap (λ (xs : List ℕ). with_bytes (block * size + from) bytes (slice_index xs) o) was in
    after ∙ changed size image new block from bytes within row ∙ ap (written block from bytes) (sym before)

-- a block was cleared
pub disk_cleared : (size : ℕ) (image old new : List ℕ) (block at : ℕ) (d e : Disk) → old ≡ image → at ≡ block * size
    → ((o : ℕ) → slice_index new o ≡ with_bytes at (replicate size 0) (slice_index old) o) → d ≡ disk_in size image → e ≡ disk_in size new
    → e ≡ cleared block d
disk_cleared size image old new block at d e was place is before after =
    let none : ℕ = 0 in
    let many : length (replicate size none) ≡ size = length-replicate size none in
    disk_written size image old new block 0 at (replicate size 0) d e was place (omega (arith, many))
    (λ o. is o ∙ ap (λ (p : ℕ). with_bytes p (replicate size 0) (slice_index old) o) (plain at)) before after
    ∙ zeroed size block d (λ o far. ap (λ (y : Disk). y block o) before ∙ cond-false (nat_lt o size) (slice_index image (block * size + o)) 0 (le-ltb o size far))
  where
    plain : (k : ℕ) → k ≡ k + 0
    plain k = omega arith
