-- An entry is set by a write of 64 bytes, and dropped by such a write and a resize.
use Rattle.std.proofs.Common.{◌≡◌, ◌⊎◌, ◌<◌, ◌≤◌, ◌+◌, ◌*◌, ◌-◌, ℕ, Bool, true, false, refl, ap, ◌∙◌, arith, List, length}
use mathlib.Core.Logic.{inl, inr}
use Rattle.std.specs.Prelude.{slice_index, ◌&&◌, nat_lt, nat_le}
use Rattle.std.proofs.lemmas.Bool.{cond-true, cond-false, lt-ltb, le-ltb, le-leb, lt-leb, and_from}
use Rattle.layout.specs.declared.Geometry.{Geometry}
use Rattle.tree.specs.Tree.{File}
use Rattle.tree.specs.Changes.{file_after_write, file_after_resize}
use Rattle.volume.specs.Reading.{u32_in}
use Rattle.directory.specs.Files.{WriteSetsEntry, WriteSetsNumber, WriteDropsEntry, ResizeDropsLast}

module _ (g : Geometry) (f : File) (at : ℕ) (bytes : List ℕ) where
  abbrev new : ℕ → ℕ
  new = (file_after_write g f at bytes).byte

  abbrev inside : ℕ → Bool
  inside q = nat_le at q && nat_lt q (at + length bytes)

  written_at : (q : ℕ) → at ≤ q → q < at + length bytes → new q ≡ slice_index bytes (q - at)
  written_at q low high = cond-true (inside q) (slice_index bytes (q - at)) (f.byte q) (and_from (nat_le at q) (nat_lt q (at + length bytes)) (le-leb at q low) (lt-ltb q (at + length bytes) high))

  written_byte : (o : ℕ) → o < length bytes → new (at + o) ≡ slice_index bytes o
  written_byte o low = let e : at + o - at ≡ o = omega arith in written_at (at + o) (omega arith) (omega arith) ∙ ap (slice_index bytes) e

  before_it : (q : ℕ) → q < at → new q ≡ f.byte q
  before_it q low = cond-false (inside q) (slice_index bytes (q - at)) (f.byte q) (ap (λ b. b && nat_lt q (at + length bytes)) (lt-leb at q low))

  past_it : (q : ℕ) → at + length bytes ≤ q → new q ≡ f.byte q
  past_it q high = cond-false (inside q) (slice_index bytes (q - at)) (f.byte q) (ap (λ b. nat_le at q && b) (le-ltb q (at + length bytes) high) ∙ and_out (nat_le at q))
    where
      and_out : (b : Bool) → (b && false) ≡ false
      and_out true = refl
      and_out false = refl

  beside_it : (q : ℕ) → (q < at) ⊎ (at + length bytes ≤ q) → new q ≡ f.byte q
  beside_it q (inl low) = before_it q low
  beside_it q (inr high) = past_it q high

  -- the number at the place
  written_number : 4 ≤ length bytes → u32_in new at ≡ u32_in (slice_index bytes) 0
  written_number many =
      let z : at ≡ at + 0 = omega arith in
      let a : new at ≡ slice_index bytes 0 = ap new z ∙ written_byte 0 (omega arith) in
      let b = written_byte 1 (omega arith) in
      let c = written_byte 2 (omega arith) in
      let k : at + 2 + 1 ≡ at + 3 = omega arith in
      let d : new (at + 2 + 1) ≡ slice_index bytes 3 = ap new k ∙ written_byte 3 (omega arith) in
      λ i. (a i + 256 * b i) + 65536 * (c i + 256 * d i)

pub write_sets_entry : WriteSetsEntry
write_sets_entry g f e x name bytes is =
    let many = is.many in
    record {
      here = record {
        target = written_number g f (64 * e) bytes (omega arith) ∙ is.number;
        bytes = λ a low. let z : 64 * e + 4 + a ≡ 64 * e + (4 + a) = omega arith in ap (file_after_write g f (64 * e) bytes).byte z ∙ written_byte g f (64 * e) bytes (4 + a) (omega arith) ∙ is.name_bytes a low;
      };
      others = λ q side. beside_it g f (64 * e) bytes q (elim side [ inl low ↦ inl low | inr high ↦ inr (omega arith) ]);
    }

pub write_sets_number : WriteSetsNumber
write_sets_number g f e x name bytes many number old =
    record {
      here = record {
        target = written_number g f (64 * e) bytes (omega arith) ∙ number;
        bytes = λ a low. past_it g f (64 * e) bytes (64 * e + 4 + a) (omega arith) ∙ old a low;
      };
      others = λ q side. beside_it g f (64 * e) bytes q (elim side [ inl low ↦ inl low | inr high ↦ inr (omega arith) ]);
    }

-- the bytes below a new size
below_size : (g : Geometry) (f : File) (size q : ℕ) → q < size → (file_after_resize g f size).byte q ≡ f.byte q
below_size g f size q low = cond-true (nat_lt q size) (f.byte q) 0 (lt-ltb q size low)

pub write_drops_entry : WriteDropsEntry
write_drops_entry g f k e bytes is =
    let many = is.many in
    record {
      here = λ before o low.
          below_size g (file_after_write g f (64 * e) bytes) (64 * (k - 1)) (64 * e + o) (omega arith)
          ∙ written_byte g f (64 * e) bytes o (omega arith) ∙ is.same o low;
      others = λ q side low.
          below_size g (file_after_write g f (64 * e) bytes) (64 * (k - 1)) q low
          ∙ beside_it g f (64 * e) bytes q (elim side [ inl l ↦ inl l | inr h ↦ inr (omega arith) ]);
    }

pub resize_drops_last : ResizeDropsLast
resize_drops_last g f k = record {
  here = λ before. absurd (omega arith);
  others = λ q side low. below_size g f (64 * (k - 1)) q low;
}
