-- Blocks in memory are blocks.
use Rattle.std.specs.Prelude.{◌≡◌, ℕ, ◌+◌, ◌*◌, ◌≤◌, List, length, take, drop, Option, Some, None, Bool, true, false, nat_lt, nat_le, if◌then◌else◌, slice_index}
use Rattle.std.proofs.Common.{refl, sym, ap, subst, ◌∙◌}
use mathlib.Core.Logic.{inl, inr}
use Rattle.std.proofs.lemmas.Bool.{cases_lt, lt-ltb, le-ltb, cond-true, cond-false}
use Rattle.std.proofs.Math.Nat.{le_trans, min-le_left}
use Rattle.std.proofs.lemmas.List.{get_or-drop, get_or-take, get_or_past, length-take}
use Rattle.volume.specs.Reading.{Disk}
use Rattle.block_store.specs.World.{IsWorld, IsBlocks, IsShown}
use Rattle.block_store.specs.Memory.{disk_in, frame_in, memory_world}

blocks : (size : ℕ) (image : List ℕ) → IsBlocks size (disk_in size image)
blocks size image block o far = cond-false (nat_lt o size) (slice_index image (block * size + o)) 0 (le-ltb o size far)

-- what a choice gave
chosen : (b : Bool) (x y : List ℕ) → (if b then Some x else None) ≡ Some y → x ≡ y
chosen true x y is = ap (λ (o : Option (List ℕ)). from o x) is
  where
    from : Option (List ℕ) → List ℕ → List ℕ
    from (Some z) x = z
    from None x = x
chosen false x y is = absurd (subst differ is tt)
  where
    differ : Option (List ℕ) → Type 0
    differ None = Unit {0}
    differ (Some z) = ⊥

shown : (size : ℕ) (image : List ℕ) → IsShown (frame_in size image) (disk_in size image)
shown size image block bytes is = λ i o. at o i
  where
    at : (o : ℕ) → disk_in size image block o ≡ slice_index bytes o
    at o = each ∙ ap (λ (xs : List ℕ). slice_index xs o) (chosen (nat_le (block * size + size) (length image)) _ bytes is)
      where
        short : (xs : List ℕ) (o : ℕ) → size ≤ o → length (take size xs) ≤ o
        short xs o high = subst (λ n. n ≤ o) (sym (length-take size xs)) (le_trans (min-le_left size (length xs)) high)

        each : disk_in size image block o ≡ slice_index (take size (drop (block * size) image)) o
        each = elim (cases_lt o size) [
          | inl low ↦ cond-true (nat_lt o size) (slice_index image (block * size + o)) 0 (lt-ltb o size low)
              ∙ sym (get_or-drop (block * size) image o 0) ∙ sym (get_or-take size (drop (block * size) image) o 0 low)
          | inr high ↦ cond-false (nat_lt o size) (slice_index image (block * size + o)) 0 (le-ltb o size high)
              ∙ sym (get_or_past (take size (drop (block * size) image)) o 0 (short (drop (block * size) image) o high))
        ]

-- the laws
pub is_world : IsWorld memory_world
is_world = record {
  begin = λ a r. refl;
  chain = λ a b c x y. y ∙ x;
  ready = λ a b x. tt;
  size = λ a b x. x;
  still = λ a d e s. s.1 ∙ sym s.0;
  between = λ a b c d f x y s. record { middle = disk_in b.block_size b.image.items; first = (s.0, refl); then = (refl, s.1) };
  blocks = λ a b d e s. (
    subst (λ (x : Disk). IsBlocks a.block_size x) (sym s.0) (blocks a.block_size a.image.items),
    subst (λ (x : Disk). IsBlocks b.block_size x) (sym s.1) (blocks b.block_size b.image.items),
  );
  shown = λ a b d e s. (
    subst (λ (x : Disk). IsShown (frame_in a.block_size a.image.items) x) (sym s.0) (shown a.block_size a.image.items),
    subst (λ (x : Disk). IsShown (frame_in b.block_size b.image.items) x) (sym s.1) (shown b.block_size b.image.items),
  );
  look = λ a. refl;
  look_on = λ a b c x y. y ∙ x;
  writable = λ a b x block w. w;
}
