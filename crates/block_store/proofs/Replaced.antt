-- A block all of whose bytes are replaced, whatever stood in it.
use Rattle.std.proofs.Common.{◌≡◌, ◌≤◌, ◌+◌, ℕ, List, length, sym, ap, ◌∙◌, arith}
use mathlib.Core.Logic.{inl, inr}
use Rattle.std.specs.Prelude.{◌⊎◌}
use Rattle.std.proofs.lemmas.Bool.{cases_lt}
use Rattle.lemmas.proofs.Maps.{is_put, put-same, put-other}
use Rattle.volume.specs.Reading.{Disk}
use Rattle.block_store.specs.World.{World, IsWorld, Turns}
use Rattle.block_store.specs.Rows.{with_bytes, written, cleared}
use Rattle.block_store.proofs.Rows.{row_new, row_old}

-- a row with nothing past its end
row_replaced : (size : ℕ) (bytes : List ℕ) (r s : ℕ → ℕ) → length bytes ≡ size → ((o : ℕ) → size ≤ o → r o ≡ 0)
    → ((o : ℕ) → size ≤ o → s o ≡ 0) → with_bytes 0 bytes r ≡ with_bytes 0 bytes s
row_replaced size bytes r s many p q = λ i o. at o i
  where
    plain : (o : ℕ) → o ≡ 0 + o
    plain o = omega arith

    at : (o : ℕ) → with_bytes 0 bytes r o ≡ with_bytes 0 bytes s o
    at o = elim (cases_lt o size) [
      | inl low ↦ ap (with_bytes 0 bytes r) (plain o) ∙ row_new 0 bytes r o (omega (arith, many, low))
          ∙ sym (ap (with_bytes 0 bytes s) (plain o) ∙ row_new 0 bytes s o (omega (arith, many, low)))
      | inr high ↦ row_old 0 bytes r o (inr (omega (arith, many, high))) ∙ p o high
          ∙ sym (row_old 0 bytes s o (inr (omega (arith, many, high))) ∙ q o high)
    ]

-- the block as it was, or with zeros
replaced : (size block : ℕ) (bytes : List ℕ) (d m : Disk) → length bytes ≡ size → ((o : ℕ) → size ≤ o → d block o ≡ 0)
    → (m ≡ d) ⊎ (m ≡ cleared block d) → written block 0 bytes m ≡ written block 0 bytes d
replaced size block bytes d m many past (inl same) = ap (written block 0 bytes) same
replaced size block bytes d m many past (inr zeros) = ap (written block 0 bytes) zeros ∙ over
  where
    over : written block 0 bytes (cleared block d) ≡ written block 0 bytes d
    over = is_put d (written block 0 bytes (cleared block d)) block (with_bytes 0 bytes (d block))
        (put-same (cleared block d) block (with_bytes 0 bytes (cleared block d block))
        ∙ row_replaced size bytes (cleared block d block) (d block) many (λ o far. ap (λ (r : ℕ → ℕ). r o) (put-same d block (λ k. 0))) past)
        (λ b ne. put-other (cleared block d) block (with_bytes 0 bytes (cleared block d block)) b ne ∙ put-other d block (λ k. 0) b ne)

-- its frame was made ready for that, and then its bytes were changed
pub turns_replaced : {B : Type 0} (w : World B) → IsWorld w → (a b c : B) (block : ℕ) (bytes : List ℕ) → length bytes ≡ w.size a
    → Turns w a b (λ d e. (e ≡ d) ⊎ (e ≡ cleared block d)) → Turns w b c (λ d e. e ≡ written block 0 bytes d)
    → Turns w a c (λ d e. e ≡ written block 0 bytes d)
turns_replaced w k a b c block bytes many x y = record {
  leads = k.chain a b c x.leads y.leads;
  related = λ d f s.
      let m = k.between a b c d f x.leads y.leads s in
      y.related m.middle f m.then
      ∙ replaced (w.size a) block bytes d m.middle many (λ o far. (k.blocks a c d f s).0 block o far) (x.related d m.middle m.first);
}
