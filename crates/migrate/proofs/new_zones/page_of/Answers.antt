use Rattle.std.proofs.Common.{◌≡◌, ℕ, length, slice_index, refl, arith}
use mathlib.Core.Logic.{inl, inr}
use Rattle.std.specs.Prelude.{replicate}
use Rattle.std.proofs.lemmas.Bool.{cases_lt}
use Rattle.std.proofs.lemmas.List.{get_or-replicate, get_or_past, length-replicate}
use Rattle.migrate.proofs.new_zones.page_of.Goals as goal

-- a zero is at each place of zeros, and past them
zero_at : (n k : ℕ) → slice_index (replicate n 0) k ≡ 0
zero_at n k = elim (cases_lt k n) [
  | inl low ↦ get_or-replicate n k 0 0 low
  | inr far ↦ let size : length (replicate {A = ℕ} n 0) ≡ n = length-replicate {A = ℕ} n 0 in
      get_or_past (replicate {A = ℕ} n 0) k 0 (omega arith)
]

pub loop-o-init : goal.loop-o-init
loop-o-init c = record { size = refl; done = λ k h. absurd (omega arith); rest = λ k h. zero_at 1024 k }
