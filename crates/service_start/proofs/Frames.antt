-- So many frames a cache may have.
use Rattle.std.proofs.Common.{◌≡◌, ◌≤◌, ℕ, true, arith}
use Rattle.std.proofs.lemmas.Grind.{common_steps}
use Rattle.records.specs.Mount.{is_frame_count}

-- so many frames may a cache have
pub frames_fit : (n : ℕ) → 16 ≤ n → n ≤ 4096 → is_frame_count n ≡ true
frames_fit n low high = grind (arith, common_steps)
