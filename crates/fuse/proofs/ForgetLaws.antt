-- Nodes that are forgotten.
use Rattle.std.proofs.Common.{◌≡◌, ℕ, zero, suc, List, length, refl, ap}
use Rattle.fuse.specs.Requests.{pairs_at}

pub count_is : (n : ℕ) (bytes : List ℕ) → length (pairs_at n bytes) ≡ n
count_is zero bytes = refl
count_is (suc n) bytes = ap suc (count_is n _)
