-- How often so many can be halved.
use Rattle.std.proofs.Common.{ℕ, zero, suc, ◌+◌, ◌^◌, ◌/◌, ◌<◌, ◌≤◌, arith}
use Rattle.std.proofs.Math.Nat.{pow-succ'}

-- so many are left, and the steps that are left for them of k
pub record Left (count old now k : ℕ) : Type 0 where
  pub rest : ℕ
  pub fits : count < 2 ^ rest
  pub spent : now + rest ≤ old + k

-- all are left at first
pub left_all : (count old k : ℕ) → count < 2 ^ k → Left count old old k
left_all count old k h = record { rest = k; fits = h; spent = omega arith }

-- one step, and half of them are left at most
pub left_half : (count half old now then k : ℕ) → Left count old now k → 0 < count → half ≤ count / 2 → then ≤ now + 1 → Left half old then k
left_half count half old now then k l some le step = by l.rest l.fits l.spent
  where
    by : (r : ℕ) → count < 2 ^ r → now + r ≤ old + k → Left half old then k
    by zero fits spent = absurd (omega (arith, fits, some))
    by (suc r) fits spent = let twice = pow-succ' 2 r in
        record { rest = r; fits = omega (arith, fits, le, twice); spent = omega (arith, spent, step) }

-- they were enough
pub left_spent : (count old now k : ℕ) → Left count old now k → now ≤ old + k
left_spent count old now k l = let s = l.spent in omega (arith, s)
