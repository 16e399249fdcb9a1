-- A copy stays where its zones do.
use Rattle.std.proofs.Common.{◌≡◌, ◌<◌, ◌≤◌, ◌+◌, ◌*◌, ℕ, zero, suc, sym, ap, subst, ◌∙◌, arith}
use Rattle.lemmas.specs.Sums.{sum_below, one_if}
use Rattle.volume.specs.Reading.{u32_in}
use Rattle.migrate.specs.Pages.{Pages, zones_under}
use Rattle.migrate.specs.Written.{IsCopy}
use Rattle.migrate.proofs.Laid.{sum_next, sum_front}

-- the bytes of these zones are the same
abbrev pub SameZones : (ℕ → ℕ → ℕ) → (ℕ → ℕ → ℕ) → ℕ → ℕ → Type 0
SameZones d d' e c = (t o : ℕ) → e ≤ t → t < e + c → o < 1024 → d t o ≡ d' t o

-- a copy in them is one in both
pub copy_kept : (s : Pages) (d d' : ℕ → ℕ → ℕ) (l e k z : ℕ) → SameZones d d' e (zones_under s l k) → IsCopy s d l e k z
    → IsCopy s d' l e k z
copy_kept s d d' zero e k z same c = (
  c.0,
  λ is.
      let one : one_if (s.some k) ≡ 1 = ap one_if is in
      ((c.1 is).0, λ o h. sym (same e o (omega arith) (omega arith) h) ∙ (c.1 is).1 o h),
)
copy_kept s d d' (suc l) e k z same c = (
  c.0,
  λ is.
      let f : ℕ → ℕ = λ j. zones_under s l (s.below l k j) in
      let there = c.1 is in
      let at : z ≡ e + sum_below f 256 = there.0 in
      let one : one_if (s.some k) ≡ 1 = ap one_if is in
      let byte : (o : ℕ) → o < 1024 → d z o ≡ d' z o = λ o h. same z o (omega arith) (omega arith) h in (
        at,
        λ j h.
            let number : u32_in (d z) (4 * j) ≡ u32_in (d' z) (4 * j)
            = λ i. byte (4 * j) (omega arith) i + 256 * byte (4 * j + 1) (omega arith) i
            + 65536 * (byte (4 * j + 2) (omega arith) i + 256 * byte (4 * j + 2 + 1) (omega arith) i) in
            let more = sum_next f j in
            let most = sum_front f (j + 1) 256 (omega arith) in
            copy_kept s d d' l (e + sum_below f j) (s.below l k j) (u32_in (d' z) (4 * j))
            (λ t o from to h. same t o (omega arith) (omega arith) h)
            (subst (IsCopy s d l (e + sum_below f j) (s.below l k j)) number (there.1 j h)),
      ),
)
