-- The zones under a number.
use Rattle.std.proofs.Common.{◌≡◌, ◌≢◌, ◌+◌, ◌-◌, ◌*◌, ℕ, zero, suc, List, length, true, false, refl, sym, ap, ◌∙◌, arith}
use Rattle.std.specs.Prelude.{not, ◌==◌}
use Rattle.std.proofs.lemmas.Bool.{cond-true, le-ltb, ltb-false}
use Rattle.lemmas.proofs.Bools.{not_false}
use Rattle.lemmas.specs.Sums.{sum_below, one_if}
use Rattle.volume.specs.Pieces.{Pieces}
use Rattle.volume.specs.Nodes.{word}
use Rattle.volume.proofs.Swapped.{sum_none}
use Rattle.migrate.specs.Pages.{Pages, pages_in, pages_for, pages_below, pages_from, zones_under}

-- below a hole stand holes
abbrev pub HolesStay : Pages → Type 0
HolesStay s = (l k j : ℕ) → s.some k ≡ false → s.some (s.below l k j) ≡ false

-- so it takes no zone
pub none_under : (s : Pages) → HolesStay s → (l k : ℕ) → s.some k ≡ false → zones_under s l k ≡ 0
none_under s stay zero k out = ap one_if out
none_under s stay (suc l) k out =
    let here : one_if (s.some k) ≡ 0 = ap one_if out in
    let rest = sum_none (λ j. zones_under s l (s.below l k j)) 256 (λ j _. none_under s stay l (s.below l k j) (stay l k j out)) in
    omega arith

-- a block is one, and what it names
pub block_under : (s : Pages) (l k : ℕ) → l ≢ 0 → s.some k ≡ true
    → zones_under s l k ≡ 1 + sum_below (λ j. zones_under s (l - 1) (s.below (l - 1) k j)) 256
block_under s zero k high is = absurd (high refl)
block_under s (suc l) k high is =
    let same : suc l - 1 ≡ l = omega arith in
    let here : one_if (s.some k) ≡ 1 = ap one_if is in
    ap (λ a. a + sum_below (λ j. zones_under s l (s.below l k j)) 256) here
    ∙ ap (λ m. 1 + sum_below (λ j. zones_under s m (s.below m k j)) 256) (sym same)

-- it is so in a row of bytes
pub holes_from : (bytes : List ℕ) → HolesStay (pages_from bytes)
holes_from bytes l p j out =
    let past = ltb-false p (pages_for (length bytes)) out in
    le-ltb (p + j * pages_below l) (pages_for (length bytes)) (omega arith)

-- and in a volume
pub holes_in : (v : Pieces) → HolesStay (pages_in v)
holes_in v l z j out =
    let none = not_false (z == 0) out in
    ap (λ z. not (z == 0)) (cond-true (z == 0) 0 (word v z j) none)
