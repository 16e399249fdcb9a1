-- How the zones that a file needs change with the pages that are held, where a zone holds n zone numbers.
use Rattle.std.specs.Prelude.{◌≡◌, ◌≤◌, ◌<◌, ℕ, ◌+◌, ◌*◌, Bool, true, false, not, ◌&&◌, nat_lt}
use Rattle.lemmas.specs.Sums.{one_if, count_below, some_below, put}
use Rattle.tree.specs.ZonesNeeded.{page_limit, from_page, zones_needed}

-- pages held of `more` and not of `fewer`
abbrev pub only_in : (ℕ → Bool) → (ℕ → Bool) → ℕ → Bool
only_in more fewer q = more q && not (fewer q)

-- whether a page below n is held of `more`, and none of `fewer`
abbrev pub newly_some : (ℕ → Bool) → (ℕ → Bool) → ℕ → Bool
newly_some more fewer n = some_below more n && not (some_below fewer n)

-- how many of the n blocks, each of so many pages, have a page of `more`, and none of `fewer`
abbrev pub newly_used : (ℕ → Bool) → (ℕ → Bool) → ℕ → ℕ → ℕ
newly_used more fewer width n = count_below (λ k. newly_some (λ j. more (k * width + j)) (λ j. fewer (k * width + j)) width) n

-- the indirect blocks that `more` needs and `fewer` doesn't: of the single, the double and the triple range
abbrev pub new_single : ℕ → (ℕ → Bool) → (ℕ → Bool) → ℕ
new_single n more fewer = one_if (newly_some more fewer n)

abbrev pub new_double : ℕ → (ℕ → Bool) → (ℕ → Bool) → ℕ
new_double n more fewer = one_if (newly_some more fewer (n * n)) + newly_used more fewer n n

abbrev pub new_triple : ℕ → (ℕ → Bool) → (ℕ → Bool) → ℕ
new_triple n more fewer = one_if (newly_some more fewer (n * n * n)) + newly_used more fewer (n * n) n + newly_used more fewer n (n * n)

abbrev pub new_blocks : ℕ → (ℕ → Bool) → (ℕ → Bool) → ℕ
new_blocks n more fewer =
    new_single n (from_page 7 more) (from_page 7 fewer)
    + new_double n (from_page (7 + n) more) (from_page (7 + n) fewer)
    + new_triple n (from_page (7 + n + n * n) more) (from_page (7 + n + n * n) fewer)

-- Where more pages are held, no fewer zones are needed.
abbrev pub NeedIsMonotone : Type 0
NeedIsMonotone = (n : ℕ) (more fewer : ℕ → Bool) → ((q : ℕ) → fewer q ≡ true → more q ≡ true) → zones_needed n fewer ≤ zones_needed n more

-- They are more by the pages, and by the blocks that had no page before.
abbrev pub NeedGrows : Type 0
NeedGrows =
    (n : ℕ) (more fewer : ℕ → Bool) → ((q : ℕ) → fewer q ≡ true → more q ≡ true)
    → zones_needed n more ≡ zones_needed n fewer + count_below (only_in more fewer) (page_limit n) + new_blocks n more fewer

-- One page more is one zone more, and its blocks that had no page.
abbrev pub OnePageMore : Type 0
OnePageMore =
    (n : ℕ) (held : ℕ → Bool) (q : ℕ) → held q ≡ false → q < page_limit n
    → zones_needed n (put held q true) ≡ zones_needed n held + 1 + new_blocks n (put held q true) held

-- the pages below p
abbrev pub pages_below : ℕ → (ℕ → Bool) → ℕ → Bool
pages_below p held q = held q && nat_lt q p

-- All pages from p on let go are as many zones less, and the blocks that have no page left.
abbrev pub PagesLetGo : Type 0
PagesLetGo =
    (n : ℕ) (held : ℕ → Bool) (p : ℕ)
    → zones_needed n held ≡ zones_needed n (pages_below p held) + count_below (only_in held (pages_below p held)) (page_limit n) + new_blocks n held (pages_below p held)
