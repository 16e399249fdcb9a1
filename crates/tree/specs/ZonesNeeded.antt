-- How many zones the pages of a file take, its indirect blocks among them, where a zone holds n zone numbers.
use Rattle.std.specs.Prelude.{ℕ, ◌+◌, ◌*◌, Bool, if◌then◌else◌}
use Rattle.lemmas.specs.Sums.{one_if, count_below, some_below}

-- all pages that an inode has room for: 7 direct, n single, n * n double, n * n * n triple
abbrev pub page_limit : ℕ → ℕ
page_limit n = 7 + n + n * n + n * n * n

-- the pages of a range, counted from its start
abbrev pub from_page : ℕ → (ℕ → Bool) → ℕ → Bool
from_page start held q = held (start + q)

-- how many numbers below n are q div width of a held q
abbrev pub quotients : (ℕ → Bool) → ℕ → ℕ → ℕ
quotients held width n = count_below (λ k. some_below (λ j. held (k * width + j)) width) n

-- the block of the single range, whose pages are counted from its start; so below
abbrev pub single_blocks : ℕ → (ℕ → Bool) → ℕ
single_blocks n held = one_if (some_below held n)

-- the blocks of the double range: its top, and one for each n pages of which one is held
abbrev pub double_blocks : ℕ → (ℕ → Bool) → ℕ
double_blocks n held = if some_below held (n * n) then 1 + quotients held n n else 0

-- the blocks of the triple range: its top, one for each n * n pages, and one for each n
abbrev pub triple_blocks : ℕ → (ℕ → Bool) → ℕ
triple_blocks n held = if some_below held (n * n * n) then 1 + quotients held (n * n) n + quotients held n (n * n) else 0

-- the pages, and the blocks of each range
abbrev pub zones_needed : ℕ → (ℕ → Bool) → ℕ
zones_needed n held =
    count_below held (page_limit n)
    + single_blocks n (from_page 7 held)
    + double_blocks n (from_page (7 + n) held)
    + triple_blocks n (from_page (7 + n + n * n) held)
