-- Pages under numbers, as an inode's ten numbers lead to them, and the zones that they take.
use Rattle.std.specs.Prelude.{ℕ, zero, suc, ◌+◌, ◌-◌, ◌*◌, ◌/◌, List, length, slice_index, Bool, not, ◌==◌, nat_lt, if◌then◌else◌}
use Rattle.lemmas.specs.Sums.{sum_below, one_if}
use Rattle.volume.specs.Pieces.{Pieces}
use Rattle.volume.specs.Nodes.{number, page_byte}

-- Each number has a key. A key says whether the number is one or a hole, which keys the 256 numbers have in the block to which it leads, by
-- their level, and what bytes the page has to which it leads.
pub record Pages : Type 0 where
  pub some : ℕ → Bool
  pub below : ℕ → ℕ → ℕ → ℕ
  pub byte : ℕ → ℕ → ℕ

-- those of a volume: the key of a number is the number
abbrev pub pages_in : Pieces → Pages
pages_in v = record { some = λ z. not (z == 0); below = λ l z j. number v z j; byte = page_byte v }

-- how many pages of 1024 bytes so many bytes cover
abbrev pub pages_for : ℕ → ℕ
pages_for bytes = (bytes + 1024 - 1) / 1024

-- how many pages a number of a level leads to
abbrev pub pages_below : ℕ → ℕ
pages_below zero = 1
pages_below (suc l) = 256 * pages_below l

-- the first page to which a slot leads
abbrev pub first_page : ℕ → ℕ
first_page s = if s == 8 then 263 else if s == 9 then 65799 else s

-- those of a row of bytes without holes: the key of a number is the first page to which it leads
abbrev pub pages_from : List ℕ → Pages
pages_from bytes = record {
  some = λ p. nat_lt p (pages_for (length bytes));
  below = λ l p j. p + j * pages_below l;
  byte = λ p o. slice_index bytes (1024 * p + o);
}

-- how many zones stand at a number of a level and below it: at level 0 it is a page's, above it each block has 256 numbers
abbrev pub zones_under : Pages → ℕ → ℕ → ℕ
zones_under s zero k = one_if (s.some k)
zones_under s (suc l) k = one_if (s.some k) + sum_below (λ j. zones_under s l (s.below l k j)) 256
