-- The zones of a file without holes, as each directory is one.
use Rattle.std.specs.Prelude.{ℕ, Bool, nat_lt}
use Rattle.layout.specs.declared.Geometry.{Geometry}
use Rattle.tree.specs.ZonesNeeded.{zones_needed}
use Rattle.tree.specs.Space.{numbers_in_zone, pages_of}

-- the first p pages, and no others
abbrev pub first_pages : ℕ → ℕ → Bool
first_pages p q = nat_lt q p

-- how many zones a file of so many bytes takes
abbrev pub zones_of_size : Geometry → ℕ → ℕ
zones_of_size g size = zones_needed (numbers_in_zone g) (λ q. nat_lt q (pages_of g size))
