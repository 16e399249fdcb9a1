-- Counts of the uses of zones, up to two.
use Rattle.std.specs.Prelude.{◌≡◌, ◌≤◌, ◌<◌, ℕ, ◌+◌, List, length, slice_index, Bool, ◌==◌, min, if◌then◌else◌}
use Rattle.lemmas.specs.Sums.{sum_below, count_below}
use Rattle.tree.specs.Space.{numbers_in_zone}
use Rattle.volume.specs.Nodes.{word, slot, is_marked}
use Rattle.volume.specs.Places.{uses}
use Rattle.image.specs.declared.Image.{Image}
use Rattle.image.specs.Contents.{contents}
use Rattle.image.specs.Entered.{is_in}

-- none is over two
abbrev pub AreSmall : List ℕ → Type 0
AreSmall counts = (z : ℕ) → slice_index counts z ≤ 2

-- each grew by so many, up to two
pub record AreCountedTo (more : ℕ → ℕ) (old new : List ℕ) : Type 0 where
  pub size : length new ≡ length old
  pub each : (z : ℕ) → z < length old → slice_index new z ≡ min 2 (slice_index old z + more z)

-- each zone's uses are counted, up to two
pub record AreCounted (i : Image) (counts : List ℕ) : Type 0 where
  pub size : length counts ≡ i.geometry.zones
  pub each : (z : ℕ) → z < i.geometry.zones → slice_index counts z ≡ min 2 (uses i.geometry (contents i) z)

-- how often inode n names zone z, where it is marked
abbrev pub named_by_inode : Image → ℕ → ℕ → ℕ
named_by_inode i z n =
    if is_marked i.geometry (contents i) n then count_below (λ s. slot ((contents i).inodes n) s == z) 10 else 0

-- how often the numbers in a zone name zone z
abbrev pub named_by_zone : Image → ℕ → ℕ → ℕ
named_by_zone i z above = count_below (λ j. word (contents i) above j == z) (numbers_in_zone i.geometry)

-- the same, where that zone is entered at a level
abbrev pub named_by_entered : Image → List Bool → ℕ → ℕ → ℕ → ℕ
named_by_entered i entered level z above = if is_in i entered level above then named_by_zone i z above else 0
