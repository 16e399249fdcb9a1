-- Zones past the end of a file and empty blocks, at a place and below it.
use Rattle.std.specs.Prelude.{ℕ, zero, suc, ◌+◌, ◌*◌, Bool, ◌||◌, ◌==◌, nat_lt, if◌then◌else◌}
use Rattle.lemmas.specs.Sums.{some_below}
use Rattle.tree.specs.Space.{numbers_in_zone}
use Rattle.volume.specs.Places.{zone_at}
use Rattle.volume.specs.Findings.{is_past_end, is_empty_block}
use Rattle.image.specs.declared.Image.{Image}
use Rattle.image.specs.Contents.{contents}

-- the place of a slot among those of its level
abbrev pub index_of : ℕ → ℕ
index_of s = if nat_lt s 7 then s else 0

-- the place of a level at which the numbers of the blocks above begin
abbrev pub first_place : ℕ → ℕ
first_place level = if level == 0 then 7 else 1

-- the zone at a place of inode n is a page's at or past the end, or an empty block, or one below it is such
unfoldable pub is_spare : Image → ℕ → ℕ → ℕ → Bool
is_spare i n zero k = is_past_end i.geometry (contents i) n k
is_spare i n (suc level) k =
    is_empty_block i.geometry (contents i) (zone_at i.geometry (contents i) ((contents i).inodes n) (suc level) k)
    || some_below (λ j. is_spare i n level (first_place level + (k * numbers_in_zone i.geometry + j))) (numbers_in_zone i.geometry)
