-- The zones that the tree of an old volume uses, with entries of version 3 and blocks of 1024 bytes.
use Rattle.std.specs.Prelude.{◌≡◌, ℕ, zero, suc, ◌+◌, ◌-◌, ◌*◌, ◌/◌, Bool, false, not, ◌&&◌, nat_lt, nat_le, Option}
use Rattle.layout.specs.declared.Geometry.{Geometry}
use Rattle.lemmas.specs.Sums.{sum_below, count_below, one_if}
use Rattle.tree.specs.Tree.{Node}
use Rattle.tree.specs.Space.{zones_of, data_zones}
use Rattle.volume.specs.declared.Inode.{Inode}
use Rattle.volume.specs.Pieces.{Pieces}
use Rattle.volume.specs.Nodes.{slot, file_byte}
use Rattle.image.specs.declared.Image.{Image}
use Rattle.image.specs.Contents.{contents}
use Rattle.image.specs.Entered.{level_of}
use Rattle.new_volume.specs.Sizes.{new_geometry}
use Rattle.fsck.specs.Form.{version_2}
use Rattle.fsck.specs.Nodes.{nodes_of, is_dropped, entry_count_of}
use Rattle.fsck.specs.Findings.{has_bad_size}
use Rattle.migrate.specs.Pages.{pages_in, zones_under}

-- how many zones the nodes use: `zones_used` of a tree with these nodes
abbrev pub zones_of_all : Geometry → (ℕ → Option Node) → ℕ
zones_of_all g nodes = sum_below (λ n. zones_of g (nodes n)) (g.inodes + 1)

-- A new volume of so many blocks with as many inodes as the old one has a data zone, and as many as the old one's tree uses.
abbrev pub has_room : Geometry → Pieces → ℕ → Bool
has_room g v blocks =
    let new = new_geometry blocks 1024 g.inodes in
    nat_lt new.first_zone blocks && nat_le (zones_of_all new (nodes_of version_2 g v)) (data_zones new)

-- how many zones stand at a number of a level and below it
abbrev pub zones_below : Pieces → ℕ → ℕ → ℕ
zones_below v = zones_under (pages_in v)

-- and no more than this
abbrev pub most_below : ℕ → ℕ
most_below zero = 1
most_below (suc l) = 1 + 256 * most_below l

-- how many zones the ten numbers of an inode lead to
abbrev pub zones_in : Pieces → Inode → ℕ
zones_in v i = sum_below (λ s. zones_below v (level_of s) (slot i s)) 10

-- how many entries of an old directory past the first two aren't free
abbrev pub name_count : Geometry → Pieces → Inode → ℕ
name_count g v i = count_below (λ e. not (is_dropped version_2 (file_byte g v i) (e + 2))) (entry_count_of version_2 i - 2)

-- how many blocks, each of so many pages, cover those from a first one on
abbrev pub blocks_over : ℕ → ℕ → ℕ → ℕ
blocks_over pages first width = (pages - first + width - 1) / width

-- how many zones the first pages take: they, the blocks that name them, the blocks that name those, and the triple's
abbrev pub zones_for : ℕ → ℕ
zones_for pages = pages + blocks_over pages 7 256 + blocks_over pages 263 65536 + one_if (nat_lt 65799 pages)

-- no inode of the old volume has a bad size
abbrev pub SizesAreGood : Image → Type 0
SizesAreGood i = (n : ℕ) → has_bad_size version_2 i.geometry (contents i) n ≡ false
