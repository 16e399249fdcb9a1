-- The zones and inodes that a tree takes of a volume.
use Rattle.std.specs.Prelude.{ℕ, ◌+◌, ◌-◌, ◌/◌, Bool, nat_lt, Option, None, Some, is_some}
use Rattle.layout.specs.declared.Geometry.{Geometry}
use Rattle.lemmas.specs.Sums.{sum_below, count_below}
use Rattle.tree.specs.ZonesNeeded.{zones_needed}
use Rattle.tree.specs.Tree.{Body, is_file, is_directory, Node, Tree, size_of}

-- how many zone numbers a zone holds
abbrev pub numbers_in_zone : Geometry → ℕ
numbers_in_zone g = g.block_size / 4

-- how many pages so many bytes cover
abbrev pub pages_of : Geometry → ℕ → ℕ
pages_of g bytes = (bytes + g.block_size - 1) / g.block_size

-- the pages that are held: of a directory those that its size covers
abbrev pub held_of : Geometry → Body → ℕ → Bool
held_of g (is_file f) = f.held
held_of g (is_directory d) = λ q. nat_lt q (pages_of g (size_of (is_directory d)))

-- how many zones a node takes
abbrev pub zones_of : Geometry → Option Node → ℕ
zones_of g None = 0
zones_of g (Some node) = zones_needed (numbers_in_zone g) (held_of g node.body)

-- the zones that the tree uses; a node without a name that is open counts too
abbrev pub zones_used : Geometry → Tree → ℕ
zones_used g t = sum_below (λ n. zones_of g (t.nodes n)) (g.inodes + 1)

-- how many zones a volume has for bytes, names and indirect blocks
abbrev pub data_zones : Geometry → ℕ
data_zones g = g.zones - g.first_zone

-- how many of them the tree leaves
abbrev pub free_zones : Geometry → Tree → ℕ
free_zones g t = data_zones g - zones_used g t

-- how many inodes the tree leaves
abbrev pub free_inodes : Geometry → Tree → ℕ
free_inodes g t = g.inodes - count_below (λ n. is_some (t.nodes n)) (g.inodes + 1)
