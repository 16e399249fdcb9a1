-- Names as they stand in a map of the code.
use Rattle.std.specs.Prelude.{ℕ}
use Rattle.std.specs.Global.{Vec}
use Rattle.tree.specs.Names.{Name}

-- a name by its bytes, with its inode
abbrev pub pair_of : Vec ℕ × ℕ → Name × ℕ
pair_of p = (p.0.items, p.1)
