-- The entries of a directory.
use Rattle.std.specs.Prelude.{ℕ, List, ◌∷◌, map, codes}
use Rattle.tree.specs.declared.Entry.{Entry}

-- The entries of a directory, each by its inode and its name: itself, the one above, and its names, in their order. An offset counts them.
abbrev pub entries_of : ℕ → ℕ → List Entry → List (ℕ × List ℕ)
entries_of own above names = (own, codes ".") ∷ (above, codes "..") ∷ map (λ (e : Entry). (e.inode, e.name.items)) names
