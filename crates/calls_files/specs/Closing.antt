-- When a close leaves the node of what it closes.
use Rattle.std.specs.Prelude.{ℕ, Bool, true, Ok, Err}
use Rattle.tree.specs.Tree.{Tree}
use Rattle.tree.specs.Changes.{open_file_of}
use Rattle.records.specs.Settled.{has_link}

-- whether the descriptor's node has a link, if it leads to one
abbrev pub leaves_node : Tree → ℕ → ℕ → Bool
leaves_node t session fd = elim (open_file_of t session fd) [ Ok found ↦ has_link t found.1.inode | Err e ↦ true ]
