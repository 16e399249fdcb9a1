-- Where a seek leads.
use Rattle.std.specs.Prelude.{ℕ, Option, Some, None, nat_lt, if◌then◌else◌}
use Rattle.tree.specs.declared.Whence.{Whence}
use Rattle.tree.specs.declared.Whence.TheVariants.{Set, Cur, End}
use Rattle.tree.specs.Tree.{most_size}
use Rattle.calls_attributes.specs.declared.found.Found.{Found}

-- the place from which a seek of an open file counts
abbrev pub base_of : Found → Whence → ℕ
base_of x Set = 0
base_of x Cur = x.position
base_of x End = x.inode.size

-- a place, if a position may lie there
abbrev pub may_lie : Option ℕ → Option ℕ
may_lie None = None
may_lie (Some at) = if nat_lt most_size at then None else Some at
