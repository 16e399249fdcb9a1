-- What a volume says of the directories above one.
use Rattle.std.specs.Prelude.{◌≡◌, ℕ, Bool, true}
use Rattle.layout.specs.declared.Geometry.{Geometry}
use Rattle.tree.specs.Tree.{Tree, is_dir_at}
use Rattle.tree.specs.NameCalls.{is_within}
use Rattle.volume.specs.Reading.{Disk}
use Rattle.volume.specs.Holds.{Holds}

-- some tree is held in which a directory has this number
pub record HoldsDirectory (g : Geometry) (d : Disk) (n : ℕ) : Type 0 where
  pub tree : Tree
  pub holds : Holds g d tree
  pub directory : is_dir_at tree.nodes n ≡ true

-- the answer to whether the directory is `top`, or lies below it
abbrev pub SaysWithin : Geometry → Disk → ℕ → ℕ → Bool → Type 0
SaysWithin g d n top x = (t : Tree) → Holds g d t → is_dir_at t.nodes n ≡ true → x ≡ is_within g t n top
