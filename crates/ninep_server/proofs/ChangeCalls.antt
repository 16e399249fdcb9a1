-- The calls of changes.
use Rattle.std.specs.Prelude.{◌≡◌, refl}
use Rattle.tree.specs.declared.PathFrom.{PathFrom}
use Rattle.talks.specs.Plain.{plain_path}
use Rattle.talks.specs.Changes.{change_call}
use Rattle.talks.specs.declared.changes.Change.{Change}
use Rattle.talks.specs.declared.changes.Change.TheVariants as change

-- a change is called alike, wherever its path's bytes stand
pub called_alike : (path : PathFrom) (c : Change) → change_call path c ≡ change_call (plain_path path) c
called_alike path (change.Size size) = refl
called_alike path (change.Owners uid gid) = refl
called_alike path (change.Mode mode) = refl
called_alike path (change.Times atime mtime) = refl
