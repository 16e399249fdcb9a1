-- What unmounting a server over a cache promises.
use Rattle.std.specs.Prelude.{◌≡◌, List}
use Rattle.tree.specs.Tree.{Tree}
use Rattle.records.specs.Marks.{Mark}
use Rattle.records.specs.Opening.{Opening, contents_at}
use Rattle.records.specs.Acts.{marks_after}
use Rattle.records.specs.ServerCall.{Serving}
use Rattle.records.specs.Unmount.{UnmountKeeps, Unmounting}
use Rattle.reissue.specs.Calls.{Truth}

-- A server over a link is unmounted: what the link guarantees of a record that the server agrees with it guarantees afterwards.
pub record UnmountsOver (old new : Serving) (was is : Truth) (result : Unmounting) : Type 0 where
  pub keeps : UnmountKeeps old result new
  pub truth : (v : Opening) (tree : Tree) (marks : List Mark) → v.minor ≡ old.minor → old.Agrees (contents_at v) tree marks
      → was v marks → is v (marks_after keeps.acts marks)
