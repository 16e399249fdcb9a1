use Rattle.std.proofs.Common.{◌≡◌, ◌≢◌, ◌<◌, ℕ}
use Rattle.volume.specs.Nodes.{page_zone}
use Rattle.image.specs.Contents.{contents}
use Rattle.fsck.proofs.scan.dots.has_hole.Given as goal

abbrev pub invariant-loop-page : goal.invariant-loop-page
invariant-loop-page l = (p : ℕ) → p < l.page → page_zone l.image.geometry (contents l.image) l.inode p ≢ 0
