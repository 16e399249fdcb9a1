use Rattle.std.proofs.Common.{◌≡◌, ◌≤◌, ◌-◌}
use Rattle.volume.specs.Pieces.{pieces}
use Rattle.block_store.specs.World.{Reads}
use Rattle.file.specs.Need.{holes}
use Rattle.file.proofs.file_room.pages.holes.Given as goal

abbrev pub invariant-loop-place : goal.invariant-loop-place
invariant-loop-place g l =
    (l.holes ≤ l.place - l.from) × Reads g.B.Blocks.world l.fn.blocks l.blocks (λ d. l.holes ≡ holes l.geometry (pieces l.geometry d) l.inode l.level l.from l.place)
