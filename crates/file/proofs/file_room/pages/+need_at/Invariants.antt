use Rattle.std.proofs.Common.{◌-◌}
use Rattle.file.proofs.file_room.pages.+need_at.Given as goal

abbrev pub decreases-need_at : goal.decreases-need_at
decreases-need_at g l = 4 - l.level
