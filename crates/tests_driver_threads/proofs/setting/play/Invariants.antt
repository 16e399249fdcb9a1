use Rattle.std.specs.Prelude.{[]}
use Rattle.reincarnate.specs.Policy.{default_policy}
use Rattle.board.specs.Rooms.{no_geometry}
use Rattle.tests_driver_threads.proofs.setting.play.Given as goal

-- the volume is the first sectors of the media
abbrev pub ghosts-play_on : goal.ghosts-play_on
ghosts-play_on g a = record {
  table = a.board;
  opening = record { media = a.image.now; first = 0; count = a.sectors; minor = 0 };
  geometry = no_geometry;
  policy = default_policy;
  supply = [];
}
