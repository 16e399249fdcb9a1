use Rattle.std.specs.Prelude.{[]}
use Rattle.reincarnate.specs.Policy.{default_policy}
use Rattle.board.specs.Rooms.{no_geometry}
use Rattle.tests_driver_threads.proofs.compared.likeness_of.Given as goal

-- the volume is all of the media
abbrev pub ghosts-compared_on : goal.ghosts-compared_on
ghosts-compared_on g a = record {
  table = a.board;
  opening = record { media = a.image.now; first = 0; count = 128; minor = 0 };
  geometry = no_geometry;
  policy = default_policy;
  supply = [];
}
