use Rattle.std.specs.Prelude.{[]}
use Rattle.reincarnate.specs.Policy.{default_policy}
use Rattle.board.specs.Rooms.{no_geometry}
use Rattle.bench_service.proofs.bench_threads.ticks_over.Given as goal

-- the volume is all of the media
abbrev pub ghosts-time_ticks : goal.ghosts-time_ticks
ghosts-time_ticks g a = record {
  table = a.board;
  opening = record { media = a.image.now; first = 0; count = 1; minor = 0 };
  geometry = no_geometry;
  policy = default_policy;
  supply = [];
}
