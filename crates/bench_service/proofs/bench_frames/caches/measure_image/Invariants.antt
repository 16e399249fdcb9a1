use Rattle.std.specs.Prelude.{[]}
use Rattle.reincarnate.specs.Policy.{default_policy}
use Rattle.board.specs.Rooms.{no_geometry}
use Rattle.bench_service.proofs.bench_frames.caches.measure_image.Given as goal

-- the volume is all of the media
abbrev pub ghosts-measure_on : goal.ghosts-measure_on
ghosts-measure_on g a = record {
  table = a.board;
  opening = record { media = a.image.now; first = 0; count = 32768; minor = 0 };
  geometry = no_geometry;
  policy = default_policy;
  supply = [];
}
