use Rattle.std.specs.Prelude.{[]}
use Rattle.volume_mount.specs.Starting.{opening_of}
use Rattle.reincarnate.specs.Policy.{default_policy}
use Rattle.tests_sessions.proofs.ended.asked_of.Given as goal

-- the whole image is the volume
abbrev pub ghosts-ask_and_stop : goal.ghosts-ask_and_stop
ghosts-ask_and_stop g a = record {
  table = a.board;
  opening = opening_of a.image.now 0 a.prepared.range;
  geometry = a.geometry;
  policy = default_policy;
  supply = [];
}
