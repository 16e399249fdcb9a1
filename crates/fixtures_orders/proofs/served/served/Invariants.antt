use Rattle.std.specs.Prelude.{[]}
use Rattle.std.specs.List.{concat}
use Rattle.records.specs.Opening.{contents_at}
use Rattle.volume_mount.specs.Laws.{sizes_in}
use Rattle.volume_mount.specs.Starting.{opening_of}
use Rattle.fixtures_orders.proofs.served.served.Given as goal

-- the board, the volume, its sizes and the policy, from what is handed over; nothing is asked of drivers
abbrev pub ghosts-start_and_do : goal.ghosts-start_and_do
ghosts-start_and_do g a = record {
  table = a.board;
  opening = opening_of (concat a.prepared.media.sectors) a.setup.now.minor a.prepared.range;
  geometry = sizes_in (contents_at (opening_of (concat a.prepared.media.sectors) a.setup.now.minor a.prepared.range));
  policy = a.setup.now.policy;
  supply = [];
}
