use Rattle.std.specs.Prelude.{map}
use Rattle.std.specs.List.{concat}
use Rattle.records.specs.Opening.{contents_at}
use Rattle.service_start.specs.Laws.{sizes_in}
use Rattle.service_start.specs.Starting.{opening_of}
use Rattle.lecternowl.proofs.start.start.Given as goal

-- the service's board, its volume and the sizes that its superblock gives, the policy and the drivers, from what is handed over
abbrev pub ghosts-start_and_do : goal.ghosts-start_and_do
ghosts-start_and_do g a = record {
  table = a.board;
  opening = opening_of (concat a.checked.prepared.media.sectors) a.setup.now.minor a.checked.prepared.range;
  geometry = sizes_in (contents_at (opening_of (concat a.checked.prepared.media.sectors) a.setup.now.minor a.checked.prepared.range));
  policy = a.setup.now.policy;
  supply = map g.D.BlockDriver.state a.supply.items;
}
