use Rattle.std.proofs.Common.{rules}
use Rattle.std.specs.Prelude.{IsTrue}
use Rattle.volume.specs.Reading.{is_data_zone}
use Rattle.block_store.proofs.Turns.{turns_as}
use Rattle.zone.proofs.Frames.{zone_cleared}
use Rattle.zone.proofs.numbers.clear_zone.Goals as goal

pub returns-clause-turns : goal.returns-clause-turns
returns-clause-turns g c =
    let is : IsTrue (is_data_zone c.args.geometry.now c.args.zone) = search rules in
    turns_as _ _ _ _ _ (λ d e h. zone_cleared c.args.geometry.now c.requires.on.geometry d e c.args.zone is h) c.in_ok-clear.ensures.turns
