use Rattle.modeldisk.proofs.HandedLaws.{keeps_handed}
use Rattle.modeldisk.proofs.sector_mover.mover.Mover.step_into.Goals as goal

pub returns-clause-keeps : goal.returns-clause-keeps
returns-clause-keeps c =
    keeps_handed c.args.self.now c.args.media.now c.args.generation c.advance-stepped.result c.args.bytes.now c.hand_over.new.bytes
    c.advance-stepped.new.self c.advance-stepped.new.media
    c.advance-stepped.ensures.request c.hand_over.ensures c.advance-stepped.ensures.keeps
