use Rattle.modeldisk.proofs.HandedLaws.{keeps_handed}
use Rattle.modeldisk.proofs.MoverLaws.{is_driver}
use Rattle.modeldisk.proofs.scripted.ScriptedDriverBlockDriver.step_into.Goals as goal

pub returns-clause-keeps : goal.returns-clause-keeps
returns-clause-keeps c =
    keeps_handed c.args.self.now.mover c.args.media.now c.args.generation c.advance-stepped.result c.args.bytes.now c.hand_over.new.bytes
    c.advance-stepped.new.self.mover c.advance-stepped.new.media
    c.advance-stepped.ensures.request c.hand_over.ensures c.advance-stepped.ensures.keeps

pub returns-clause-driver : goal.returns-clause-driver
returns-clause-driver c = is_driver c.advance-stepped.new.self.mover c.advance-stepped.ensures.few
