use Rattle.std.proofs.Common.{◌∙◌, sym, ap}
use Rattle.reincarnate.specs.Watch.{driver}
use Rattle.simulated_link.proofs.StageLaws.{quiet_tick, fault_tick, give_up_tick, start_tick}
use Rattle.simulated_link.proofs.events.stage.Stage.pass_tick.Goals as goal

pub returns-in-Nothing-clause-ticks : goal.returns-in-Nothing-clause-ticks
returns-in-Nothing-clause-ticks g c = quiet_tick _ _ _ _ _ _ _ _ (c.beat.ensures.beaten _) c.in-Nothing.ensures.decides

pub returns-in-WaitUntil-clause-ticks : goal.returns-in-WaitUntil-clause-ticks
returns-in-WaitUntil-clause-ticks g c =
    fault_tick _ _ _ _ _ _ _ _ _ _ _ (c.driver-current.ensures ∙ ap driver (sym c.beat.new.self.drivers.current_is)) c.note_fault.ensures.said
    (c.beat.ensures.beaten _) c.in-WaitUntil.ensures.decides

pub returns-in-GiveUp-clause-ticks : goal.returns-in-GiveUp-clause-ticks
returns-in-GiveUp-clause-ticks g c =
    give_up_tick _ _ _ _ _ _ _ _ _ _ (c.driver-current.ensures ∙ ap driver (sym c.beat.new.self.drivers.current_is)) c.note_fault-in-GiveUp.ensures.said
    (c.beat.ensures.beaten _) c.in-GiveUp.ensures.decides

pub returns-in-Start-clause-ticks : goal.returns-in-Start-clause-ticks
returns-in-Start-clause-ticks g c = start_tick _ _ _ _ _ _ _ _ _ _ _ c.start.ensures.started (c.beat.ensures.beaten _) c.in-Start.ensures.decides
