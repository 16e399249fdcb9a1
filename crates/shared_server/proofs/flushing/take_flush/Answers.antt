use Rattle.std.proofs.Common.{◌∙◌}
use Rattle.message.specs.declared.Incoming.TheVariants as incoming
use Rattle.shared_server.proofs.HandedLaws.{held_handed}
use Rattle.shared_server.proofs.flushing.take_flush.Goals as goal

pub returns-clause-held : goal.returns-clause-held
returns-clause-held g c =
    held_handed
    g.N.ServiceParameters g.L.Link g.S.Serve.serving g.S.FileServer.line g.S.FileServer.is_ready g.S.FileServer.knows
    g.L.Supplied.runs_on g.L.Recorder.marks incoming.Flush
    c.args.server.now c.note_flush.new.server c.absorb.new.self
    (record {
      tells = g.met.S.FileServer.tells;
      is_record = λ l older truth. g.met.L.Recorder.is_record l g.N.ServiceParameters.opening older truth;
      end_last = λ l older truth. g.met.L.Recorder.end_last l g.N.ServiceParameters.opening older truth;
      keeps_on = λ l m goes runs. g.met.L.Supplied.keeps_on l m g.N.ServiceParameters.policy g.N.ServiceParameters.supply goes runs;
    })
    (record {
      other = λ is. cc;
      served = c.note_flush.ensures.same.served;
      drivers = λ runs. c.note_flush.ensures.same.at_link.runs _ _ runs;
      noted = λ older truth. c.note_flush.ensures.truth g.N.ServiceParameters.opening older truth;
      absorbs = c.absorb.ensures.keeps;
      ready = c.absorb.ensures.ready;
      goes = c.absorb.ensures.goes;
    })
    c.requires.held

pub returns-clause-numbers : goal.returns-clause-numbers
returns-clause-numbers g c = g.met.L.Recorder.numbers_stay _ _ c.absorb.ensures.goes ∙ c.note_flush.ensures.numbers
