use Rattle.shared_server.proofs.HandedLaws.{held_handed}
use Rattle.shared_server.proofs.HeldLaws.{held_served}
use Rattle.shared_server.proofs.flushing.take_aside.Goals as goal

pub returns-in-Some-clause-held : goal.returns-in-Some-clause-held
returns-in-Some-clause-held g c =
    held_handed
    g.N.ServiceParameters g.L.Link g.S.Serve.serving g.S.FileServer.line g.S.FileServer.is_ready g.S.FileServer.knows
    g.L.Supplied.runs_on g.L.Recorder.marks c.in-Some.message
    c.args.server.now c.next_aside.new.server c.absorb.new.self
    (record {
      tells = g.met.S.FileServer.tells;
      is_record = λ l older truth. g.met.L.Recorder.is_record l g.N.ServiceParameters.opening older truth;
      end_last = λ l older truth. g.met.L.Recorder.end_last l g.N.ServiceParameters.opening older truth;
      keeps_on = λ l m goes runs. g.met.L.Supplied.keeps_on l m g.N.ServiceParameters.policy g.N.ServiceParameters.supply goes runs;
    })
    (record {
      other = c.in-Some.ensures.message.1;
      served = c.in-Some.ensures.served;
      drivers = λ runs.
          g.met.L.Supplied.keeps_on _ _ g.N.ServiceParameters.policy g.N.ServiceParameters.supply c.in-Some.ensures.goes runs;
      noted = λ older truth. c.in-Some.ensures.some g.N.ServiceParameters.opening older truth;
      absorbs = c.absorb.ensures.keeps;
      ready = c.absorb.ensures.ready;
      goes = c.absorb.ensures.goes;
    })
    c.requires.held

pub returns-in-None-clause-held : goal.returns-in-None-clause-held
returns-in-None-clause-held g c =
    let held = c.requires.held in
    held_served
    g.N.ServiceParameters g.L.Link g.S.Serve.serving g.S.FileServer.line g.S.FileServer.is_ready g.S.FileServer.knows
    g.L.Supplied.runs_on g.L.Recorder.marks
    c.args.server.now c.next_aside.new.server
    c.in-None.ensures.served (c.in-None.ensures.may held.ready) c.in-None.ensures.told
    (g.met.L.Supplied.keeps_on _ _ g.N.ServiceParameters.policy g.N.ServiceParameters.supply c.in-None.ensures.goes held.drivers)
    (λ older truth. c.in-None.ensures.none g.N.ServiceParameters.opening older truth)
    (g.met.L.Recorder.is_record _ g.N.ServiceParameters.opening _
    (c.in-None.ensures.none g.N.ServiceParameters.opening _ held.stands.truth))
    held
