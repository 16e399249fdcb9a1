use Rattle.std.proofs.Common.{◌∙◌, refl}
use Rattle.tree.specs.Answers.{answer_of}
use Rattle.tree.specs.declared.Outcome.TheVariants as tree
use Rattle.records.specs.ServerCall.{Replied, Cut}
use Rattle.shared_server.proofs.HeldLaws.{adds_call, cut_given, eio_after, eio_given, held_after, held_sound, held_guaranteed, held_volume, session_answered, session_cut}
use Rattle.shared_server.proofs.calling.make_call.Goals as goal

pub returns-in-Answered-clause-held : goal.returns-in-Answered-clause-held
returns-in-Answered-clause-held g c =
    held_after
    g.N.ServiceParameters g.L.Link g.S.Serve.serving g.S.FileServer.line g.S.FileServer.is_ready g.S.FileServer.knows
    g.L.Supplied.runs_on g.L.Recorder.marks
    c.args.who c.args.now c.args.call.now (Replied (answer_of c.call.new.reply))
    c.args.server.now c.call.new.self c.count_call.new.server
    (record {
      tells = g.met.S.FileServer.tells;
      is_record = λ l older truth. g.met.L.Recorder.is_record l g.N.ServiceParameters.opening older truth;
      end_last = λ l older truth. g.met.L.Recorder.end_last l g.N.ServiceParameters.opening older truth;
      keeps_on = λ l m goes runs. g.met.L.Supplied.keeps_on l m g.N.ServiceParameters.policy g.N.ServiceParameters.supply goes runs;
    })
    (record {
      calls = c.in-Answered.ensures.keeps;
      ready = c.call.ensures.ready;
      goes = c.call.ensures.goes;
      same = c.count_call.ensures.same;
      counted = λ older truth. c.count_call.ensures.truth g.N.ServiceParameters.opening older truth;
    })
    c.requires.held

pub returns-in-Cut-clause-held : goal.returns-in-Cut-clause-held
returns-in-Cut-clause-held g c =
    held_after
    g.N.ServiceParameters g.L.Link g.S.Serve.serving g.S.FileServer.line g.S.FileServer.is_ready g.S.FileServer.knows
    g.L.Supplied.runs_on g.L.Recorder.marks
    c.args.who c.args.now c.args.call.now (Cut)
    c.args.server.now c.call.new.self c.show.new.server
    (record {
      tells = g.met.S.FileServer.tells;
      is_record = λ l older truth. g.met.L.Recorder.is_record l g.N.ServiceParameters.opening older truth;
      end_last = λ l older truth. g.met.L.Recorder.end_last l g.N.ServiceParameters.opening older truth;
      keeps_on = λ l m goes runs. g.met.L.Supplied.keeps_on l m g.N.ServiceParameters.policy g.N.ServiceParameters.supply goes runs;
    })
    (record {
      calls = c.in-Cut.ensures.keeps;
      ready = c.call.ensures.ready;
      goes = c.call.ensures.goes;
      same = c.show.ensures.same;
      counted = λ older truth. c.show.ensures.truth g.N.ServiceParameters.opening older truth;
    })
    c.requires.held

pub returns-in-Answered-clause-call : goal.returns-in-Answered-clause-call
returns-in-Answered-clause-call g c =
    let e = c.count_call.ensures in
    session_answered
    g.N.ServiceParameters g.L.Link g.S.Serve.serving g.S.FileServer.line g.S.FileServer.is_ready g.S.FileServer.knows
    g.L.Supplied.runs_on g.L.Recorder.marks
    c.count_call.new.server (g.L.Recorder.marks (g.S.FileServer.line c.call.new.self))
    c.args.who c.args.now c.args.call.now (answer_of c.call.new.reply) c.args.seat.now.view c.count_call.new.caller.view
    (returns-in-Answered-clause-held g c) c.requires.seat.1 e.session e.seen e.marks e.mine

pub returns-in-Answered-clause-sound : goal.returns-in-Answered-clause-sound
returns-in-Answered-clause-sound g c = held_sound
    g.N.ServiceParameters g.L.Link g.S.Serve.serving g.S.FileServer.line g.S.FileServer.is_ready g.S.FileServer.knows
    g.L.Supplied.runs_on g.L.Recorder.marks
    c.count_call.new.server c.count_call.new.caller.view.seen c.count_call.ensures.seen (returns-in-Answered-clause-held g c)

pub returns-in-Answered-clause-guaranteed : goal.returns-in-Answered-clause-guaranteed
returns-in-Answered-clause-guaranteed g c = held_guaranteed
    g.N.ServiceParameters g.L.Link g.S.Serve.serving g.S.FileServer.line g.S.FileServer.is_ready g.S.FileServer.knows
    g.L.Supplied.runs_on g.L.Recorder.marks
    c.count_call.new.server c.count_call.new.caller.view.seen c.count_call.ensures.seen (returns-in-Answered-clause-held g c)

pub returns-in-Answered-clause-volume : goal.returns-in-Answered-clause-volume
returns-in-Answered-clause-volume g c = held_volume
    g.N.ServiceParameters g.L.Link g.S.Serve.serving g.S.FileServer.line g.S.FileServer.is_ready g.S.FileServer.knows
    g.L.Supplied.runs_on g.L.Recorder.marks
    c.count_call.new.server c.count_call.new.caller.view.seen c.count_call.ensures.seen (returns-in-Answered-clause-held g c)

pub returns-in-Answered-clause-cut : goal.returns-in-Answered-clause-cut
returns-in-Answered-clause-cut g c =
    cut_given
    g.N.ServiceParameters g.L.Link g.S.Serve.serving g.S.FileServer.line g.S.FileServer.is_ready g.S.FileServer.knows
    g.L.Supplied.runs_on g.L.Recorder.marks
    c.args.who c.args.now c.args.call.now (tree.Reply c.call.new.reply) _
    c.args.server.now c.call.new.self c.count_call.new.server refl
    (record {
      tells = g.met.S.FileServer.tells;
      is_record = λ l older truth. g.met.L.Recorder.is_record l g.N.ServiceParameters.opening older truth;
      end_last = λ l older truth. g.met.L.Recorder.end_last l g.N.ServiceParameters.opening older truth;
      keeps_on = λ l m goes runs. g.met.L.Supplied.keeps_on l m g.N.ServiceParameters.policy g.N.ServiceParameters.supply goes runs;
    })
    (record {
      calls = c.in-Answered.ensures.keeps;
      ready = c.call.ensures.ready;
      goes = c.call.ensures.goes;
      same = c.count_call.ensures.same;
      counted = λ older truth. c.count_call.ensures.truth g.N.ServiceParameters.opening older truth;
    })
    c.requires.held

pub returns-in-Answered-clause-eio : goal.returns-in-Answered-clause-eio
returns-in-Answered-clause-eio g c =
    eio_given _ _ c.count_call.new.caller.view.seen refl
    (eio_after
    g.N.ServiceParameters g.L.Link g.S.Serve.serving g.S.FileServer.line g.S.FileServer.is_ready g.S.FileServer.knows
    g.L.Supplied.runs_on g.L.Recorder.marks
    c.args.who c.args.now c.args.call.now (tree.Reply c.call.new.reply)
    c.args.server.now c.call.new.self c.count_call.new.server c.count_call.new.caller.view.seen c.count_call.ensures.seen
    (record {
      tells = g.met.S.FileServer.tells;
      is_record = λ l older truth. g.met.L.Recorder.is_record l g.N.ServiceParameters.opening older truth;
      end_last = λ l older truth. g.met.L.Recorder.end_last l g.N.ServiceParameters.opening older truth;
      keeps_on = λ l m goes runs. g.met.L.Supplied.keeps_on l m g.N.ServiceParameters.policy g.N.ServiceParameters.supply goes runs;
    })
    (record {
      calls = c.in-Answered.ensures.keeps;
      ready = c.call.ensures.ready;
      goes = c.call.ensures.goes;
      same = c.count_call.ensures.same;
      counted = λ older truth. c.count_call.ensures.truth g.N.ServiceParameters.opening older truth;
    })
    c.requires.held)

pub returns-in-Cut-clause-call : goal.returns-in-Cut-clause-call
returns-in-Cut-clause-call g c =
    let e = c.show.ensures in
    session_cut
    g.N.ServiceParameters g.L.Link g.S.Serve.serving g.S.FileServer.line g.S.FileServer.is_ready g.S.FileServer.knows
    g.L.Supplied.runs_on g.L.Recorder.marks
    c.show.new.server
    c.args.who c.args.now c.args.call.now c.args.seat.now.view c.show.new.caller.view
    (returns-in-Cut-clause-held g c) c.requires.seat.1 e.session e.seen e.mine

pub returns-in-Cut-clause-sound : goal.returns-in-Cut-clause-sound
returns-in-Cut-clause-sound g c = held_sound
    g.N.ServiceParameters g.L.Link g.S.Serve.serving g.S.FileServer.line g.S.FileServer.is_ready g.S.FileServer.knows
    g.L.Supplied.runs_on g.L.Recorder.marks
    c.show.new.server c.show.new.caller.view.seen c.show.ensures.seen (returns-in-Cut-clause-held g c)

pub returns-in-Cut-clause-guaranteed : goal.returns-in-Cut-clause-guaranteed
returns-in-Cut-clause-guaranteed g c = held_guaranteed
    g.N.ServiceParameters g.L.Link g.S.Serve.serving g.S.FileServer.line g.S.FileServer.is_ready g.S.FileServer.knows
    g.L.Supplied.runs_on g.L.Recorder.marks
    c.show.new.server c.show.new.caller.view.seen c.show.ensures.seen (returns-in-Cut-clause-held g c)

pub returns-in-Cut-clause-volume : goal.returns-in-Cut-clause-volume
returns-in-Cut-clause-volume g c = held_volume
    g.N.ServiceParameters g.L.Link g.S.Serve.serving g.S.FileServer.line g.S.FileServer.is_ready g.S.FileServer.knows
    g.L.Supplied.runs_on g.L.Recorder.marks
    c.show.new.server c.show.new.caller.view.seen c.show.ensures.seen (returns-in-Cut-clause-held g c)

pub returns-in-Cut-clause-cut : goal.returns-in-Cut-clause-cut
returns-in-Cut-clause-cut g c =
    cut_given
    g.N.ServiceParameters g.L.Link g.S.Serve.serving g.S.FileServer.line g.S.FileServer.is_ready g.S.FileServer.knows
    g.L.Supplied.runs_on g.L.Recorder.marks
    c.args.who c.args.now c.args.call.now tree.Cut _
    c.args.server.now c.call.new.self c.show.new.server refl
    (record {
      tells = g.met.S.FileServer.tells;
      is_record = λ l older truth. g.met.L.Recorder.is_record l g.N.ServiceParameters.opening older truth;
      end_last = λ l older truth. g.met.L.Recorder.end_last l g.N.ServiceParameters.opening older truth;
      keeps_on = λ l m goes runs. g.met.L.Supplied.keeps_on l m g.N.ServiceParameters.policy g.N.ServiceParameters.supply goes runs;
    })
    (record {
      calls = c.in-Cut.ensures.keeps;
      ready = c.call.ensures.ready;
      goes = c.call.ensures.goes;
      same = c.show.ensures.same;
      counted = λ older truth. c.show.ensures.truth g.N.ServiceParameters.opening older truth;
    })
    c.requires.held

pub returns-in-Cut-clause-eio : goal.returns-in-Cut-clause-eio
returns-in-Cut-clause-eio g c =
    eio_given _ _ c.show.new.caller.view.seen refl
    (eio_after
    g.N.ServiceParameters g.L.Link g.S.Serve.serving g.S.FileServer.line g.S.FileServer.is_ready g.S.FileServer.knows
    g.L.Supplied.runs_on g.L.Recorder.marks
    c.args.who c.args.now c.args.call.now tree.Cut
    c.args.server.now c.call.new.self c.show.new.server c.show.new.caller.view.seen c.show.ensures.seen
    (record {
      tells = g.met.S.FileServer.tells;
      is_record = λ l older truth. g.met.L.Recorder.is_record l g.N.ServiceParameters.opening older truth;
      end_last = λ l older truth. g.met.L.Recorder.end_last l g.N.ServiceParameters.opening older truth;
      keeps_on = λ l m goes runs. g.met.L.Supplied.keeps_on l m g.N.ServiceParameters.policy g.N.ServiceParameters.supply goes runs;
    })
    (record {
      calls = c.in-Cut.ensures.keeps;
      ready = c.call.ensures.ready;
      goes = c.call.ensures.goes;
      same = c.show.ensures.same;
      counted = λ older truth. c.show.ensures.truth g.N.ServiceParameters.opening older truth;
    })
    c.requires.held)

pub returns-in-Answered-clause-added : goal.returns-in-Answered-clause-added
returns-in-Answered-clause-added g c =
    adds_call
    g.N.ServiceParameters g.L.Link g.S.Serve.serving g.S.FileServer.line g.S.FileServer.is_ready g.S.FileServer.knows
    g.L.Supplied.runs_on g.L.Recorder.marks
    c.args.who c.args.now c.args.call.now (tree.Reply c.call.new.reply) _
    c.args.server.now c.call.new.self c.count_call.new.server refl
    (record {
      tells = g.met.S.FileServer.tells;
      is_record = λ l older truth. g.met.L.Recorder.is_record l g.N.ServiceParameters.opening older truth;
      end_last = λ l older truth. g.met.L.Recorder.end_last l g.N.ServiceParameters.opening older truth;
      keeps_on = λ l m goes runs. g.met.L.Supplied.keeps_on l m g.N.ServiceParameters.policy g.N.ServiceParameters.supply goes runs;
    })
    (record {
      calls = c.in-Answered.ensures.keeps;
      ready = c.call.ensures.ready;
      goes = c.call.ensures.goes;
      same = c.count_call.ensures.same;
      counted = λ older truth. c.count_call.ensures.truth g.N.ServiceParameters.opening older truth;
    })
    c.requires.held

pub returns-in-Cut-clause-added : goal.returns-in-Cut-clause-added
returns-in-Cut-clause-added g c =
    adds_call
    g.N.ServiceParameters g.L.Link g.S.Serve.serving g.S.FileServer.line g.S.FileServer.is_ready g.S.FileServer.knows
    g.L.Supplied.runs_on g.L.Recorder.marks
    c.args.who c.args.now c.args.call.now tree.Cut _
    c.args.server.now c.call.new.self c.show.new.server refl
    (record {
      tells = g.met.S.FileServer.tells;
      is_record = λ l older truth. g.met.L.Recorder.is_record l g.N.ServiceParameters.opening older truth;
      end_last = λ l older truth. g.met.L.Recorder.end_last l g.N.ServiceParameters.opening older truth;
      keeps_on = λ l m goes runs. g.met.L.Supplied.keeps_on l m g.N.ServiceParameters.policy g.N.ServiceParameters.supply goes runs;
    })
    (record {
      calls = c.in-Cut.ensures.keeps;
      ready = c.call.ensures.ready;
      goes = c.call.ensures.goes;
      same = c.show.ensures.same;
      counted = λ older truth. c.show.ensures.truth g.N.ServiceParameters.opening older truth;
    })
    c.requires.held

pub returns-in-Answered-clause-truth : goal.returns-in-Answered-clause-truth
returns-in-Answered-clause-truth g c = (returns-in-Answered-clause-held g c).stands.truth

pub returns-in-Cut-clause-truth : goal.returns-in-Cut-clause-truth
returns-in-Cut-clause-truth g c = (returns-in-Cut-clause-held g c).stands.truth

pub returns-in-Answered-clause-numbers : goal.returns-in-Answered-clause-numbers
returns-in-Answered-clause-numbers g c =
    c.count_call.ensures.numbers ∙ g.met.L.Recorder.numbers_stay _ _ c.call.ensures.goes

pub returns-in-Cut-clause-numbers : goal.returns-in-Cut-clause-numbers
returns-in-Cut-clause-numbers g c = c.show.ensures.numbers ∙ g.met.L.Recorder.numbers_stay _ _ c.call.ensures.goes
