use Rattle.std.proofs.Common.{◌∙◌, sym, subst}
use Rattle.schedule.specs.declared.arrived.Arrived.{Arrived}
use Rattle.world.proofs.Standing.{of_call, answered, answered_over, answered_to, cut_off, cut_to}
use Rattle.world.proofs.run_loop.turns.answer.Goals as goal

pub call-requires-clause-knows : goal.call-requires-clause-knows
call-requires-clause-knows g c = subst (λ (x : Arrived). g.S.FileServer.knows x.call) (sym c.as_arrived-asked.ensures) c.requires.knows

pub returns-in_ok-note_answer-in-Answered-clause-runs : goal.returns-in_ok-note_answer-in-Answered-clause-runs
returns-in_ok-note_answer-in-Answered-clause-runs g c =
    answered _ _ _ _ _ _ _ _ _ (g.L.Waiting.Arrival.arrived c.args.arrived) c.call.new.reply
    (of_call _ _ _ _ _ _ _ c.as_arrived-asked.ensures c.in-Answered.ensures.keeps) (g.met.L.Ran.goes _ _ c.call.ensures.goes)
    c.in_ok-note_answer-in-Answered.ensures.noted c.requires.handed (λ v marks. g.met.L.Ran.guarantees _ v marks)
    (λ v marks. g.met.L.Ran.guarantees _ v marks)
    (g.met.S.FileServer.tells _ ∙ g.met.L.Ran.tells _) (g.met.S.FileServer.tells _ ∙ g.met.L.Ran.tells _)

pub returns-in_ok-note_answer-in-Answered-clause-course : goal.returns-in_ok-note_answer-in-Answered-clause-course
returns-in_ok-note_answer-in-Answered-clause-course g c =
    answered_to _ _ _ _ _ _ _ _ _ (g.L.Waiting.Arrival.arrived c.args.arrived) c.call.new.reply
    (of_call _ _ _ _ _ _ _ c.as_arrived-asked.ensures c.in-Answered.ensures.keeps) (g.met.L.Ran.goes _ _ c.call.ensures.goes)
    c.in_ok-note_answer-in-Answered.ensures.noted c.requires.handed (g.met.S.FileServer.tells _ ∙ g.met.L.Ran.tells _)
    (g.met.S.FileServer.tells _ ∙ g.met.L.Ran.tells _) (g.met.S.FileServer.tells _ ∙ g.met.L.Ran.tells _)

pub returns-in-Cut-clause-runs : goal.returns-in-Cut-clause-runs
returns-in-Cut-clause-runs g c =
    cut_off _ _ _ _ _ _ (g.L.Waiting.Arrival.arrived c.args.arrived) (of_call _ _ _ _ _ _ _ c.as_arrived-asked.ensures c.in-Cut.ensures.keeps)
    (g.met.L.Ran.goes _ _ c.call.ensures.goes) c.requires.handed
    (λ v marks. g.met.L.Ran.guarantees _ v marks) (λ v marks. g.met.L.Ran.guarantees _ v marks) (g.met.S.FileServer.tells _ ∙ g.met.L.Ran.tells _)
    (g.met.S.FileServer.tells _ ∙ g.met.L.Ran.tells _)

pub returns-in-Cut-clause-course : goal.returns-in-Cut-clause-course
returns-in-Cut-clause-course g c =
    cut_to _ _ _ _ _ _ (g.L.Waiting.Arrival.arrived c.args.arrived) (of_call _ _ _ _ _ _ _ c.as_arrived-asked.ensures c.in-Cut.ensures.keeps)
    (g.met.L.Ran.goes _ _ c.call.ensures.goes) c.requires.handed
    (g.met.S.FileServer.tells _ ∙ g.met.L.Ran.tells _) (g.met.S.FileServer.tells _ ∙ g.met.L.Ran.tells _)

pub note_answer-requires-clause-live : goal.note_answer-requires-clause-live
note_answer-requires-clause-live g c =
    answered_over _ _ _ _ _ _ (g.L.Waiting.Arrival.arrived c.args.arrived) c.call.new.reply
    (of_call _ _ _ _ _ _ _ c.as_arrived-asked.ensures c.in-Answered.ensures.keeps) (g.met.L.Ran.goes _ _ c.call.ensures.goes) c.requires.handed
    (g.met.S.FileServer.tells _ ∙ g.met.L.Ran.tells _) (g.met.S.FileServer.tells _ ∙ g.met.L.Ran.tells _)
