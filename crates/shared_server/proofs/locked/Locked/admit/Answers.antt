use Rattle.std.proofs.Common.{ℕ, ◌≤◌, subst, sym}
use Rattle.shared_server.proofs.HeldLaws.{held_same, admitted_good, admitted_guaranteed, admitted_volume, not_admitted}
use Rattle.shared_server.proofs.locked.Locked.admit.Goals as goal

pub invariant_of-self : goal.invariant_of-self
invariant_of-self g c = (
  held_same
      g.N.ServiceParameters g.L.Link g.S.Serve.serving g.S.FileServer.line g.S.FileServer.is_ready g.S.FileServer.knows
      g.L.Supplied.runs_on g.L.Recorder.marks
      c.self.inside.server c.admit.new.server
      (record {
        tells = g.met.S.FileServer.tells;
        is_record = λ l older truth. g.met.L.Recorder.is_record l g.N.ServiceParameters.opening older truth;
        end_last = λ l older truth. g.met.L.Recorder.end_last l g.N.ServiceParameters.opening older truth;
        keeps_on = λ l m goes runs. g.met.L.Supplied.keeps_on l m g.N.ServiceParameters.policy g.N.ServiceParameters.supply goes runs;
      })
      c.admit.ensures.same (λ older truth. c.admit.ensures.truth g.N.ServiceParameters.opening older truth) c.admit.ensures.marks c.self.invariant.0,
  subst (λ (n : ℕ). n ≤ c.self.inside.absorbed) (sym c.admit.ensures.absorbed) c.self.invariant.1,
  c.self.invariant.2,
)

pub returns-clause-refusal : goal.returns-clause-refusal
returns-clause-refusal g c =
    not_admitted g.L.Link g.L.Recorder.numbers g.N.ServiceParameters.opening (g.S.FileServer.line c.self.inside.server)
    (g.L.Recorder.marks (g.S.FileServer.line c.self.inside.server)) c.admit.result c.self.invariant.0.stands.truth c.admit.ensures.too_many
    c.admit.ensures.stopped

pub returns-clause-guaranteed : goal.returns-clause-guaranteed
returns-clause-guaranteed g c =
    admitted_guaranteed
    g.N.ServiceParameters g.L.Link g.S.Serve.serving g.S.FileServer.line g.S.FileServer.is_ready g.S.FileServer.knows
    g.L.Supplied.runs_on g.L.Recorder.marks
    c.self.inside.server g.N.ServiceParameters.table c.admit.result
    c.admit.ensures.seat c.self.invariant.0

pub returns-clause-volume : goal.returns-clause-volume
returns-clause-volume g c =
    admitted_volume
    g.N.ServiceParameters g.L.Link g.S.Serve.serving g.S.FileServer.line g.S.FileServer.is_ready g.S.FileServer.knows
    g.L.Supplied.runs_on g.L.Recorder.marks
    c.self.inside.server g.N.ServiceParameters.table c.admit.result
    c.admit.ensures.seat c.self.invariant.0

pub returns-clause-sound : goal.returns-clause-sound
returns-clause-sound g c =
    admitted_good
    g.N.ServiceParameters g.L.Link g.S.Serve.serving g.S.FileServer.line g.S.FileServer.is_ready g.S.FileServer.knows
    g.L.Supplied.runs_on g.L.Recorder.marks
    c.self.inside.server g.N.ServiceParameters.table c.admit.result
    c.admit.ensures.seat c.self.invariant.0
