use Rattle.std.proofs.Common.{ℕ, ◌≤◌, subst, sym}
use Rattle.shared_server.proofs.HeldLaws.{held_same}
use Rattle.shared_server.proofs.locked.Locked.show.Goals as goal

pub invariant_of-self : goal.invariant_of-self
invariant_of-self g c = (
  held_same
      g.N.ServiceParameters g.L.Link g.S.Serve.serving g.S.FileServer.line g.S.FileServer.is_ready g.S.FileServer.knows
      g.L.Supplied.runs_on g.L.Recorder.marks
      c.self.inside.server c.show.new.server
      (record {
        tells = g.met.S.FileServer.tells;
        is_record = λ l older truth. g.met.L.Recorder.is_record l g.N.ServiceParameters.opening older truth;
        end_last = λ l older truth. g.met.L.Recorder.end_last l g.N.ServiceParameters.opening older truth;
        keeps_on = λ l m goes runs. g.met.L.Supplied.keeps_on l m g.N.ServiceParameters.policy g.N.ServiceParameters.supply goes runs;
      })
      c.show.ensures.same (λ older truth. c.show.ensures.truth g.N.ServiceParameters.opening older truth) c.show.ensures.marks c.self.invariant.0,
  subst (λ (n : ℕ). n ≤ c.self.inside.absorbed) (sym c.show.ensures.absorbed) c.self.invariant.1,
  c.self.invariant.2,
)
