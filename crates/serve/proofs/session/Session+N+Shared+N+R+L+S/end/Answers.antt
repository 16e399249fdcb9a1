use Rattle.std.proofs.Common.{◌∙◌, ap}
use Rattle.tree.specs.declared.Who.{Who}
use Rattle.records.specs.Session.{SessionState}
use Rattle.serve.proofs.ClosingLaws.{closed_all, freed_by}
use Rattle.serve.proofs.session.Session+N+Shared+N+R+L+S.end.Goals as goal

pub returns-clause-closed : goal.returns-clause-closed
returns-clause-closed g c = (
  c.close_all.new.self,
  closed_all g.L.Link g.N.ServiceParameters.opening _ _ c.close_all.result
      c.close_all.ensures.later c.close_all.ensures.bound c.close_all.ensures.closed c.close_all.ensures.cut,
)

pub returns-clause-freed : goal.returns-clause-freed
returns-clause-freed g c =
    freed_by g.L.Recorder.marks g.L.Recorder.numbers _ _ _ _
    (ap (λ (s : SessionState). s.knows.number) c.self.view_is ∙ ap (λ (w : Who). w.session) c.close_all.ensures.caller)
    c.release.ensures.used c.release.ensures.rest.0
