use Rattle.std.proofs.Common.{◌∙◌, subst, sym}
use Rattle.std.specs.Prelude.{OnOk, is_some}
use Rattle.archive.specs.Kept.{IsKeptAfter}
use Rattle.mount_service.specs.Spoken.{IsSpoken}
use Rattle.mount_service.proofs.Leaving.{left_by}
use Rattle.mount_service.proofs.program.answer_on.Goals as goal

pub returns-in-None : goal.returns-in-None
returns-in-None g c =
    let puts = g.A.Archive.puts in
    let at = g.N.ServiceParameters.geometry in
    let v = g.N.ServiceParameters.opening in
    let answered = c.answer_by-answered in
    let fewest = g.W.Answers.fewest in
    let first = c.args.streams.answerer in
    let came = answered.result.0 in
    let seen = answered.result.1.knows.seen in
    left_by g.L.Link g.O.Write.contents puts fewest g.W.Answers.answers first at v (g.I.Read.remaining c.args.streams.input)
    (g.O.Write.contents c.args.streams.output) c.args.streams.archive seen answered.new.streams came c.came_of.result
    c.came_of.ensures.came c.came_of.ensures.image
    (subst (λ o. OnOk came (IsSpoken puts fewest g.W.Answers.answers first at v (g.I.Read.remaining c.args.streams.input)
    (g.O.Write.contents c.args.streams.output) (g.O.Write.contents answered.new.streams.output) (is_some o) seen))
    (sym (sym c.take.ensures.value ∙ c.in-None.is)) answered.ensures.spoken)
    (subst (λ o. IsKeptAfter puts at v c.args.streams.archive o) (sym (answered.ensures.archive ∙ c.take.ensures.after)) tt)
