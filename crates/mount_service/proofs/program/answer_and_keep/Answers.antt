use Rattle.std.proofs.Common.{subst}
use Rattle.std.specs.Prelude.{Option, Some}
use Rattle.archive.specs.Kept.{IsKeptAfter}
use Rattle.mount_service.proofs.Leaving.{left_by}
use Rattle.mount_service.proofs.program.answer_and_keep.Goals as goal

pub returns : goal.returns
returns g c =
    let puts = g.A.Archive.puts in
    let at = g.N.ServiceParameters.geometry in
    let v = g.N.ServiceParameters.opening in
    let answered = c.answer_by-answered in
    left_by g.L.Link g.O.Write.contents puts g.W.Answers.fewest g.W.Answers.answers c.args.streams.answerer at v
    (g.I.Read.remaining c.args.streams.input) (g.O.Write.contents c.args.streams.output) (Some c.args.archive) answered.result.1.knows.seen
    (record answered.new.streams { archive = c.into_archive.result }) answered.result.0 c.came_of.result c.came_of.ensures.came
    c.came_of.ensures.image answered.ensures.spoken
    (subst (λ (o : Option _). IsKeptAfter puts at v o c.into_archive.result) c.requires c.into_archive.ensures)
