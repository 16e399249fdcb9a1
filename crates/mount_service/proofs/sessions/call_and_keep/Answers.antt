use Rattle.std.proofs.Common.{subst, sym}
use Rattle.std.specs.Prelude.{is_some}
use Rattle.mount_service.proofs.Kept.{answered_kept}
use Rattle.mount_service.specs.Spoken.{IsAnswered}
use Rattle.mount_service.proofs.sessions.call_and_keep.Goals as goal

pub returns : goal.returns
returns g c =
    let puts = g.A.Archive.puts in
    let at = g.N.ServiceParameters.geometry in
    let v = g.N.ServiceParameters.opening in
    let before = c.args.session.now in
    subst (λ o. IsAnswered puts at v (is_some o) before c.args.now c.args.call.now c.call-2.result c.call-2.new.session) (sym c.in-Some.is)
    (answered_kept puts g.L.Link g.L.Recorder.marks at v before c.args.now c.args.call.now c.call-2.result c.call-2.new.session
    c.call-2.ensures)
