use Rattle.std.proofs.Common.{◌≡◌, [], arith, None, refl}
use Rattle.shared_server.proofs.StoppingLaws.{begins_empty}
use Rattle.shared_server.specs.Finishing.{finish_end}
use Rattle.shared_server.specs.Stopping.{Went}
use Rattle.serve.proofs.ComparingLaws.{all_compared, tells_so}
use Rattle.serve.proofs.StoppingLaws.{Finished, finished_with, image_after, left_told, none_told, who_after, why_after}
use Rattle.serve.specs.Stopping.{Tells, WhoIsLeft}
use Rattle.serve.proofs.service.Service.stop.Given.{Over}
use Rattle.serve.proofs.service.Service.stop.Goals as goal

-- with which the server was let go
left_so : (g : Over) (c : goal.After-image_of g) → Finished g.L.Link g.L.Recorder.numbers g.N.ServiceParameters.geometry
    g.N.ServiceParameters.opening [] (g.L.Recorder.numbers c.alone-rt.result.1) c.finish-finish.result c.finish-finish.ensures.finished.0
left_so g c =
    let count = c.range-range.ensures.1 in
    finished_with g.L.Link g.L.Recorder.numbers g.N.ServiceParameters.geometry g.N.ServiceParameters.opening [] _ _ _ _ _ _ _
    (omega (arith, count)) (begins_empty _) c.finish-finish.ensures.finished.1

-- what is told of the pieces that were read back
tells : (g : Over) (c : goal.After-image_of g) → finish_end c.finish-finish.result ≡ Went
    → Tells g.N.ServiceParameters.opening c.stop-media.result.2 c.finish-finish.ensures.finished.0 c.stop-media.result.0.sectors
tells g c went =
    tells_so g.N.ServiceParameters.opening c.watch.result c.finish-finish.new.taker.watch c.finish-finish.ensures.finished.0
    c.stop-media.result.2 c.stop-media.result.0.sectors
    (all_compared (λ x. x.watch) g.N.ServiceParameters.opening _ c.finish-finish.new.taker c.finish-finish.ensures.finished.0
    (c.finish-finish.ensures.finished.2 went))
    c.watch.ensures c.stop-media.ensures.same c.stop-media.ensures.differs

who : (g : Over) (c : goal.After-image_of g) → WhoIsLeft g.L.Link g.L.Recorder.numbers g.N.ServiceParameters.geometry
    g.N.ServiceParameters.opening [] None c.image_of.result
who g c =
    let pieces = c.finish-finish.ensures.finished.0 in
    who_after g.L.Link g.L.Recorder.numbers g.N.ServiceParameters.geometry g.N.ServiceParameters.opening [] _ None c.finish-finish.result
    pieces c.image_of.result (c.image_of.ensures.image pieces (tells g c)) (c.image_of.ensures.refused pieces (tells g c)) (left_so g c)
    c.alone-rt.ensures

pub returns-clause-image : goal.returns-clause-image
returns-clause-image g c =
    image_after g.L.Link g.L.Recorder.numbers g.N.ServiceParameters.geometry g.N.ServiceParameters.opening [] None c.image_of.result (who g c)

pub returns-clause-refused : goal.returns-clause-refused
returns-clause-refused g c =
    let pieces = c.finish-finish.ensures.finished.0 in
    why_after g.L.Link g.L.Recorder.numbers g.N.ServiceParameters.geometry g.N.ServiceParameters.opening [] None c.finish-finish.result pieces
    _ c.image_of.result (c.image_of.ensures.refused pieces (tells g c)) (who g c)

pub returns-clause-sessions : goal.returns-clause-sessions
returns-clause-sessions g c = who g c

pub returns-then-has_sessions-clause-sessions : goal.returns-then-has_sessions-clause-sessions
returns-then-has_sessions-clause-sessions g c =
    left_told g.L.Recorder.numbers None None c.has_sessions.result refl c.if-has_sessions.true c.has_sessions.ensures.some

pub returns-then-is_shared-clause-sessions : goal.returns-then-is_shared-clause-sessions
returns-then-is_shared-clause-sessions g c =
    none_told g.L.Recorder.numbers None None c.has_sessions.result refl c.if-has_sessions.false c.has_sessions.ensures.none
