use Rattle.std.proofs.Common.{◌≡◌, ◌∙◌, ap, arith, sym, subst, ℕ, List, Some}
use Rattle.tree.specs.declared.Who.{Who}
use Rattle.records.specs.Marks.{Mark, IsBeginning}
use Rattle.board.specs.Keeper.{begins_itself}
use Rattle.board.specs.View.{without}
use Rattle.shared_server.specs.Finishing.{finish_end}
use Rattle.shared_server.specs.Stopping.{Went}
use Rattle.serve.specs.Stopping.{Tells, WhoIsLeft}
use Rattle.serve.proofs.ClosingLaws.{closed_all}
use Rattle.serve.proofs.ComparingLaws.{all_compared, tells_so}
use Rattle.serve.proofs.StoppingLaws.{Finished, finished_with, image_after, left_told, none_told, who_after, why_after}
use Rattle.serve.proofs.service.Service.stop_after.Given.{Over}
use Rattle.serve.proofs.service.Service.stop_after.Goals as goal

-- with which the server was let go, beside what had been seen
left_so : (g : Over) (c : goal.After-image_of g) (earlier : List Mark) → IsBeginning earlier c.into_seat-number.result.1.view.seen
    → Finished g.L.Link g.L.Recorder.numbers g.N.ServiceParameters.geometry g.N.ServiceParameters.opening earlier
    (without (Some c.into_seat-number.result.0) (g.L.Recorder.numbers c.alone-rt.result.1)) c.finish_after-finish.result
    c.finish_after-finish.ensures.finished.0
left_so g c earlier begins =
    let count = c.range-range.ensures.1 in
    finished_with g.L.Link g.L.Recorder.numbers g.N.ServiceParameters.geometry g.N.ServiceParameters.opening earlier
    c.into_seat-number.result.1.view.seen _ _ _ _ _ _ (omega (arith, count)) begins c.finish_after-finish.ensures.finished.1

-- what is told of the pieces that were read back
tells : (g : Over) (c : goal.After-image_of g) → finish_end c.finish_after-finish.result ≡ Went
    → Tells g.N.ServiceParameters.opening c.stop-media.result.2 c.finish_after-finish.ensures.finished.0 c.stop-media.result.0.sectors
tells g c went =
    tells_so g.N.ServiceParameters.opening c.watch.result c.finish_after-finish.new.taker.watch c.finish_after-finish.ensures.finished.0
    c.stop-media.result.2 c.stop-media.result.0.sectors
    (all_compared (λ x. x.watch) g.N.ServiceParameters.opening _ c.finish_after-finish.new.taker
    c.finish_after-finish.ensures.finished.0 (c.finish_after-finish.ensures.finished.2 went))
    c.watch.ensures c.stop-media.ensures.same c.stop-media.ensures.differs

who : (g : Over) (c : goal.After-image_of g) (earlier : List Mark) → IsBeginning earlier c.into_seat-number.result.1.view.seen
    → WhoIsLeft g.L.Link g.L.Recorder.numbers g.N.ServiceParameters.geometry g.N.ServiceParameters.opening earlier
    (Some c.args.last.knows.number) c.image_of.result
who g c earlier begins =
    who_after g.L.Link g.L.Recorder.numbers g.N.ServiceParameters.geometry g.N.ServiceParameters.opening earlier _
    (Some c.args.last.knows.number) c.finish_after-finish.result c.finish_after-finish.ensures.finished.0 c.image_of.result
    (c.image_of.ensures.image c.finish_after-finish.ensures.finished.0 (tells g c))
    (c.image_of.ensures.refused c.finish_after-finish.ensures.finished.0 (tells g c)) (left_so g c earlier begins) c.alone-rt.ensures

-- what the session had seen first, and once it had closed all
seen_first : (g : Over) (c : goal.After-image_of g) → IsBeginning c.args.last.knows.seen c.into_seat-number.result.1.view.seen
seen_first g c =
    subst (λ (ms : List Mark). IsBeginning c.args.last.knows.seen ms) (sym c.into_seat-number.ensures.seen) c.close_all.ensures.seen

seen_closed : (g : Over) (c : goal.After-image_of g) → IsBeginning c.close_all.new.self.knows.seen c.into_seat-number.result.1.view.seen
seen_closed g c =
    subst (λ (ms : List Mark). IsBeginning ms c.into_seat-number.result.1.view.seen) c.into_seat-number.ensures.seen
    (begins_itself c.into_seat-number.result.1.view.seen)

pub returns-clause-image : goal.returns-clause-image
returns-clause-image g c =
    image_after g.L.Link g.L.Recorder.numbers g.N.ServiceParameters.geometry g.N.ServiceParameters.opening c.args.last.knows.seen
    (Some c.args.last.knows.number) c.image_of.result (who g c c.args.last.knows.seen (seen_first g c))

pub returns-clause-refused : goal.returns-clause-refused
returns-clause-refused g c =
    why_after g.L.Link g.L.Recorder.numbers g.N.ServiceParameters.geometry g.N.ServiceParameters.opening c.args.last.knows.seen
    (Some c.args.last.knows.number) c.finish_after-finish.result c.finish_after-finish.ensures.finished.0 _ c.image_of.result
    (c.image_of.ensures.refused c.finish_after-finish.ensures.finished.0 (tells g c))
    (who g c c.args.last.knows.seen (seen_first g c))

pub returns-clause-sessions : goal.returns-clause-sessions
returns-clause-sessions g c = who g c c.args.last.knows.seen (seen_first g c)

pub returns-then-has_sessions-clause-sessions : goal.returns-then-has_sessions-clause-sessions
returns-then-has_sessions-clause-sessions g c =
    left_told g.L.Recorder.numbers (Some c.into_seat-number.result.0) (Some c.args.last.knows.number) c.has_sessions.result
    (ap (λ (n : ℕ). Some n)
    (c.into_seat-number.ensures.number ∙ ap (λ (w : Who). w.session) c.close_all.ensures.caller))
    c.if-has_sessions.true c.has_sessions.ensures.some

pub returns-then-is_shared-clause-sessions : goal.returns-then-is_shared-clause-sessions
returns-then-is_shared-clause-sessions g c =
    none_told g.L.Recorder.numbers (Some c.into_seat-number.result.0) (Some c.args.last.knows.number) c.has_sessions.result
    (ap (λ (n : ℕ). Some n)
    (c.into_seat-number.ensures.number ∙ ap (λ (w : Who). w.session) c.close_all.ensures.caller))
    c.if-has_sessions.false c.has_sessions.ensures.none

pub returns-then-has_sessions-clause-closed : goal.returns-then-has_sessions-clause-closed
returns-then-has_sessions-clause-closed g c = (
  c.close_all.new.self,
  closed_all g.L.Link g.N.ServiceParameters.opening _ _ c.close_all.result
      c.close_all.ensures.later c.close_all.ensures.bound c.close_all.ensures.closed c.close_all.ensures.cut,
  tt,
)

pub returns-then-is_shared-clause-closed : goal.returns-then-is_shared-clause-closed
returns-then-is_shared-clause-closed g c = (
  c.close_all.new.self,
  closed_all g.L.Link g.N.ServiceParameters.opening _ _ c.close_all.result
      c.close_all.ensures.later c.close_all.ensures.bound c.close_all.ensures.closed c.close_all.ensures.cut,
  tt,
)

pub returns-clause-closed : goal.returns-clause-closed
returns-clause-closed g c = (
  c.close_all.new.self,
  closed_all g.L.Link g.N.ServiceParameters.opening _ _ c.close_all.result c.close_all.ensures.later c.close_all.ensures.bound
      c.close_all.ensures.closed c.close_all.ensures.cut,
  image_after g.L.Link g.L.Recorder.numbers g.N.ServiceParameters.geometry g.N.ServiceParameters.opening c.close_all.new.self.knows.seen
      (Some c.args.last.knows.number) c.image_of.result (who g c c.close_all.new.self.knows.seen (seen_closed g c)),
)
