use Rattle.std.proofs.Common.{◌∙◌, ap, sym, subst, List, ℕ, Some}
use Rattle.board.specs.View.{without}
use Rattle.records.specs.Marks.{Mark, IsBeginning}
use Rattle.shared_server.proofs.StoppingLaws.{finished_from}
use Rattle.shared_server.specs.Finishing.{finish_end, units_back}
use Rattle.shared_server.specs.Stopping.{IsFinished}
use Rattle.shared_server.proofs.locked.Locked.finish_after.Goals as goal

pub release-requires : goal.release-requires
release-requires g c = (c.show.ensures.seat.0, c.show.ensures.seat.1 ∙ c.requires.seat.1, c.requires.seat.2)

pub returns : goal.returns
returns g c = record {
  finished =
      let pieces = c.finish.ensures.finished.0 in (
        pieces,
        subst (λ (used : List ℕ). IsFinished g.L.Link g.L.Recorder.numbers g.N.ServiceParameters.geometry g.N.ServiceParameters.opening
            c.args.seat.view.seen used (finish_end c.finish.result) c.args.size (units_back c.finish.result) pieces)
            (c.release.ensures.used ∙ ap (λ (used : List ℕ). without (Some c.args.number) used) c.show.ensures.numbers)
            (finished_from g.L.Link g.L.Recorder.numbers g.N.ServiceParameters.geometry g.N.ServiceParameters.opening
            c.args.seat.view.seen _ _ (finish_end c.finish.result) c.args.size (units_back c.finish.result) pieces
            (subst (λ (ms : List Mark). IsBeginning c.args.seat.view.seen ms) (c.show.ensures.seen ∙ sym c.release.ensures.rest.0)
            (c.show.ensures.session c.args.number c.requires.seat.1).beginning)
            c.finish.ensures.finished.1),
        c.finish.ensures.finished.2,
      );
}
