use Rattle.std.proofs.Common.{◌∙◌, ◌^◌, ap, arith, length, refl, subst, sym, Bool, List, []}
use Rattle.volume_reading.specs.declared.place.Place.{Place}
use Rattle.volume_reading.specs.Places.{ArePlaces, AreAt}
use Rattle.tree.specs.declared.Outcome.{Outcome}
use Rattle.file_server.specs.Over.{outcome_in, outcome_of}
use Rattle.shared_server.specs.Descriptors.{was_cut, succeeded}
use Rattle.shared_server.specs.Finishing.{ArePlacesOf, end_of}
use Rattle.shared_server.specs.Stopping.{Went, WasGivenUp, WasCut}
use Rattle.shared_server.proofs.HeldLaws.{Kept}
use Rattle.shared_server.proofs.StoppingLaws.{last_line, cut_end, given_up_end, went_end}
use Rattle.shared_server.proofs.BackLaws.{line_back, same_elsewhere, synced_by, unread_line}
use Rattle.shared_server.proofs.PieceLaws.{at_places, places_to}
use Rattle.shared_server.proofs.locked.Locked.finish.Given.{Over}
use Rattle.shared_server.proofs.locked.Locked.finish.Goals as goal

-- what servers and links keep
kept : (g : Over) → Kept g.N.ServiceParameters g.L.Link g.S.Serve.serving g.S.FileServer.line g.L.Supplied.runs_on g.L.Recorder.marks
kept g = record {
  tells = g.met.S.FileServer.tells;
  is_record = λ l older truth. g.met.L.Recorder.is_record l g.N.ServiceParameters.opening older truth;
  end_last = λ l older truth. g.met.L.Recorder.end_last l g.N.ServiceParameters.opening older truth;
  keeps_on = λ l m goes runs. g.met.L.Supplied.keeps_on l m g.N.ServiceParameters.policy g.N.ServiceParameters.supply goes runs;
}

pub returns-then-is_cut : goal.returns-then-is_cut
returns-then-is_cut g c = record {
  finished = (
    [],
    record {
      line = g.S.FileServer.line c.call-ending.new.self;
      last = last_line
          g.N.ServiceParameters g.L.Link g.S.Serve.serving g.S.FileServer.line g.S.FileServer.is_ready g.S.FileServer.knows
          g.L.Supplied.runs_on g.L.Recorder.marks
          c.self.inside.server c.call-ending.new.self c.args.self
          (outcome_of (outcome_in c.call-ending.result c.call-ending.new.reply)) WasCut
          c.self.view_is (kept g) c.self.invariant.0 c.call-ending.ensures.keeps
          (cut_end (outcome_of (outcome_in c.call-ending.result c.call-ending.new.reply)) c.is_cut.result
          (c.is_cut.ensures ∙ ap (λ (o : Outcome). was_cut (outcome_of o)) c.with-outcome.ensures) c.if-is_cut.true);
      back = tt;
      same = g.met.L.Recorder.numbers_stay _ _ c.call-ending.ensures.goes ∙ ap g.L.Recorder.numbers c.self.view_is;
    },
    λ went. cc,
  );
}

pub returns-then-not-was_done : goal.returns-then-not-was_done
returns-then-not-was_done g c = record {
  finished = (
    [],
    record {
      line = g.S.FileServer.line c.call-ending.new.self;
      last = last_line
          g.N.ServiceParameters g.L.Link g.S.Serve.serving g.S.FileServer.line g.S.FileServer.is_ready g.S.FileServer.knows
          g.L.Supplied.runs_on g.L.Recorder.marks
          c.self.inside.server c.call-ending.new.self c.args.self
          (outcome_of (outcome_in c.call-ending.result c.call-ending.new.reply)) WasGivenUp
          c.self.view_is (kept g) c.self.invariant.0 c.call-ending.ensures.keeps
          (given_up_end (outcome_of (outcome_in c.call-ending.result c.call-ending.new.reply)) c.is_cut.result
          c.was_done.result (c.is_cut.ensures ∙ ap (λ (o : Outcome). was_cut (outcome_of o)) c.with-outcome.ensures)
          c.if-is_cut.false (c.was_done.ensures ∙ ap (λ (o : Outcome). succeeded (outcome_of o)) c.with-outcome.ensures)
          c.if-not-was_done.true);
      back = tt;
      same = g.met.L.Recorder.numbers_stay _ _ c.call-ending.ensures.goes ∙ ap g.L.Recorder.numbers c.self.view_is;
    },
    λ went. cc,
  );
}

pub returns-then-size-gt-MOST : goal.returns-then-size-gt-MOST
returns-then-size-gt-MOST g c = record {
  finished = (
    [],
    record {
      line = g.S.FileServer.line c.call-ending.new.self;
      last = unread_line g.L.Link g.N.ServiceParameters.geometry g.N.ServiceParameters.opening _ _
          (last_line
          g.N.ServiceParameters g.L.Link g.S.Serve.serving g.S.FileServer.line g.S.FileServer.is_ready g.S.FileServer.knows
          g.L.Supplied.runs_on g.L.Recorder.marks
          c.self.inside.server c.call-ending.new.self c.args.self
          (outcome_of (outcome_in c.call-ending.result c.call-ending.new.reply)) Went
          c.self.view_is (kept g) c.self.invariant.0 c.call-ending.ensures.keeps
          (went_end (outcome_of (outcome_in c.call-ending.result c.call-ending.new.reply)) c.is_cut.result
          c.was_done.result (c.is_cut.ensures ∙ ap (λ (o : Outcome). was_cut (outcome_of o)) c.with-outcome.ensures)
          c.if-is_cut.false (c.was_done.ensures ∙ ap (λ (o : Outcome). succeeded (outcome_of o)) c.with-outcome.ensures)
          c.if-not-was_done.false));
      back = tt;
      same = g.met.L.Recorder.numbers_stay _ _ c.call-ending.ensures.goes ∙ ap g.L.Recorder.numbers c.self.view_is;
    },
    λ went. cc,
  );
}

pub returns-in_default : goal.returns-in_default
returns-in_default g c = record {
  finished = (
    [],
    record {
      line = g.S.FileServer.line c.call-ending.new.self;
      last = unread_line g.L.Link g.N.ServiceParameters.geometry g.N.ServiceParameters.opening _ _
          (last_line
          g.N.ServiceParameters g.L.Link g.S.Serve.serving g.S.FileServer.line g.S.FileServer.is_ready g.S.FileServer.knows
          g.L.Supplied.runs_on g.L.Recorder.marks
          c.self.inside.server c.call-ending.new.self c.args.self
          (outcome_of (outcome_in c.call-ending.result c.call-ending.new.reply)) Went
          c.self.view_is (kept g) c.self.invariant.0 c.call-ending.ensures.keeps
          (went_end (outcome_of (outcome_in c.call-ending.result c.call-ending.new.reply)) c.is_cut.result
          c.was_done.result (c.is_cut.ensures ∙ ap (λ (o : Outcome). was_cut (outcome_of o)) c.with-outcome.ensures)
          c.if-is_cut.false (c.was_done.ensures ∙ ap (λ (o : Outcome). succeeded (outcome_of o)) c.with-outcome.ensures)
          c.if-not-was_done.false));
      back = tt;
      same = g.met.L.Recorder.numbers_stay _ _ c.call-ending.ensures.goes ∙ ap g.L.Recorder.numbers c.self.view_is;
    },
    λ went. cc,
  );
}

pub returns-in-GivenUp : goal.returns-in-GivenUp
returns-in-GivenUp g c = record {
  finished = (
    [],
    record {
      line = c.read_back-link.result.0;
      last = line_back
          g.N.ServiceParameters g.L.Link g.S.Serve.serving g.S.FileServer.line g.S.FileServer.is_ready g.S.FileServer.knows
          g.L.Supplied.runs_on g.L.Recorder.marks
          c.self.inside.server c.call-ending.new.self c.args.self c.read_back-link.result.0
          (outcome_of (outcome_in c.call-ending.result c.call-ending.new.reply)) c.read_back-link.result.1 WasGivenUp
          c.read_back-link.ensures.back.0
          c.self.view_is (kept g) c.self.invariant.0 c.call-ending.ensures.keeps
          (sym (c.was_done.ensures ∙ ap (λ (o : Outcome). succeeded (outcome_of o)) c.with-outcome.ensures) ∙ c.if-not-was_done.false)
          c.read_back-link.ensures.back.3 (ap end_of c.in-GivenUp.is);
      back = tt;
      same = g.met.L.Recorder.numbers_stay _ _ c.read_back-link.ensures.goes ∙ g.met.L.Recorder.numbers_stay _ _ c.call-ending.ensures.goes
          ∙ ap g.L.Recorder.numbers c.self.view_is;
    },
    λ went. cc,
  );
}

pub returns-in-Cut : goal.returns-in-Cut
returns-in-Cut g c = record {
  finished = (
    [],
    record {
      line = c.read_back-link.result.0;
      last = line_back
          g.N.ServiceParameters g.L.Link g.S.Serve.serving g.S.FileServer.line g.S.FileServer.is_ready g.S.FileServer.knows
          g.L.Supplied.runs_on g.L.Recorder.marks
          c.self.inside.server c.call-ending.new.self c.args.self c.read_back-link.result.0
          (outcome_of (outcome_in c.call-ending.result c.call-ending.new.reply)) c.read_back-link.result.1 WasCut
          c.read_back-link.ensures.back.0
          c.self.view_is (kept g) c.self.invariant.0 c.call-ending.ensures.keeps
          (sym (c.was_done.ensures ∙ ap (λ (o : Outcome). succeeded (outcome_of o)) c.with-outcome.ensures) ∙ c.if-not-was_done.false)
          c.read_back-link.ensures.back.3 (ap end_of c.in-Cut.is);
      back = tt;
      same = g.met.L.Recorder.numbers_stay _ _ c.read_back-link.ensures.goes ∙ g.met.L.Recorder.numbers_stay _ _ c.call-ending.ensures.goes
          ∙ ap g.L.Recorder.numbers c.self.view_is;
    },
    λ went. cc,
  );
}

pub returns-in-Read : goal.returns-in-Read
returns-in-Read g c = record {
  finished = (
    [],
    record {
      line = c.read_back-link.result.0;
      last = unread_line g.L.Link g.N.ServiceParameters.geometry g.N.ServiceParameters.opening _ _
          (line_back
          g.N.ServiceParameters g.L.Link g.S.Serve.serving g.S.FileServer.line g.S.FileServer.is_ready g.S.FileServer.knows
          g.L.Supplied.runs_on g.L.Recorder.marks
          c.self.inside.server c.call-ending.new.self c.args.self c.read_back-link.result.0
          (outcome_of (outcome_in c.call-ending.result c.call-ending.new.reply)) c.read_back-link.result.1 Went
          c.read_back-link.ensures.back.0
          c.self.view_is (kept g) c.self.invariant.0 c.call-ending.ensures.keeps
          (sym (c.was_done.ensures ∙ ap (λ (o : Outcome). succeeded (outcome_of o)) c.with-outcome.ensures) ∙ c.if-not-was_done.false)
          c.read_back-link.ensures.back.3 (ap end_of c.in-Read.is));
      back = tt;
      same = g.met.L.Recorder.numbers_stay _ _ c.read_back-link.ensures.goes ∙ g.met.L.Recorder.numbers_stay _ _ c.call-ending.ensures.goes
          ∙ ap g.L.Recorder.numbers c.self.view_is;
    },
    λ went. cc,
  );
}

pub read_back-link-requires-clause-places : goal.read_back-link-requires-clause-places
read_back-link-requires-clause-places g c =
    subst (λ (l : List Place). ArePlaces 0 (2 ^ 48) l) (sym c.deref.ensures.value)
    (places_to 0 c.args.size (2 ^ 48) c.in-Ok.reading.places.items (let most = c.if-size-gt-MOST.false in omega (arith, most))
    (subst (λ (u : List Bool). ArePlacesOf u c.args.size c.in-Ok.reading.places.items) refl c.in-Ok.ensures.places).ordered)

pub returns : goal.returns
returns g c = record {
  finished =
      let units = c.in-Ok.reading.units in
      let back = c.read_back-link.ensures.back in
      let of : ArePlacesOf units c.args.size c.in-Ok.reading.places.items =
      subst (λ (u : List Bool). ArePlacesOf u c.args.size c.in-Ok.reading.places.items) (sym c.in-Ok.ensures.units)
      c.in-Ok.ensures.places in
      let at : AreAt c.in-Ok.reading.places.items back.0 =
      subst (λ (l : List Place). AreAt l back.0) c.deref.ensures.value (back.2 c.in-Read.is) in (
        back.0,
        synced_by
            g.N.ServiceParameters g.L.Link g.S.Serve.serving g.S.FileServer.line g.S.FileServer.is_ready g.S.FileServer.knows
            g.L.Supplied.runs_on g.L.Recorder.marks g.L.Recorder.numbers
            (g.L.Recorder.numbers c.args.self) c.self.inside.server c.call-ending.new.self c.args.self c.read_back-link.result.0
            (outcome_of (outcome_in c.call-ending.result c.call-ending.new.reply)) c.read_back-link.result.1 c.args.size units back.0
            c.self.view_is (kept g) c.self.invariant.0 c.call-ending.ensures.keeps
            (sym (c.was_done.ensures ∙ ap (λ (o : Outcome). succeeded (outcome_of o)) c.with-outcome.ensures) ∙ c.if-not-was_done.false)
            back.3
            (g.met.L.Recorder.numbers_stay _ _ c.read_back-link.ensures.goes ∙ g.met.L.Recorder.numbers_stay _ _ c.call-ending.ensures.goes
            ∙ ap g.L.Recorder.numbers c.self.view_is)
            c.in-Read.is (at_places units c.args.size c.in-Ok.reading.places.items back.0 at of)
            (same_elsewhere g.N.ServiceParameters.opening c.args.size (g.L.Recorder.marks c.read_back-link.result.0) units
            c.written-2.result.now c.are_same-is_same.result c.disk_stays_unwritten.ensures c.if-size-gt-MOST.false
            (ap (λ (u : List Bool). length u) c.in-Ok.ensures.units ∙ c.written.ensures.number) c.written-2.ensures
            c.are_same-is_same.ensures c.if-not-is_same.false),
        λ went. back.1,
      );
}
