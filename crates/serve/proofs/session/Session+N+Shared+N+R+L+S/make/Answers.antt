use Rattle.std.proofs.Common.{List, sym, subst}
use Rattle.records.specs.Marks.{Mark}
use Rattle.file_server.specs.Over.{outcome_in, outcome_of}
use Rattle.shared_server.specs.Descriptors.{AreLeftOpen}
use Rattle.serve.proofs.CountLaws.{counts_tally}
use Rattle.serve.proofs.ClosingLaws.{mine_after}
use Rattle.serve.proofs.session.Session+N+Shared+N+R+L+S.make.Goals as goal

pub invariant_of-self : goal.invariant_of-self
invariant_of-self g c =
    let e = c.call-ending.ensures in (
      c.self.invariant.0,
      e.seat.0,
      e.seat.1,
      c.self.invariant.3,
      counts_tally c.call-ending.new.tally c.call-ending.new.seat.view.seen e.tally,
      subst (λ (ms : List Mark). AreLeftOpen c.note.new.self ms)
          (sym (mine_after (outcome_of (outcome_in c.call-ending.result c.call-ending.new.reply)) c.self.inside.who c.args.now c.args.call.now _ _ e.call.ends))
          (c.note.ensures c.self.inside.who c.args.now c.self.inside.seat.view.mine c.self.invariant.5),
    )

pub returns-clause-cut : goal.returns-clause-cut
returns-clause-cut g c = record {
  line = c.call-ending.new.self;
  kept = sym c.call-ending.ensures.seen;
  guaranteed = subst (λ (ms : List Mark). g.L.Link.truth c.call-ending.new.self g.N.ServiceParameters.opening ms) (sym c.call-ending.ensures.seen)
      c.call-ending.ensures.truth;
  exactly = c.call-ending.ensures.cut;
}
