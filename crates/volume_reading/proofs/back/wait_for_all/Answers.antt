use Rattle.std.proofs.Common.{◌∙◌, arith, refl, Err, Ok}
use Rattle.reissue.specs.Settlements.{Settlement}
use Rattle.reissue.specs.Settlements as settled
use Rattle.reissue.specs.Transfers.{link_of, table_of}
use Rattle.volume_reading.specs.declared.reading.Stop.TheVariants.{Ended, GaveUp}
use Rattle.volume_reading.proofs.Waiting.{waited_first, waited_step, waits_so}
use Rattle.volume_reading.proofs.back.wait_for_all.Goals as goal

pub messages-init : goal.messages-init
messages-init g c = record {
  waited = λ minor for. waited_first minor (table_of c.args.transfers.now) (g.L.Link.history (link_of c.args.transfers.now)) (g.L.Link.truth (link_of c.args.transfers.now)) for;
  goes = g.met.L.Link.stays _;
  live = c.requires.live;
  unended = c.requires.unended;
  room = c.requires.room;
  numbers = omega arith;
}

pub returns-then-is_idle-clause-waits : goal.returns-then-is_idle-clause-waits
returns-then-is_idle-clause-waits g c =
    let i = c.messages.invariant in
    let before = c.args.transfers.now in
    let at = c.messages.transfers in
    λ minor for.
    waits_so minor (Ok tt) (table_of before) (table_of at) (g.L.Link.history (link_of before)) (g.L.Link.history (link_of at))
    (g.L.Link.truth (link_of before)) (g.L.Link.truth (link_of at)) (i.waited minor for) (i.unended, i.live, c.is_idle.ensures.0 c.if-is_idle.true)

pub returns-in-GaveUp-clause-waits : goal.returns-in-GaveUp-clause-waits
returns-in-GaveUp-clause-waits g c =
    let i = c.messages.invariant in
    let before = c.args.transfers.now in
    let at = c.messages.transfers in
    let after = c.step.new.self in
    let x = c.in-GaveUp.ensures in
    λ minor for.
    waits_so minor (Err GaveUp) (table_of before) (table_of after) (g.L.Link.history (link_of before)) (g.L.Link.history (link_of after))
    (g.L.Link.truth (link_of before)) (g.L.Link.truth (link_of after))
    (waited_step minor settled.GaveUp (table_of before) (table_of at) (table_of after)
    (g.L.Link.history (link_of before)) (g.L.Link.history (link_of at)) (g.L.Link.history (link_of after))
    (g.L.Link.truth (link_of before)) (g.L.Link.truth (link_of at)) (g.L.Link.truth (link_of after)) i.unended x.steps (i.waited minor for))
    (x.steps.ended ∙ i.unended, x.steps.given_up)

pub returns-in-End-clause-waits : goal.returns-in-End-clause-waits
returns-in-End-clause-waits g c =
    let i = c.messages.invariant in
    let before = c.args.transfers.now in
    let at = c.messages.transfers in
    let after = c.step.new.self in
    let x = c.in-End.ensures in
    λ minor for.
    waits_so minor (Err Ended) (table_of before) (table_of after) (g.L.Link.history (link_of before)) (g.L.Link.history (link_of after))
    (g.L.Link.truth (link_of before)) (g.L.Link.truth (link_of after))
    (waited_step minor settled.End (table_of before) (table_of at) (table_of after)
    (g.L.Link.history (link_of before)) (g.L.Link.history (link_of at)) (g.L.Link.history (link_of after))
    (g.L.Link.truth (link_of before)) (g.L.Link.truth (link_of at)) (g.L.Link.truth (link_of after)) i.unended x.steps (i.waited minor for))
    (x.steps.ended, x.steps.given_up ∙ i.live)

pub messages-preserved-in-Nothing : goal.messages-preserved-in-Nothing
messages-preserved-in-Nothing g c =
    let i = c.messages.invariant in
    let before = c.args.transfers.now in
    let at = c.messages.transfers in
    let after = c.step.new.self in
    let x = c.in-Nothing.ensures in
    record {
      waited = λ minor for.
          waited_step minor settled.Nothing (table_of before) (table_of at) (table_of after)
          (g.L.Link.history (link_of before)) (g.L.Link.history (link_of at)) (g.L.Link.history (link_of after))
          (g.L.Link.truth (link_of before)) (g.L.Link.truth (link_of at)) (g.L.Link.truth (link_of after)) i.unended x.steps (i.waited minor for);
      goes = g.met.L.Link.joins _ _ _ i.goes x.goes;
      live = x.steps.given_up ∙ i.live;
      unended = x.steps.ended ∙ i.unended;
      room = x.room refl;
      numbers = omega (arith, x.ids, x.falls refl, i.numbers);
    }

pub messages-preserved-in-Read : goal.messages-preserved-in-Read
messages-preserved-in-Read g c =
    let i = c.messages.invariant in
    let before = c.args.transfers.now in
    let at = c.messages.transfers in
    let after = c.step.new.self in
    let x = c.in-Read.ensures in
    record {
      waited = λ minor for.
          waited_step minor (settled.Read c.in-Read.field-0 c.step.new.into) (table_of before) (table_of at) (table_of after)
          (g.L.Link.history (link_of before)) (g.L.Link.history (link_of at)) (g.L.Link.history (link_of after))
          (g.L.Link.truth (link_of before)) (g.L.Link.truth (link_of at)) (g.L.Link.truth (link_of after)) i.unended x.steps (i.waited minor for);
      goes = g.met.L.Link.joins _ _ _ i.goes x.goes;
      live = x.steps.given_up ∙ i.live;
      unended = x.steps.ended ∙ i.unended;
      room = x.room refl;
      numbers = omega (arith, x.ids, x.falls refl, i.numbers);
    }

pub messages-preserved-in-Written : goal.messages-preserved-in-Written
messages-preserved-in-Written g c =
    let i = c.messages.invariant in
    let before = c.args.transfers.now in
    let at = c.messages.transfers in
    let after = c.step.new.self in
    let x = c.in-Written.ensures in
    record {
      waited = λ minor for.
          waited_step minor (settled.Written c.in-Written.field-0) (table_of before) (table_of at) (table_of after)
          (g.L.Link.history (link_of before)) (g.L.Link.history (link_of at)) (g.L.Link.history (link_of after))
          (g.L.Link.truth (link_of before)) (g.L.Link.truth (link_of at)) (g.L.Link.truth (link_of after)) i.unended x.steps (i.waited minor for);
      goes = g.met.L.Link.joins _ _ _ i.goes x.goes;
      live = x.steps.given_up ∙ i.live;
      unended = x.steps.ended ∙ i.unended;
      room = x.room refl;
      numbers = omega (arith, x.ids, x.falls refl, i.numbers);
    }

pub messages-preserved : goal.messages-preserved
messages-preserved g c =
    let i = c.messages.invariant in
    let before = c.args.transfers.now in
    let at = c.messages.transfers in
    let after = c.step.new.self in
    let x = c.in-Flush.ensures in
    record {
      waited = λ minor for.
          waited_step minor settled.Flush (table_of before) (table_of at) (table_of after)
          (g.L.Link.history (link_of before)) (g.L.Link.history (link_of at)) (g.L.Link.history (link_of after))
          (g.L.Link.truth (link_of before)) (g.L.Link.truth (link_of at)) (g.L.Link.truth (link_of after)) i.unended x.steps (i.waited minor for);
      goes = g.met.L.Link.joins _ _ _ i.goes x.goes;
      live = x.steps.given_up ∙ i.live;
      unended = x.steps.ended ∙ i.unended;
      room = x.room refl;
      numbers = omega (arith, x.ids, x.falls refl, i.numbers);
    }
