use Rattle.std.proofs.Common.{sym, ap, ◌∙◌, Ok, Result}
use Rattle.std.proofs.lemmas.Bool.{eqb-true}
use Rattle.cache.specs.declared.settling.Took.{Took}
use Rattle.cache.specs.Settling.{taking_in}
use Rattle.block_store.specs.declared.Cut.{Cut}
use Rattle.cache.specs.Takes.{is_read_of}
use Rattle.cache.proofs.Edits.{leaves_none, leaves_then}
use Rattle.cache.proofs.Placing.{keeps_none, keeps_took, reads_cut, still_reading, reads_done}
use Rattle.cache.proofs.Taking.{read_cut_off}
use Rattle.cache.proofs.Staying.{all_none, all_then}
use Rattle.cache.proofs.Flushes.{follows_none, follows_then}
use Rattle.cache.proofs.Looking.{looks_none, looks_then}
use Rattle.cache.proofs.cache.Cache.wait.Goals as goal

pub messages-init : goal.messages-init
messages-init g c = record {
  keeps = keeps_none _ c.requires.ready;
  leaves = leaves_none _;
  stay = all_none _;
  pending = c.requires.reading;
  flush = follows_none _ _;
  goes = g.met.L.Link.stays _;
  looks = looks_none _;
}

pub returns-in_err-settled-clause-runs : goal.returns-in_err-settled-clause-runs
returns-in_err-settled-clause-runs g c =
    reads_cut _ _ _ _ _ (read_cut_off c.from_residual.result _ c.from_residual.ensures.0) (keeps_took _ _ _ _ c.messages.invariant.keeps c.take.ensures.runs)

pub messages-preserved-in_default : goal.messages-preserved-in_default
messages-preserved-in_default g c = record {
  keeps = keeps_took _ _ _ _ c.messages.invariant.keeps c.take.ensures.runs;
  leaves = leaves_then _ _ _ c.messages.invariant.leaves c.take.ensures.leaves;
  stay = all_then _ _ _ c.messages.invariant.stay c.take.ensures.stay;
  pending = still_reading _ _ _ c.args.reading.ticket _ _ c.take.ensures.reads
      (ap (λ (r : Result Took Cut). is_read_of (taking_in r c.take.new.self.slots.spare.value) c.args.reading.ticket) (c.in_ok-settled.was ∙ ap Ok c.in_default.is))
      c.messages.invariant.pending;
  flush = follows_then _ _ _ _ _ _ c.messages.invariant.flush c.take.ensures.flush;
  goes = g.met.L.Link.joins _ _ _ c.messages.invariant.goes c.take.ensures.goes;
  looks = looks_then _ _ _ c.messages.invariant.looks c.take.ensures.looks;
}

pub returns-then-eq-clause-runs : goal.returns-then-eq-clause-runs
returns-then-eq-clause-runs g c =
    let same = eqb-true c.in-Read.settled c.args.reading.ticket (sym c.eq.ensures ∙ c.if-eq.true) in
    reads_done _ _ _ _ c.in-Read.settled c.args.reading.ticket _ _ c.take.new.self.slots.spare.value
    (ap (λ (r : Result Took Cut). taking_in r c.take.new.self.slots.spare.value) (c.in_ok-settled.was ∙ ap Ok c.in-Read.is)) same
    c.messages.invariant.pending c.messages.invariant.keeps c.take.ensures.runs

pub returns-then-eq-clause-stay : goal.returns-then-eq-clause-stay
returns-then-eq-clause-stay g c = all_then _ _ _ c.messages.invariant.stay c.take.ensures.stay

pub messages-preserved : goal.messages-preserved
messages-preserved g c = record {
  keeps = keeps_took _ _ _ _ c.messages.invariant.keeps c.take.ensures.runs;
  leaves = leaves_then _ _ _ c.messages.invariant.leaves c.take.ensures.leaves;
  stay = all_then _ _ _ c.messages.invariant.stay c.take.ensures.stay;
  pending = still_reading _ _ _ c.args.reading.ticket _ _ c.take.ensures.reads
      (ap (λ (r : Result Took Cut). is_read_of (taking_in r c.take.new.self.slots.spare.value) c.args.reading.ticket) (c.in_ok-settled.was ∙ ap Ok c.in-Read.is)
      ∙ (sym c.eq.ensures ∙ c.if-eq.false)) c.messages.invariant.pending;
  flush = follows_then _ _ _ _ _ _ c.messages.invariant.flush c.take.ensures.flush;
  goes = g.met.L.Link.joins _ _ _ c.messages.invariant.goes c.take.ensures.goes;
  looks = looks_then _ _ _ c.messages.invariant.looks c.take.ensures.looks;
}

pub returns-in_err-settled-clause-flush : goal.returns-in_err-settled-clause-flush
returns-in_err-settled-clause-flush g c = follows_then _ _ _ _ _ _ c.messages.invariant.flush c.take.ensures.flush

pub returns-then-eq-clause-flush : goal.returns-then-eq-clause-flush
returns-then-eq-clause-flush g c = follows_then _ _ _ _ _ _ c.messages.invariant.flush c.take.ensures.flush

pub returns-in_err-settled-clause-goes : goal.returns-in_err-settled-clause-goes
returns-in_err-settled-clause-goes g c = g.met.L.Link.joins _ _ _ c.messages.invariant.goes c.take.ensures.goes

pub returns-then-eq-clause-goes : goal.returns-then-eq-clause-goes
returns-then-eq-clause-goes g c = g.met.L.Link.joins _ _ _ c.messages.invariant.goes c.take.ensures.goes

pub returns-in_err-settled-clause-leaves : goal.returns-in_err-settled-clause-leaves
returns-in_err-settled-clause-leaves g c = leaves_then _ _ _ c.messages.invariant.leaves c.take.ensures.leaves

pub returns-then-eq-clause-leaves : goal.returns-then-eq-clause-leaves
returns-then-eq-clause-leaves g c = leaves_then _ _ _ c.messages.invariant.leaves c.take.ensures.leaves

pub returns-in_err-settled-clause-stay : goal.returns-in_err-settled-clause-stay
returns-in_err-settled-clause-stay g c = all_then _ _ _ c.messages.invariant.stay c.take.ensures.stay

pub returns-in_err-settled-clause-looks : goal.returns-in_err-settled-clause-looks
returns-in_err-settled-clause-looks g c = looks_then _ _ _ c.messages.invariant.looks c.take.ensures.looks

pub returns-then-eq-clause-looks : goal.returns-then-eq-clause-looks
returns-then-eq-clause-looks g c = looks_then _ _ _ c.messages.invariant.looks c.take.ensures.looks
