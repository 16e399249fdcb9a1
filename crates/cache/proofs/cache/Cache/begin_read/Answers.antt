use Rattle.std.proofs.Common.{sym, subst}
use Rattle.cache.specs.declared.table.Slots.{Slots}
use Rattle.cache.specs.Edits.{Leaves, AllStay}
use Rattle.cache.proofs.Edits.{leaves_none, leaves_then}
use Rattle.cache.proofs.Placing.{keeps_none, keeps_then, keeps_took}
use Rattle.cache.proofs.Staying.{all_none, all_then}
use Rattle.cache.proofs.Flushes.{follows_none, follows_then}
use Rattle.cache.proofs.Looking.{looks_none, looks_then}
use Rattle.cache.proofs.cache.Cache.begin_read.Goals as goal

pub tries-init : goal.tries-init
tries-init g c = record { keeps = keeps_none _ c.requires.ready; leaves = leaves_none _; stay = all_none _; flush = follows_none _ _; goes = g.met.L.Link.stays _; looks = looks_none _ }

pub returns-in-Some-clause-keeps : goal.returns-in-Some-clause-keeps
returns-in-Some-clause-keeps g c = keeps_then _ _ _ c.tries.invariant.keeps c.try_read.ensures.keeps

pub tries-preserved : goal.tries-preserved
tries-preserved g c = record {
  keeps = keeps_took _ _ _ _ (keeps_then _ _ _ c.tries.invariant.keeps c.try_read.ensures.keeps) c.take.ensures.runs;
  leaves = leaves_then _ _ _ c.tries.invariant.leaves
      (subst (λ (s : Slots). Leaves s.items.items c.take.new.self.slots.items.items) c.try_read.ensures.slots c.take.ensures.leaves);
  stay = all_then _ _ _ c.tries.invariant.stay (subst (λ (s : Slots). AllStay s c.take.new.self.slots) c.try_read.ensures.slots c.take.ensures.stay);
  flush = follows_then _ _ _ _ _ _ (follows_then _ _ _ _ _ _ c.tries.invariant.flush c.try_read.ensures.flush) c.take.ensures.flush;
  goes = g.met.L.Link.joins _ _ _ (g.met.L.Link.joins _ _ _ c.tries.invariant.goes c.try_read.ensures.goes) c.take.ensures.goes;
  looks = looks_then _ _ _ (looks_then _ _ _ c.tries.invariant.looks c.try_read.ensures.looks) c.take.ensures.looks;
}

pub returns-in_err-take-clause-keeps : goal.returns-in_err-take-clause-keeps
returns-in_err-take-clause-keeps g c = keeps_took _ _ _ _ (keeps_then _ _ _ c.tries.invariant.keeps c.try_read.ensures.keeps) c.take.ensures.runs

pub returns-in-Some-clause-stay : goal.returns-in-Some-clause-stay
returns-in-Some-clause-stay g c = subst (λ (s : Slots). AllStay c.args.self.now.slots s) (sym c.try_read.ensures.slots) c.tries.invariant.stay

pub returns-in_err-take-clause-stay : goal.returns-in_err-take-clause-stay
returns-in_err-take-clause-stay g c =
    all_then _ _ _ c.tries.invariant.stay (subst (λ (s : Slots). AllStay s c.take.new.self.slots) c.try_read.ensures.slots c.take.ensures.stay)

pub returns-in-Some-clause-flush : goal.returns-in-Some-clause-flush
returns-in-Some-clause-flush g c = follows_then _ _ _ _ _ _ c.tries.invariant.flush c.try_read.ensures.flush

pub returns-in_err-take-clause-flush : goal.returns-in_err-take-clause-flush
returns-in_err-take-clause-flush g c =
    follows_then _ _ _ _ _ _ (follows_then _ _ _ _ _ _ c.tries.invariant.flush c.try_read.ensures.flush) c.take.ensures.flush

pub returns-in-Some-clause-goes : goal.returns-in-Some-clause-goes
returns-in-Some-clause-goes g c = g.met.L.Link.joins _ _ _ c.tries.invariant.goes c.try_read.ensures.goes

pub returns-in_err-take-clause-goes : goal.returns-in_err-take-clause-goes
returns-in_err-take-clause-goes g c = g.met.L.Link.joins _ _ _ (g.met.L.Link.joins _ _ _ c.tries.invariant.goes c.try_read.ensures.goes) c.take.ensures.goes

pub returns-in-Some-clause-leaves : goal.returns-in-Some-clause-leaves
returns-in-Some-clause-leaves g c =
    subst (λ (s : Slots). Leaves c.args.self.now.slots.items.items s.items.items) (sym c.try_read.ensures.slots) c.tries.invariant.leaves

pub returns-in_err-take-clause-leaves : goal.returns-in_err-take-clause-leaves
returns-in_err-take-clause-leaves g c =
    leaves_then _ _ _ c.tries.invariant.leaves
    (subst (λ (s : Slots). Leaves s.items.items c.take.new.self.slots.items.items) c.try_read.ensures.slots c.take.ensures.leaves)

pub returns-in-Some-clause-looks : goal.returns-in-Some-clause-looks
returns-in-Some-clause-looks g c = looks_then _ _ _ c.tries.invariant.looks c.try_read.ensures.looks

pub returns-in_err-live-clause-looks : goal.returns-in_err-live-clause-looks
returns-in_err-live-clause-looks g c = c.tries.invariant.looks

pub returns-in_err-take-clause-looks : goal.returns-in_err-take-clause-looks
returns-in_err-take-clause-looks g c = looks_then _ _ _ (looks_then _ _ _ c.tries.invariant.looks c.try_read.ensures.looks) c.take.ensures.looks
