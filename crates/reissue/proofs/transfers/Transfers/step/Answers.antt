use Rattle.std.proofs.Common.{arith}
use Rattle.reissue.proofs.Joining.{falls_to, steps_one}
use Rattle.reissue.proofs.transfers.Transfers.step.Goals as goal

pub returns-clause-steps : goal.returns-clause-steps
returns-clause-steps g c =
    steps_one _ _ _ _ _ _ _ _ _ _ c.take_into.ensures.told c.take_into.ensures.truth c.absorb.ensures.absorbs c.absorb.ensures.answer

pub returns-clause-falls : goal.returns-clause-falls
returns-clause-falls g c = λ on.
    let less = falls_to _ _ _ _ c.absorb.ensures.answer on c.take_into.ensures.budget c.take_into.ensures.spent in
    omega (arith, less, c.absorb.ensures.budget)

pub returns-clause-goes : goal.returns-clause-goes
returns-clause-goes g c = g.met.L.Link.joins _ _ _ c.take_into.ensures.goes c.absorb.ensures.goes
