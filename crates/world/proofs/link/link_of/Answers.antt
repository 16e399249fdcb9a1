use Rattle.world.proofs.Opened.{fresh, opened_on}
use Rattle.world.proofs.link.link_of.Goals as goal
use Rattle.lemmas.proofs.Options.{if_ok}

pub returns-clause-fresh : goal.returns-clause-fresh
returns-clause-fresh g c = if_ok _ _ _ (λ p opened. fresh _ _ _ _ _ _ opened) c.new-2.ensures.opens

pub returns-clause-opened : goal.returns-clause-opened
returns-clause-opened g c =
    if_ok _ _ _ (λ p opened. opened_on g.D.LocalDriver.state _ _ _ _ _ _ _ c.in-Ok.is c.new.ensures.answers opened) c.new-2.ensures.opens
