use Rattle.cache.proofs.Staying.{all_none}
use Rattle.cache.proofs.settling.settle.Goals as goal

pub returns-in-Nothing-clause-stay : goal.returns-in-Nothing-clause-stay
returns-in-Nothing-clause-stay c = all_none _

pub returns-in-Read-clause-stay : goal.returns-in-Read-clause-stay
returns-in-Read-clause-stay c = all_none _

pub returns-in-Flush-clause-stay : goal.returns-in-Flush-clause-stay
returns-in-Flush-clause-stay c = all_none _

pub returns-in-GaveUp-clause-stay : goal.returns-in-GaveUp-clause-stay
returns-in-GaveUp-clause-stay c = all_none _

pub returns-in-End-clause-stay : goal.returns-in-End-clause-stay
returns-in-End-clause-stay c = all_none _
