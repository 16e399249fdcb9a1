use Rattle.cache.proofs.slot.zeros.Goals as goal
use Rattle.lemmas.proofs.Lists.{zero_at}

pub returns : goal.returns
returns c = λ o. zero_at 4096 o
