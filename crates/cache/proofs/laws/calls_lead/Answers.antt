use Rattle.cache.proofs.Leading.{leads_by}
use Rattle.cache.proofs.laws.calls_lead.Goals as goal

pub returns : goal.returns
returns g c = λ message old new s t was is same count alive x. leads_by message _ _ _ _ was is same count alive x
