use Rattle.records.proofs.Sessions.{own_calls_grow}
use Rattle.records.proofs.legal.laws.own_calls_grow.Goals as goal

pub returns : goal.returns
returns c = own_calls_grow
