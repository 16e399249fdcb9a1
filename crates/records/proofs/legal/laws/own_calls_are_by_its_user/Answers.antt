use Rattle.records.proofs.Sessions.{own_calls_are_by_its_user}
use Rattle.records.proofs.legal.laws.own_calls_are_by_its_user.Goals as goal

pub returns : goal.returns
returns c = own_calls_are_by_its_user
