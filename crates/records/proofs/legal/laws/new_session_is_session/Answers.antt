use Rattle.records.proofs.Sessions.{new_session_is_session}
use Rattle.records.proofs.legal.laws.new_session_is_session.Goals as goal

pub returns : goal.returns
returns c = new_session_is_session
