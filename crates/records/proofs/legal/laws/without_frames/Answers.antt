use Rattle.records.proofs.Sessions.{without_frames}
use Rattle.records.proofs.legal.laws.without_frames.Goals as goal

pub returns : goal.returns
returns c = without_frames
