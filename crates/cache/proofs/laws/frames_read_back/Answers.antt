use Rattle.cache.proofs.ReadingBack.{frames_read_back}
use Rattle.cache.proofs.laws.frames_read_back.Goals as goal

pub returns : goal.returns
returns c = frames_read_back
