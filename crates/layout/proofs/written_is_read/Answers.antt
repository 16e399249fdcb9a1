use Rattle.layout.proofs.Written.{reads_back}
use Rattle.layout.proofs.written_is_read.Goals as goal

pub returns : goal.returns
returns c = reads_back
