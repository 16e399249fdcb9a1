use Rattle.file.proofs.Spaces.{bytes_are_read}
use Rattle.file.proofs.laws.bytes_are_read.Goals as goal

pub returns : goal.returns
returns c = bytes_are_read
