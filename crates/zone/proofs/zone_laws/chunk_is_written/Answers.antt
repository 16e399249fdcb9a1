use Rattle.zone.proofs.Chunks.{chunk_is_written}
use Rattle.zone.proofs.zone_laws.chunk_is_written.Goals as goal

pub returns : goal.returns
returns c = chunk_is_written
