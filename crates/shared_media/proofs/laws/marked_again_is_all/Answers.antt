use Rattle.shared_media.proofs.Sequences.{marked_again}
use Rattle.shared_media.proofs.laws.marked_again_is_all.Goals as goal

pub returns : goal.returns
returns c = marked_again
