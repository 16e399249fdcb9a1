use Rattle.zone.proofs.Raw.{cleared_word_unlinks}
use Rattle.zone.proofs.zone_laws.cleared_word_unlinks.Goals as goal

pub returns : goal.returns
returns c = cleared_word_unlinks
