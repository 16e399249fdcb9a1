use Rattle.zone.proofs.Raw.{filled_word_links}
use Rattle.zone.proofs.zone_laws.filled_word_links.Goals as goal

pub returns : goal.returns
returns c = filled_word_links
