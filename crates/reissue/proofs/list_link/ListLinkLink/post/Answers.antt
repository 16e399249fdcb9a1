use Rattle.reissue.specs.Grows.{grows_told}
use Rattle.reissue.proofs.list_link.ListLinkLink.post.Goals as goal

pub returns-clause-goes : goal.returns-clause-goes
returns-clause-goes c = grows_told _ _ _ c.told.ensures.history
