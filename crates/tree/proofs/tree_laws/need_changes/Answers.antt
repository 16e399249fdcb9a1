use Rattle.tree.proofs.Fewer.{fewer_needed}
use Rattle.tree.proofs.NeedGrows.{need_grows, one_page_more, pages_let_go}
use Rattle.tree.proofs.tree_laws.need_changes.Goals as goal

pub returns-clause-monotone : goal.returns-clause-monotone
returns-clause-monotone c = fewer_needed

pub returns-clause-more : goal.returns-clause-more
returns-clause-more c = need_grows

pub returns-clause-one : goal.returns-clause-one
returns-clause-one c = one_page_more

pub returns-clause-let_go : goal.returns-clause-let_go
returns-clause-let_go c = pages_let_go
