use Rattle.tree.proofs.laws.walks_follow_links.Goals as goal
use Rattle.tree.proofs.Walks.{walk_without_links, walk_ends_at_no_link}

pub returns-clause-without : goal.returns-clause-without
returns-clause-without c = walk_without_links

pub returns-clause-ends : goal.returns-clause-ends
returns-clause-ends c = walk_ends_at_no_link
