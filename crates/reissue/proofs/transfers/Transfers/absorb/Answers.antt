use Rattle.reissue.proofs.Joining.{absorbs_then}
use Rattle.reissue.proofs.transfers.Transfers.absorb.Goals as goal

pub returns-clause-absorbs : goal.returns-clause-absorbs
returns-clause-absorbs g c =
    absorbs_then _ _ _ _ _ _ _ _ _ _ _ c.take_in-settled.ensures.takes c.post_if.ensures.leads (rw (← c.posts_after-due.ensures) c.post_if.ensures.posts) c.post_if.ensures.current

pub returns-clause-goes : goal.returns-clause-goes
returns-clause-goes g c = g.met.L.Link.joins _ _ _ c.take_in-settled.ensures.goes c.post_if.ensures.goes
