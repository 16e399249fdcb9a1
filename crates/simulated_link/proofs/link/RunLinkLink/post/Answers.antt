use Rattle.schedule.proofs.NotedLaws.{has_room}
use Rattle.simulated_link.proofs.DisksLaws.{lines_up}
use Rattle.simulated_link.proofs.MovingLaws.{posted_true, accepted_at}
use Rattle.simulated_link.proofs.Going.{posts}
use Rattle.simulated_link.proofs.link.RunLinkLink.post.Goals as goal

pub returns-in-Ok-clause-accepted : goal.returns-in-Ok-clause-accepted
returns-in-Ok-clause-accepted g c =
    let accepted = accepted_at _ _ _ _ (lines_up _ _ _ _ _ c.in-Ok.ensures.dead c.in-Ok.ensures.full c.in-Ok.ensures.lined c.in-Ok.ensures.refused) in
    λ v marks h may fits. posted_true v _ _ _ marks _ _ accepted.0 accepted.1 c.note_post.ensures.said h may fits

pub returns-in-Ok-clause-goes : goal.returns-in-Ok-clause-goes
returns-in-Ok-clause-goes g c =
    posts _ _ _ _ _ _ _ (has_room _ _ c.requires) (lines_up _ _ _ _ _ c.in-Ok.ensures.dead c.in-Ok.ensures.full c.in-Ok.ensures.lined c.in-Ok.ensures.refused)
    c.note_post.ensures.said c.note_post.ensures.over

pub returns-in-Err-clause-goes : goal.returns-in-Err-clause-goes
returns-in-Err-clause-goes g c =
    posts _ _ _ _ _ _ _ (has_room _ _ c.requires) (lines_up _ _ _ _ _ c.in-Err.ensures.dead c.in-Err.ensures.full c.in-Err.ensures.lined c.in-Err.ensures.refused)
    c.note_refused.ensures.said c.note_refused.ensures.over
