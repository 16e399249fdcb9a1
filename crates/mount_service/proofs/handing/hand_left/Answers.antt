use Rattle.mount_service.proofs.Ends.{at_some, of_image}
use Rattle.mount_service.proofs.handing.hand_left.Goals as goal

pub returns-clause-handed : goal.returns-clause-handed
returns-clause-handed g c = at_some _ _ _ c.in-Some.is (
  c.hand_on-handing.result,
  c.tell_handing-told.result,
  of_image g.A.Archive.ends g.B.ImagePlace.puts _ _ _ _ _ _ _ _ _ _ c.deref.ensures.value c.is_as_read.ensures
      c.hand_on-handing.ensures,
  c.tell_handing-told.ensures,
  c.ended_with.ensures,
)
