use Rattle.simulated_link.proofs.MovingLaws.{took_true, true_of}
use Rattle.world.proofs.run_loop.aside.took.Goals as goal

pub returns-clause-truth : goal.returns-clause-truth
returns-clause-truth g c = λ v marks h.
    took_true v _ _ marks _ _ _ _ c.note_answer.ensures.said (true_of v _ _ marks c.make_room.ensures.scene h)
