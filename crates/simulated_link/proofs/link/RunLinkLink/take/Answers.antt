use Rattle.std.proofs.Common.{◌∙◌, refl}
use Rattle.message.specs.declared.Incoming.TheVariants as incoming
use Rattle.simulated_link.specs.StateView.{Stays, IsStarved, Still}
use Rattle.simulated_link.proofs.MovingLaws.{received_true, owed_heard, true_of, take_told, end_told, end_again, take_falls, take_spent, take_true, end_true}
use Rattle.simulated_link.proofs.Going.{same_run, takes, takes_owed, takes_end, not_told}
use Rattle.simulated_link.proofs.link.RunLinkLink.take.Goals as goal

pub returns-then-self-clause-truth : goal.returns-then-self-clause-truth
returns-then-self-clause-truth g c = λ v marks h.
    received_true v _ _ marks incoming.GaveUp c.note_received.ensures.said (owed_heard v _ marks (true_of v _ _ marks c.make_room.ensures.scene h))

pub returns-in-Some-clause-told : goal.returns-in-Some-clause-told
returns-in-Some-clause-told g c = take_told _ _ _ _ _ c.in-Some.ensures.came c.note_received-in-Some.ensures.said c.make_room.ensures.scene

pub returns-in-Some-clause-budget : goal.returns-in-Some-clause-budget
returns-in-Some-clause-budget g c = λ some.
    take_falls _ _ _ _ _ _ _ _ c.in-Some.ensures.came c.if-not-make_room.ensures.live (c.note_received-in-Some.ensures.over ∙ c.in-Some.ensures.over) refl refl
    c.in-Some.ensures.next c.advance.new.self.within

pub returns-in-Some-clause-spent : goal.returns-in-Some-clause-spent
returns-in-Some-clause-spent g c =
    take_spent _ _ _ (take_falls _ _ _ c.args.self.now.log.over c.note_received-in-Some.new.self.over _ _ _ c.in-Some.ensures.came c.if-not-make_room.ensures.live
    (c.note_received-in-Some.ensures.over ∙ c.in-Some.ensures.over) refl refl c.in-Some.ensures.next c.advance.new.self.within)

pub returns-then-self-clause-goes : goal.returns-then-self-clause-goes
returns-then-self-clause-goes g c =
    takes_owed _ _ _ _ (same_run _ _ c.make_room.ensures.scene refl refl c.make_room.ensures.waiting refl refl c.make_room.ensures.over refl)
    (c.make_room.ensures.over ∙ c.if-not-make_room.ensures.live) c.if-self.true
    (not_told _ _ c.args.self.now.once c.if-self.true) c.note_received.ensures.said c.note_received.ensures.over

pub returns-in-Some-clause-goes : goal.returns-in-Some-clause-goes
returns-in-Some-clause-goes g c =
    takes _ _ _ _ _ _ (same_run _ _ c.make_room.ensures.scene refl refl c.make_room.ensures.waiting refl refl c.make_room.ensures.over refl)
    c.in-Some.ensures.came c.note_received-in-Some.ensures.said c.note_received-in-Some.ensures.over

pub returns-in-Some-clause-truth : goal.returns-in-Some-clause-truth
returns-in-Some-clause-truth g c = λ v marks h.
    take_true v _ _ _ _ _ marks c.in-Some.ensures.came c.note_received-in-Some.ensures.said c.make_room.ensures.scene h

pub returns-in-None-clause-told : goal.returns-in-None-clause-told
returns-in-None-clause-told g c = end_told _ _ _ _ (c.in-None.ensures.ends refl) c.end-in-None.ensures.said c.make_room.ensures.scene

pub returns-in-None-clause-goes : goal.returns-in-None-clause-goes
returns-in-None-clause-goes g c =
    takes_end _ _ _ _ _ (same_run _ _ c.make_room.ensures.scene refl refl c.make_room.ensures.waiting refl refl c.make_room.ensures.over refl)
    c.if-over.false (c.in-None.ensures.ends refl) c.end-in-None.ensures.said c.end-in-None.ensures.over

pub returns-in-None-clause-truth : goal.returns-in-None-clause-truth
returns-in-None-clause-truth g c = λ v marks h.
    end_true v _ _ _ _ marks (c.in-None.ensures.ends refl) c.end-in-None.ensures.said c.make_room.ensures.scene h

pub returns-then-not-make_room-clause-goes : goal.returns-then-not-make_room-clause-goes
returns-then-not-make_room-clause-goes g c =
    takes_end _ _ _ _ _ (same_run _ _ c.make_room.ensures.scene refl refl c.make_room.ensures.waiting refl refl c.make_room.ensures.over refl)
    c.if-over.false (IsStarved _ Stays) c.end.ensures.said c.end.ensures.over

pub returns-then-over-clause-goes : goal.returns-then-over-clause-goes
returns-then-over-clause-goes g c = Still

pub returns-then-over-clause-told : goal.returns-then-over-clause-told
returns-then-over-clause-told g c = end_again _ _ c.if-over.true
