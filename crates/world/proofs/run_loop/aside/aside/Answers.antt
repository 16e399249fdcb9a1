use Rattle.std.proofs.Common.{◌∙◌, refl}
use Rattle.message.specs.declared.Incoming.TheVariants as incoming
use Rattle.simulated_link.proofs.MovingLaws.{handed_true, owed_heard, true_of, aside_true, quiet_true}
use Rattle.simulated_link.proofs.Going.{same_run, hands_event, hands_none, hands_owed, hands_nothing, not_told}
use Rattle.world.proofs.run_loop.aside.aside.Goals as goal

pub returns-then-link-clause-truth : goal.returns-then-link-clause-truth
returns-then-link-clause-truth g c = λ v marks h.
    handed_true v _ _ marks incoming.GaveUp c.note_handed.ensures.said (owed_heard v _ marks (true_of v _ _ marks c.make_room.ensures.scene h))

pub returns-in-Some-clause-truth : goal.returns-in-Some-clause-truth
returns-in-Some-clause-truth g c = λ v marks h.
    aside_true v _ _ _ _ _ _ marks c.run-message.ensures.plays c.in-Some.is c.note_handed-in-Some.ensures.said c.make_room.ensures.scene h

pub returns-in_default-clause-truth : goal.returns-in_default-clause-truth
returns-in_default-clause-truth g c = λ v marks h.
    quiet_true v _ _ _ _ marks c.run-message.ensures.plays c.in_default.is c.make_room.ensures.scene h

pub returns-then-not-make_room-clause-asides : goal.returns-then-not-make_room-clause-asides
returns-then-not-make_room-clause-asides g c =
    hands_nothing _ _ _ (same_run _ _ c.make_room.ensures.scene refl refl c.make_room.ensures.waiting refl refl c.make_room.ensures.over refl)

pub returns-then-link-clause-asides : goal.returns-then-link-clause-asides
returns-then-link-clause-asides g c =
    hands_owed _ _ _ _ (same_run _ _ c.make_room.ensures.scene refl refl c.make_room.ensures.waiting refl refl c.make_room.ensures.over refl)
    (c.make_room.ensures.over ∙ c.if-not-make_room.ensures.live) c.if-link.true (not_told _ _ c.args.link.now.once c.if-link.true)
    c.note_handed.ensures.said c.note_handed.ensures.over

pub returns-in-Some-clause-asides : goal.returns-in-Some-clause-asides
returns-in-Some-clause-asides g c =
    hands_event _ _ _ _ _ _ _ (same_run _ _ c.make_room.ensures.scene refl refl c.make_room.ensures.waiting refl refl c.make_room.ensures.over refl)
    c.run-message.ensures.plays c.in-Some.is c.note_handed-in-Some.ensures.said c.note_handed-in-Some.ensures.over

pub returns-in_default-clause-asides : goal.returns-in_default-clause-asides
returns-in_default-clause-asides g c =
    hands_none _ _ _ _ (same_run _ _ c.make_room.ensures.scene refl refl c.make_room.ensures.waiting refl refl c.make_room.ensures.over refl)
    c.run-message.ensures.plays c.in_default.is
