use Rattle.std.proofs.Common.{sym, ◌∙◌}
use Rattle.modeldisk.proofs.MoverLaws.{keeps_unsound, keeps_empty, keeps_working, keeps_last}
use Rattle.modeldisk.proofs.SweepLaws.{unsound_in_order, empty_in_order, unsound_arm, empty_arm, refused_in_order, refused_arm, moved_arm, working_in_order, last_in_order}
use Rattle.modeldisk.proofs.sector_mover.mover.Mover.advance.Goals as goal

pub returns-in_default-clause-keeps : goal.returns-in_default-clause-keeps
returns-in_default-clause-keeps c =
    rw (c.end.ensures.step, c.end.ensures.rest)
    (keeps_unsound c.args.self.now c.args.media.now c.args.generation c.if-not-self.false (sym c.plan.ensures.value ∙ c.in_default.is))

pub returns-in_default-clause-order : goal.returns-in_default-clause-order
returns-in_default-clause-order c =
    rw (c.end.ensures.step, c.end.ensures.rest)
    (unsound_in_order c.args.self.now c.args.media.now c.args.generation c.if-not-self.false (sym c.plan.ensures.value ∙ c.in_default.is))

pub returns-in_default-clause-arm : goal.returns-in_default-clause-arm
returns-in_default-clause-arm c =
    rw c.end.ensures.rest (unsound_arm c.args.self.now c.args.media.now c.args.generation c.if-not-self.false (sym c.plan.ensures.value ∙ c.in_default.is))

pub returns-then-self-run-clause-keeps : goal.returns-then-self-run-clause-keeps
returns-then-self-run-clause-keeps c =
    rw (c.end-then-self-run.ensures.step, c.end-then-self-run.ensures.rest)
    (keeps_empty c.args.self.now c.in-Some.run' c.args.media.now c.args.generation c.if-not-self.false (sym c.plan.ensures.value ∙ c.in-Some.is) c.if-self-run.true)

pub returns-then-self-run-clause-order : goal.returns-then-self-run-clause-order
returns-then-self-run-clause-order c =
    rw (c.end-then-self-run.ensures.step, c.end-then-self-run.ensures.rest)
    (empty_in_order c.args.self.now c.in-Some.run' c.args.media.now c.args.generation c.if-not-self.false (sym c.plan.ensures.value ∙ c.in-Some.is) c.if-self-run.true)

pub returns-then-self-run-clause-arm : goal.returns-then-self-run-clause-arm
returns-then-self-run-clause-arm c =
    rw c.end-then-self-run.ensures.rest (empty_arm c.args.self.now c.in-Some.run' c.args.media.now c.args.generation c.if-not-self.false (sym c.plan.ensures.value ∙ c.in-Some.is) c.if-self-run.true)

pub returns-then-not-move_next-clause-order : goal.returns-then-not-move_next-clause-order
returns-then-not-move_next-clause-order c =
    refused_in_order c.args.self.now c.in-Some.run' c.args.media.now c.args.generation c.move_next.new.self c.move_next.new.media c.if-not-self.false (sym c.plan.ensures.value ∙ c.in-Some.is) c.if-self-run.false (rw c.if-not-move_next.true at c.move_next.ensures)

pub returns-then-not-move_next-clause-arm : goal.returns-then-not-move_next-clause-arm
returns-then-not-move_next-clause-arm c =
    refused_arm c.args.self.now c.in-Some.run' c.args.media.now c.args.generation c.move_next.new.self c.move_next.new.media c.if-not-self.false (sym c.plan.ensures.value ∙ c.in-Some.is) c.if-self-run.false (rw c.if-not-move_next.true at c.move_next.ensures)

pub returns-then-self-run-2-clause-keeps : goal.returns-then-self-run-2-clause-keeps
returns-then-self-run-2-clause-keeps c =
    keeps_working c.args.self.now c.in-Some.run' c.args.media.now c.args.generation c.move_next.new.self c.move_next.new.media c.if-not-self.false (sym c.plan.ensures.value ∙ c.in-Some.is) c.if-self-run.false (rw c.if-not-move_next.false at c.move_next.ensures)

pub returns-then-self-run-2-clause-order : goal.returns-then-self-run-2-clause-order
returns-then-self-run-2-clause-order c =
    working_in_order c.args.self.now c.in-Some.run' c.args.media.now c.args.generation c.move_next.new.self c.move_next.new.media c.if-not-self.false (sym c.plan.ensures.value ∙ c.in-Some.is) c.if-self-run.false (rw c.if-not-move_next.false at c.move_next.ensures) c.if-self-run-2.true

pub returns-then-self-run-2-clause-arm : goal.returns-then-self-run-2-clause-arm
returns-then-self-run-2-clause-arm c =
    moved_arm c.args.self.now c.in-Some.run' c.args.media.now c.args.generation c.move_next.new.self c.move_next.new.media c.if-not-self.false (sym c.plan.ensures.value ∙ c.in-Some.is) c.if-self-run.false (rw c.if-not-move_next.false at c.move_next.ensures)

pub returns-clause-keeps : goal.returns-clause-keeps
returns-clause-keeps c =
    rw (c.end-2.ensures.step, c.end-2.ensures.rest)
    (keeps_last c.args.self.now c.in-Some.run' c.args.media.now c.args.generation c.move_next.new.self c.move_next.new.media c.if-not-self.false (sym c.plan.ensures.value ∙ c.in-Some.is) c.if-self-run.false (rw c.if-not-move_next.false at c.move_next.ensures) c.if-self-run-2.false)

pub returns-clause-order : goal.returns-clause-order
returns-clause-order c =
    rw (c.end-2.ensures.step, c.end-2.ensures.rest)
    (last_in_order c.args.self.now c.in-Some.run' c.args.media.now c.args.generation c.move_next.new.self c.move_next.new.media c.if-not-self.false (sym c.plan.ensures.value ∙ c.in-Some.is) c.if-self-run.false (rw c.if-not-move_next.false at c.move_next.ensures) c.if-self-run-2.false)

pub returns-clause-arm : goal.returns-clause-arm
returns-clause-arm c =
    rw c.end-2.ensures.rest (moved_arm c.args.self.now c.in-Some.run' c.args.media.now c.args.generation c.move_next.new.self c.move_next.new.media c.if-not-self.false (sym c.plan.ensures.value ∙ c.in-Some.is) c.if-self-run.false (rw c.if-not-move_next.false at c.move_next.ensures))
