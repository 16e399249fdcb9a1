use Rattle.std.proofs.Common.{[], ◌∷◌, ◌++◌, length, arith, ap, sym, ◌∙◌, Vec, Global, ℕ}
use Rattle.changes.proofs.Marking.{next_marked, next_unmarked, marked_few}
use Rattle.shared_media.proofs.confined.marked_in.Goals as goal
use Rattle.shared_media.proofs.confined.marked_in.Goals.{then-has+in_ok-push, else-has}

pub loop-unit-preserved : goal.loop-unit-preserved
loop-unit-preserved c =
    elim c.if-has.branch [
      | then-has+in_ok-push w ↦
          ap (λ (v : Vec ℕ Global). v.items) w.numbers-is ∙ w.in_ok-push.ensures.items
          ∙ ap (λ l. l ++ c.loop-unit.unit ∷ []) c.loop-unit.invariant
          ∙ sym (next_marked c.args.marks.now c.loop-unit.unit (omega (arith, c.requires)) (sym c.has.ensures ∙ w.if-has.true))
      | else-has w ↦
          ap (λ (v : Vec ℕ Global). v.items) w.numbers-is ∙ c.loop-unit.invariant
          ∙ sym (next_unmarked c.args.marks.now c.loop-unit.unit (omega (arith, c.requires)) (sym c.has.ensures ∙ w.if-has.false))
    ]

pub returns-clause-few : goal.returns-clause-few
returns-clause-few c =
    omega (arith, ap length c.loop-unit.invariant, marked_few c.args.marks.now c.loop-unit.unit, c.requires)
