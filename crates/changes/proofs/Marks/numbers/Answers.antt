use Rattle.std.proofs.Common.{◌≡◌, List, [], ◌∷◌, ◌++◌, length, get_or, arith, ap, sym, ◌∙◌, Bool, false, Vec, Global, ℕ}
use Rattle.changes.proofs.Marking.{next_marked, next_unmarked, marked_few}
use Rattle.changes.proofs.Marks.numbers.Goals as goal
use Rattle.changes.proofs.Marks.numbers.Goals.{then-is_marked+in_ok-push, else-is_marked}

pub loop-number-preserved : goal.loop-number-preserved
loop-number-preserved c =
    let all : c.deref-is_marked-items.result.now ≡ c.args.self.now = c.deref-is_marked-items.ensures.value ∙ c.self.view_is in
    elim c.if-is_marked.branch [
      | then-is_marked+in_ok-push w ↦
          ap (λ (v : Vec ℕ Global). v.items) w.numbers-is ∙ w.in_ok-push.ensures.items
          ∙ ap (λ l. l ++ c.loop-number.number ∷ []) c.loop-number.invariant
          ∙ sym (next_marked c.args.self.now c.loop-number.number (omega (arith, ap length all))
          (ap (λ (l : List Bool). get_or l c.loop-number.number false) (sym all) ∙ w.if-is_marked.true))
      | else-is_marked w ↦
          ap (λ (v : Vec ℕ Global). v.items) w.numbers-is ∙ c.loop-number.invariant
          ∙ sym (next_unmarked c.args.self.now c.loop-number.number (omega (arith, ap length all))
          (ap (λ (l : List Bool). get_or l c.loop-number.number false) (sym all) ∙ w.if-is_marked.false))
    ]

pub returns-clause-few : goal.returns-clause-few
returns-clause-few c =
    omega (arith, ap length c.loop-number.invariant, marked_few c.args.self.now c.loop-number.number, ap length c.self.view_is, c.self.invariant)
