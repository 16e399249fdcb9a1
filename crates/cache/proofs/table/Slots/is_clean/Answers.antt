use Rattle.std.proofs.Common.{Bool, true, false}
use Rattle.std.specs.Prelude.{not}
use Rattle.std.specs.Bool.{OnTrue, OnFalse}
use Rattle.cache.proofs.Turns.{all_clean, some_unclean, numbers_in}
use Rattle.cache.proofs.table.Slots.is_clean.Goals as goal

-- what is said of a test, said of its contrary
turned_true : {P Q : Type 0} (b : Bool) → (P → Q) → OnFalse b P → OnTrue (not b) Q
turned_true true f h = tt
turned_true false f h = f h

turned_false : {P Q : Type 0} (b : Bool) → (P → Q) → OnTrue b P → OnFalse (not b) Q
turned_false true f h = f h
turned_false false f h = tt

pub returns-clause-clean : goal.returns-clause-clean
returns-clause-clean c =
    let s = c.args.self.now in
    turned_true c.any_late.result (all_clean s.items.items s.uses.numbers.items s.winners.keys.items s.ranked) c.any_late.ensures.none

pub returns-clause-unclean : goal.returns-clause-unclean
returns-clause-unclean c =
    let s = c.args.self.now in
    turned_false c.any_late.result
    (some_unclean s.items.items s.uses.numbers.items s.winners.keys.items s.distinct s.ranked
    (numbers_in s.uses.numbers.items s.uses.next s.uses.below s.uses.bound) s.paired) c.any_late.ensures.some
