use Rattle.std.proofs.Common.{◌≤◌, ◌+◌, ◌-◌, sym, ◌∙◌, ap, arith, length}
use Rattle.stable.specs.Memory.{step_of}
use Rattle.stable.proofs.Writes.{left_by_other, left_below, left_past, set_there}
use Rattle.stable.proofs.memory.Happening.after.Goals as goal

pub returns-then-not-is_same : goal.returns-then-not-is_same
returns-then-not-is_same c d is = is ∙ sym (left_by_other c.args.self.now c.in-Write.to c.args.file c.in-Write.first c.args.n c.in-Write.units.items (ap step_of c.in-Write.is) d (sym c.is_same.ensures ∙ c.if-not-is_same.true))

pub returns-then-n-first : goal.returns-then-n-first
returns-then-n-first c d is = is ∙ sym (left_below c.args.self.now c.in-Write.to c.args.file c.in-Write.first c.args.n c.in-Write.units.items (ap step_of c.in-Write.is) d (sym c.is_same.ensures ∙ c.if-not-is_same.false) c.if-n-first.true)

pub returns-then-place-len : goal.returns-then-place-len
returns-then-place-len c d is =
    let past : c.in-Write.first + length c.in-Write.units.items ≤ c.args.n = omega (arith, c.if-place-len.true, c.if-n-first.false, c.len.ensures) in
    is ∙ sym (left_past c.args.self.now c.in-Write.to c.args.file c.in-Write.first c.args.n c.in-Write.units.items (ap step_of c.in-Write.is) d (sym c.is_same.ensures ∙ c.if-not-is_same.false) past)

pub returns-else-place-len : goal.returns-else-place-len
returns-else-place-len c d is =
    c.index.ensures ∙ sym (set_there c.args.self.now c.in-Write.to c.args.file c.in-Write.first c.args.n c.in-Write.units.items (ap step_of c.in-Write.is) d (c.args.n - c.in-Write.first) c.index.result.now (sym c.is_same.ensures ∙ c.if-not-is_same.false) (omega (arith, c.if-n-first.false)) (omega (arith, c.if-place-len.false, c.len.ensures)))
