use Rattle.std.proofs.Common.{ap, sym, ◌∙◌, arith}
use Rattle.std.specs.Prelude.{◌==◌}
use Rattle.std.specs.Int.{w8}
use Rattle.std.proofs.lemmas.Nat.Bits.{bit_at_set_same, bit_at_set_other, bit_at_clear_same, bit_at_clear_other}
use Rattle.bitmap.proofs.row.with_bit.Goals as goal

pub returns-then-on-clause-this : goal.returns-then-on-clause-this
returns-then-on-clause-this c = ap (λ x. x == 1) (bit_at_set_same w8 c.args.byte c.args.bit (omega arith)) ∙ sym c.if-on.true

pub returns-then-on-clause-others : goal.returns-then-on-clause-others
returns-then-on-clause-others c = λ j low ne. ap (λ x. x == 1) (bit_at_set_other w8 c.args.byte c.args.bit (omega arith) j ne)

pub returns-else-on-clause-this : goal.returns-else-on-clause-this
returns-else-on-clause-this c = ap (λ x. x == 1) (bit_at_clear_same w8 c.args.byte c.args.bit (omega arith)) ∙ sym c.if-on.false

pub returns-else-on-clause-others : goal.returns-else-on-clause-others
returns-else-on-clause-others c = λ j low ne. ap (λ x. x == 1) (bit_at_clear_other w8 c.args.byte c.args.bit (omega arith) j low ne)
