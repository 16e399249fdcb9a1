use Rattle.std.proofs.Common.{arith}
use Rattle.ninep.proofs.TextLaws.{first_is_read, none_at, split_some}
use Rattle.ninep.proofs.names.Names.split_first.Goals as goal

pub returns-then-self-eq0-clause-none : goal.returns-then-self-eq0-clause-none
returns-then-self-eq0-clause-none c = none_at c.args.self.now.count c.args.self.now.bytes.now c.if-self-eq0.true

pub returns-in_default-clause-none : goal.returns-in_default-clause-none
returns-in_default-clause-none c =
    first_is_read c.args.self.now.count c.args.self.now.bytes.now c.in_default.field-0 c.if-self-eq0.false c.args.self.now.whole
    c.in_default.ensures

pub invariant_of-result : goal.invariant_of-result
invariant_of-result c = record {
  whole =
      (split_some c.args.self.now.count c.args.self.now.bytes.now
      (c.in-Ok.name.now, c.in-Ok.bytes.now) c.if-self-eq0.false c.args.self.now.whole
      c.in-Ok.ensures).0;
  few = omega (arith, c.args.self.now.few);
}

pub returns-clause-some : goal.returns-clause-some
returns-clause-some c =
    (split_some c.args.self.now.count c.args.self.now.bytes.now
    (c.in-Ok.name.now, c.in-Ok.bytes.now) c.if-self-eq0.false c.args.self.now.whole
    c.in-Ok.ensures).1
